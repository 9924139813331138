-- One more atom is read, or its fault is that of the whole.
use Rattle.std.proofs.Common.{[], ◌∷◌, arith}
use Rattle.std.proofs.lemmas.List.Elements.{All-push}
use Rattle.std.proofs.lemmas.Result.{err_from_is_err_and}
use Rattle.std.proofs.lemmas.List.{length-append}
use Rattle.sd_base.specs.Reads.{many}
use Rattle.sd_base.proofs.ReadsLemmas.{loop-next, loop-fails, loop-done}
use Rattle.session_frames.specs.Faultless.{IsPulledAtom}
use Rattle.session_frames.specs.FrameReading.{pulled_at}
use Rattle.session_frames.specs.Bodies.{fault_in}
use Rattle.session_frames.proofs.body.read_atoms.Goals as goal

pub returns-in_err-atom-clause-exact : goal.returns-in_err-atom-clause-exact
returns-in_err-atom-clause-exact c =
    let p = err_from_is_err_and c.from_residual.result c.from_residual.ensures.1 in
    rw (p.1, p.2) (loop-fails (pulled_at c.args.id) c.loop-turn.atoms c.loop-turn._turn c.args.count
    c.loop-turn.rest.now (many (pulled_at c.args.id) c.args.count c.args.bytes.now) c.loop-turn.invariant.reads
    (fault_in c.in_err-atom.field-0.0) c.loop-turn-test.true c.in_err-atom.ensures.exact)

pub loop-turn-preserved : goal.loop-turn-preserved
loop-turn-preserved c = rw c.in_ok-push.ensures.added (record {
  reads = loop-next (pulled_at c.args.id) c.loop-turn.atoms c.loop-turn._turn c.args.count c.loop-turn.rest.now
      (many (pulled_at c.args.id) c.args.count c.args.bytes.now) c.loop-turn.invariant.reads c.in_ok-atom.atom
      c.in_ok-atom.after.now c.loop-turn-test.true c.in_ok-atom.ensures.exact;
  some = omega (arith, length-append c.loop-turn.atoms (c.in_ok-atom.atom ∷ []), c.loop-turn.invariant.some);
  sound = All-push (IsPulledAtom c.args.id) c.loop-turn.atoms c.in_ok-atom.atom c.loop-turn.invariant.sound
      c.in_ok-atom.ensures.sound;
})

pub returns-clause-exact : goal.returns-clause-exact
returns-clause-exact c =
    loop-done (pulled_at c.args.id) c.loop-turn.atoms c.loop-turn._turn c.args.count c.loop-turn.rest.now
    (many (pulled_at c.args.id) c.args.count c.args.bytes.now) c.loop-turn.invariant.reads c.loop-turn-test.false
