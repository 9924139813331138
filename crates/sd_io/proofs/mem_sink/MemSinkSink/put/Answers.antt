-- What was written is the piece, or of a failed put a front of it: what fits, or nothing.
use Rattle.std.proofs.Common.{◌≡◌, ◌-◌, ◌≤◌, ◌++◌, length, refl, ap, ◌∙◌, subst, arith, rules, vec_len}
use Rattle.std.proofs.lemmas.List.{take_all}
use Rattle.sd_io.specs.MemSink.{SinkContents}
use Rattle.sd_io.proofs.MemLemmas.{AppendsFront-take, AppendsFront-nil}
use Rattle.sd_io.proofs.mem_sink.MemSinkSink.put.Goals as goal
use Rattle.sd_io.proofs.mem_sink.MemSinkSink.put.Goals.{else-not-fails-via-then-not-fails+else-append, else-not-fails-via-else-not-fails}

pub returns-then-append-clause-put : goal.returns-then-append-clause-put
returns-then-append-clause-put c =
    let left = c.self.inside.room - vec_len c.self.inside.bytes in
    let fits : length c.args.piece.now ≤ left = omega (arith, c.if-append.ensures.whole.0 refl) in
    record {
      bytes = subst (λ (sink : SinkContents). c.append.new.bytes.items ≡ sink.written ++ c.args.piece.now)
          c.self.view_is
          (c.append.ensures.front ∙ ap (λ l. c.self.inside.bytes.items ++ l) (take_all left c.args.piece.now fits));
      cause = search rules;
    }

pub returns-clause-put : goal.returns-clause-put
returns-clause-put c =
    record {
      bytes = elim c.else-not-fails.branch [
        | else-not-fails-via-then-not-fails+else-append w ↦
            let left = c.self.inside.room - vec_len c.self.inside.bytes in
            AppendsFront-take _ _ left _ (grind (arith, w.append.ensures.front))
        | else-not-fails-via-else-not-fails w ↦ AppendsFront-nil _ _ _ (grind arith)
      ];
      cause = search rules;
    }

-- a call that is to fail writes nothing
pub returns-clause-nothing : goal.returns-clause-nothing
returns-clause-nothing c = search rules
