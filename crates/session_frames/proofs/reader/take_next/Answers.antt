-- Each turn takes more, up to what the judgement asks for.
use Rattle.std.proofs.Common.{◌≡◌, take, ap, ◌∙◌, arith}
use Rattle.session_frames.specs.Frames.{needed}
use Rattle.session_frames.proofs.ReaderLemmas.{more_held, held_nearer}
use Rattle.session_frames.proofs.reader.take_next.Goals as goal

pub reads-smaller : goal.reads-smaller
reads-smaller g c =
    let place = c.args.place.now in
    let held = c.reads.held in
    let is_goal : c.needed-goal.result ≡ needed place (take held c.reads.room.items) =
    c.needed-goal.ensures ∙ ap (λ l. needed place (take held l)) c.deref.ensures.value in
    held_nearer (g.S.Source.state c.args.src.now) (g.S.Source.state c.reads.src)
    (g.S.Source.state c.take_some.new.src) place c.reads.room.items c.take_some.new.room.items held
    c.needed-goal.result c.in_ok-count.count c.reads.invariant c.in_ok-count.ensures.takes is_goal
    c.if-held-goal.false (omega (arith, c.if-count-eq0.false))

pub reads-preserved : goal.reads-preserved
reads-preserved g c =
    let place = c.args.place.now in
    let held = c.reads.held in
    let is_goal : c.needed-goal.result ≡ needed place (take held c.reads.room.items) =
    c.needed-goal.ensures ∙ ap (λ l. needed place (take held l)) c.deref.ensures.value in
    more_held (g.S.Source.state c.args.src.now) (g.S.Source.state c.reads.src)
    (g.S.Source.state c.take_some.new.src) place c.reads.room.items c.take_some.new.room.items held
    c.needed-goal.result c.in_ok-count.count c.reads.invariant c.in_ok-count.ensures.takes is_goal
    c.if-held-goal.false c.in_ok-count.ensures.cause.later
