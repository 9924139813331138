-- One step after the other, to the one with which the session ends.
use Rattle.std.proofs.Common.{[], ◌++◌, sym, ◌∙◌}
use Rattle.statsd_cli.proofs.ServingLemmas.{begins_served, ended_so, served_on}
use Rattle.statsd_cli.proofs.save.serve_all.Goals as goal

pub frames-init : goal.frames-init
frames-init g c = ([], begins_served _ _ c.requires)

pub returns-in-Some : goal.returns-in-Some
returns-in-Some g c =
    let along = c.frames.invariant in
    let ends = ended_so _ _ _ _ _ c.step.result c.in-Some.ending (sym c.ending.ensures ∙ c.in-Some.is)
    (c.step.ensures _ along.0 along.1) in
    (along.0 ++ ends.come, ends.ended)

pub frames-smaller : goal.frames-smaller
frames-smaller g c =
    let along = c.frames.invariant in
    (served_on _ _ _ _ _ c.step.result (sym c.ending.ensures ∙ c.in_default.is)
    (c.step.ensures _ along.0 along.1)).1.nearer

pub frames-preserved : goal.frames-preserved
frames-preserved g c =
    let along = c.frames.invariant in
    let served = served_on _ _ _ _ _ c.step.result (sym c.ending.ensures ∙ c.in_default.is)
    (c.step.ensures _ along.0 along.1) in
    (along.0 ++ served.1.come, served.1.served)
