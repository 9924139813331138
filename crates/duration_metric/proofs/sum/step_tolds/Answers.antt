-- The span of the key of one place more was taken to the time.
use Rattle.std.proofs.Common.{slice_get, slice_index, take, arith, sym, ap, subst, ◌∙◌}
use Rattle.std.proofs.lemmas.List.{take_all, take_more}
use Rattle.duration_metric.specs.Tallies.{is_counted}
use Rattle.duration_metric.specs.SumSteps.{found_told, tolds_at, StepsSome}
use Rattle.duration_metric.proofs.ReleaseLemmas.{tolds-push}
use Rattle.duration_metric.proofs.ChangedLemmas.{steps_none, steps_more}
use Rattle.duration_metric.proofs.sum.step_tolds.Goals as goal

pub loop-place-init : goal.loop-place-init
loop-place-init c = steps_none (is_counted c.args.tally.now) c.args.at c.args.table.now

pub loop-place-preserved : goal.loop-place-preserved
loop-place-preserved c =
    let rows = c.args.keys.now.rows in
    let places = c.args.places.now in
    let i = c.loop-place.place-index in
    let place = slice_index places i in
    let is_active = is_counted c.args.tally.now in
    subst (λ some. StepsSome c.args.table.now c.step_told.new.table some is_active c.args.at)
    (sym (ap (tolds_at rows) (take_more places i 0 c.loop-place-test.true) ∙ tolds-push rows (take i places) place))
    (steps_more is_active c.args.at c.args.table.now c.loop-place.table c.step_told.new.table
    (tolds_at rows (take i places)) (found_told (slice_get rows place)) c.loop-place.invariant c.step_told.ensures)

-- all were
pub returns : goal.returns
returns c =
    let ends = c.loop-place-test.false in
    let places = c.args.places.now in
    subst (λ some. StepsSome c.args.table.now c.loop-place.table (tolds_at c.args.keys.now.rows some)
    (is_counted c.args.tally.now) c.args.at)
    (take_all c.loop-place.place-index places (omega (arith, ends))) c.loop-place.invariant
