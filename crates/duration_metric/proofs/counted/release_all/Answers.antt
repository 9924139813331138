-- The row at one place more was looked at.
use Rattle.std.proofs.Common.{◌+◌, [], take, drop, slice_get, slice_index, arith, sym, ap, subst, ◌∙◌}
use Rattle.std.proofs.lemmas.List.{drop_more, drop_all, take_all, take_more}
use Rattle.duration_metric.specs.Tallies.{NewZeros}
use Rattle.duration_metric.specs.SumSteps.{found_told, tolds_at, ReleasesPlaces}
use Rattle.duration_metric.proofs.ReleaseLemmas.{tolds-push, releases_none, releases_more}
use Rattle.duration_metric.proofs.ZerosLemmas.{zeros_none, zeros_more}
use Rattle.duration_metric.proofs.counted.release_all.Goals as goal

pub loop-place-init : goal.loop-place-init
loop-place-init c = (
  releases_none c.args.keys.now c.args.tally.now c.args.places.now,
  zeros_none c.args.tally.now,
)

pub loop-place-preserved : goal.loop-place-preserved
loop-place-preserved c =
    let places = c.args.places.now in
    let i = c.loop-place.place-index in
    let place = slice_index places i in
    let first = c.args.keys.now in
    let mid = c.loop-place.keys in
    let last = c.release_at.new.keys in
    let before = c.args.tally.now in
    let some = c.loop-place.tally in
    let now = c.release_at.new.tally in
    let done = tolds_at first.rows (take i places) in
    let here = found_told (slice_get first.rows place) in
    let next = sym (ap (tolds_at first.rows) (take_more places i 0 c.loop-place-test.true)
    ∙ tolds-push first.rows (take i places) place) in (
      subst (ReleasesPlaces first last before now places (drop (i + 1) places)) next
          (releases_more first mid last before some now places (drop (i + 1) places) done place
          (subst (λ left. ReleasesPlaces first mid before some places left done)
          (drop_more places i 0 c.loop-place-test.true) c.loop-place.invariant.0)
          c.in_ok-release_at.ensures.counts),
      subst (NewZeros before now) next
          (zeros_more before some now done here c.loop-place.invariant.1
          (subst (NewZeros some now) (c.loop-place.invariant.0.tolds_stay place) c.in_ok-release_at.ensures.zeros)),
    )

-- all were
pub returns-clause-counts : goal.returns-clause-counts
returns-clause-counts c =
    let ends = c.loop-place-test.false in
    let places = c.args.places.now in
    let first = c.args.keys.now in
    subst (λ done. ReleasesPlaces first c.loop-place.keys c.args.tally.now c.loop-place.tally places []
    (tolds_at first.rows done))
    (take_all c.loop-place.place-index places (omega (arith, ends)))
    (subst (λ left. ReleasesPlaces first c.loop-place.keys c.args.tally.now c.loop-place.tally places left
    (tolds_at first.rows (take c.loop-place.place-index places)))
    (drop_all c.loop-place.place-index places (omega (arith, ends))) c.loop-place.invariant.0)

pub returns-clause-zeros : goal.returns-clause-zeros
returns-clause-zeros c =
    let ends = c.loop-place-test.false in
    let places = c.args.places.now in
    subst (λ done. NewZeros c.args.tally.now c.loop-place.tally (tolds_at c.args.keys.now.rows done))
    (take_all c.loop-place.place-index places (omega (arith, ends))) c.loop-place.invariant.1
