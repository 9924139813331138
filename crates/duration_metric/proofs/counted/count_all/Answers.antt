-- The row at one place more is in the tally.
use Rattle.std.proofs.Common.{◌+◌, [], take, drop, slice_index, arith, sym, subst}
use Rattle.std.proofs.lemmas.List.{drop_more, drop_all, take_all, take_more}
use Rattle.duration_metric.specs.SumSteps.{Recounts}
use Rattle.duration_metric.proofs.BegunLemmas.{Begun, begun_none, begun_more, begun_outs}
use Rattle.duration_metric.proofs.RecountLemmas.{recounts_none, recounts_more}
use Rattle.duration_metric.proofs.ZerosLemmas.{zeros_none, zeros_more}
use Rattle.duration_metric.proofs.counted.count_all.Goals as goal

pub loop-place-init : goal.loop-place-init
loop-place-init c = (
  recounts_none c.args.keys.now c.args.tally.now c.args.places.now,
  subst (Begun c.args.keys.now c.args.keys.now c.args.tally.now c.args.tally.now []) (sym c.new-began.ensures)
      (begun_none c.args.keys.now c.args.tally.now),
  zeros_none c.args.tally.now,
)

pub loop-place-preserved : goal.loop-place-preserved
loop-place-preserved c =
    let places = c.args.places.now in
    let i = c.loop-place.place-index in
    let place = slice_index places i in
    let first = c.args.keys.now in
    let mid = c.loop-place.keys in
    let last = c.count_at.new.keys in
    let before = c.args.tally.now in
    let some = c.loop-place.tally in
    let now = c.count_at.new.tally in
    let counts = subst (Recounts first mid before some places) (drop_more places i 0 c.loop-place-test.true)
    c.loop-place.invariant.0 in (
      recounts_more first mid last before some now places (drop (i + 1) places) place counts c.loop-place.began
          c.count_at.new.began c.in_ok-count_at.ensures.counts,
      subst (λ done. Begun first last before now done c.count_at.new.began)
          (sym (take_more places i 0 c.loop-place-test.true))
          (begun_more first mid last before some now places (drop (i + 1) places) (take i places) c.loop-place.began
          place counts c.requires.right c.loop-place.invariant.1 c.count_at.new.began c.in_ok-count_at.ensures.counts),
      zeros_more before some now [] [] c.loop-place.invariant.2 c.in_ok-count_at.ensures.zeros,
    )

-- all are
pub returns-clause-counts : goal.returns-clause-counts
returns-clause-counts c =
    let ends = c.loop-place-test.false in
    let places = c.args.places.now in
    subst (Recounts c.args.keys.now c.loop-place.keys c.args.tally.now c.loop-place.tally places)
    (drop_all c.loop-place.place-index places (omega (arith, ends))) c.loop-place.invariant.0

pub returns-clause-begins : goal.returns-clause-begins
returns-clause-begins c =
    let ends = c.loop-place-test.false in
    let places = c.args.places.now in
    begun_outs c.args.keys.now c.loop-place.keys c.args.tally.now c.loop-place.tally places c.loop-place.began
    (subst (λ done. Begun c.args.keys.now c.loop-place.keys c.args.tally.now c.loop-place.tally done c.loop-place.began)
    (take_all c.loop-place.place-index places (omega (arith, ends))) c.loop-place.invariant.1)

-- the tally of the rows so far is right
pub count_at-requires : goal.count_at-requires
count_at-requires c =
    let right = c.requires.right in
    record { right = (right.0, c.loop-place.invariant.0.tally_is right.0 right.1, right.2) }
