-- One bucket more was added, or all others were counted.
use Rattle.std.proofs.Common.{◌≡◌, length, arith, sym}
use Rattle.dim_table.specs.Table.{keys}
use Rattle.metric_kinds.specs.Counts.{row_weight}
use Rattle.duration_metric.proofs.StepLemmas.{adds_no_key, adds_bucket, adds_rest, bucket_fits, keys-length}
use Rattle.duration_metric.proofs.sum.keep_full.Goals as goal

-- without keys there are no rows
pub returns-then-active-eq0 : goal.returns-then-active-eq0
returns-then-active-eq0 c fits =
    let crossings = c.args.crossings.now in
    let none : length (keys c.args.table.now) ≡ 0 =
    omega (arith, keys-length c.args.table.now.rows, c.len-active.ensures.value, c.if-active-eq0.true) in
    adds_no_key crossings.first_end crossings.size crossings.full_buckets (keys c.args.table.now) c.args.kept.now none

-- none fits any more
pub returns-then-is_full : goal.returns-then-is_full
returns-then-is_full c fits =
    let crossings = c.args.crossings.now in
    let so_far = c.loop-turn.invariant fits in
    let more = c.loop-turn-test.true in
    let count : c.len-active.result ≡ length (keys c.args.table.now) =
    omega (arith, keys-length c.args.table.now.rows, c.len-active.ensures.value) in
    adds_rest crossings.first_end crossings.size c.loop-turn.turn crossings.full_buckets c.saturating_mul.result
    (keys c.args.table.now) c.args.kept.now c.loop-turn.kept c.pass.new.self (omega (arith, more))
    (rw (sym count) (omega (arith, c.saturating_mul.ensures))) so_far.1 (c.pass.ensures row_weight)

-- one bucket more
pub loop-turn-preserved : goal.loop-turn-preserved
loop-turn-preserved c fits =
    let crossings = c.args.crossings.now in
    let so_far = c.loop-turn.invariant fits in
    let more = c.loop-turn-test.true in
    let inside = bucket_fits crossings.first_end crossings.size c.loop-turn.turn crossings.full_buckets
    (omega (arith, more)) fits in (
      omega (arith, so_far.0, inside.0, inside.1, c.saturating_add-start.ensures),
      adds_bucket crossings.first_end crossings.size c.loop-turn.turn c.loop-turn.start (keys c.args.table.now)
          c.args.kept.now c.loop-turn.kept c.keep_bucket.new.kept so_far.0 so_far.1
          (c.in_ok-keep_bucket.ensures (omega (arith, so_far.0, inside.0))),
    )
