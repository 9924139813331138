-- The rows of each bucket in its turn are kept or counted, and then the others are counted alone.
use Rattle.std.proofs.Common.{◌-◌, ◌*◌, ◌^◌, min, ap, ◌∙◌}
use Rattle.gauge_metric.proofs.RepeatedLemmas.{gone_none, gone_more, gone_all, gone_passed, gone_empty}
use Rattle.gauge_metric.proofs.repeated.keep_again.Goals as goal

-- none of them yet
pub loop-done-init : goal.loop-done-init
loop-done-init c = gone_none c.args.kept.now c.args.table.now.rows c.args.crossings

-- one more
pub loop-done-preserved : goal.loop-done-preserved
loop-done-preserved c =
    gone_more c.args.kept.now c.args.table.now.rows c.args.crossings c.loop-done.kept c.keep_copies.new.kept
    c.loop-done.start c.loop-done.done c.saturating_add-end.result c.loop-done.invariant c.loop-done-test.true
    c.saturating_add-end.ensures c.in_ok-keep_copies.ensures

-- all of them
pub returns : goal.returns
returns c =
    gone_all c.args.kept.now c.args.table.now.rows c.args.crossings c.loop-done.kept c.loop-done.start c.loop-done.done
    c.loop-done.invariant c.loop-done-test.false

-- where there is no sample, there is no row
pub returns-then-is_empty : goal.returns-then-is_empty
returns-then-is_empty c =
    gone_empty c.args.kept.now c.args.table.now.rows c.args.crossings (c.is_empty.ensures.0 c.if-is_empty.true)

-- the others were counted
pub returns-then-is_full : goal.returns-then-is_full
returns-then-is_full c =
    gone_passed c.args.kept.now c.args.table.now.rows c.args.crossings c.loop-done.kept c.pass.new.self
    c.loop-done.start c.loop-done.done c.saturating_mul.result c.loop-done.invariant
    (c.saturating_mul.ensures
    ∙ ap (λ n. min ((c.args.crossings.full_buckets - c.loop-done.done) * n) (2 ^ 64 - 1)) c.len.ensures.value)
    c.pass.ensures
