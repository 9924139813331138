-- One table more.
use Rattle.std.proofs.Common.{ap, ◌∙◌, ◌+◌, unwrap_or}
use Rattle.bucket_meaning.specs.Kept.{count_in_u64}
use Rattle.alert_watch.proofs.SumsLemmas.{sum_zero, sum_more, sum_all}
use Rattle.alert_watch.proofs.window.sum_of.Goals as goal

pub loop-table-init : goal.loop-table-init
loop-table-init c = sum_zero c.args.key.now c.args.tables.now

pub loop-table-preserved : goal.loop-table-preserved
loop-table-preserved c =
    let number = c.unwrap_or-number.ensures ∙ ap (λ o. unwrap_or o 0) (c.copied.ensures ∙ c.find.ensures) in
    sum_more c.args.key.now c.args.tables.now c.loop-table.table-index c.table-item.result c.loop-table.sum
    c.saturating_add-sum.result c.loop-table-test.true c.table-item.is c.loop-table.invariant
    (c.saturating_add-sum.ensures ∙ ap (λ n. count_in_u64 (c.loop-table.sum + n)) number)

pub returns : goal.returns
returns c =
    sum_all c.args.key.now c.args.tables.now c.loop-table.table-index c.loop-table.sum c.loop-table-test.false
    c.loop-table.invariant
