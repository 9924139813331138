-- One more row has a key; and once all were gone through, all have.
use Rattle.std.proofs.Common.{rules, All, subst, take_all}
use Rattle.std.proofs.lemmas.List.Elements.{All-more}
use Rattle.report_show.specs.WellFormed as well
use Rattle.report_show.proofs.shape.have_keys.Goals as goal

pub loop-row-preserved : goal.loop-row-preserved
loop-row-preserved c =
    let row = c.row-item.result in
    let here : well.IsShapedRow row = search rules in
    All-more well.IsShapedRow c.args.rows.now c.loop-row.row-index row c.loop-row-test.true c.loop-row.invariant
    (subst well.IsShapedRow c.row-item.is here)

pub returns : goal.returns
returns c =
    let all = subst (All well.IsShapedRow) (take_all c.loop-row.row-index c.args.rows.now c.loop-row-test.false)
    c.loop-row.invariant in
    (λ _. all, λ _. search rules)
