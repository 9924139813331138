use Rattle.std.proofs.Common.{◌≡◌, ◌∙◌, arith, rules}
use Rattle.std.proofs.lemmas.Grind.{common_steps}
use Rattle.field_select.specs.LeafValues.{some_leaf_picks}
use Rattle.field_select.proofs.EndTableLemmas.{picks_by_tables}
use Rattle.field_select.proofs.picked.picked_entries.Goals.{then-some_picks+in_ok-duplicate+in_ok-push, else-some_picks}
use Rattle.field_select.proofs.picked.picked_entries.Goals as goal

-- the tables say whether some leaf picks the entry
pub loop-entry-preserved : goal.loop-entry-preserved
loop-entry-preserved c =
    let told = picks_by_tables c.args.leaves.now c.args.entries.now c.entry-item.result _ _
    (c.ends_of-first.ensures c.entry-item.result.field (omega arith))
    (c.ends_of-last.ensures c.entry-item.result.field (omega arith)) in
    let is : c.some_picks.result ≡ some_leaf_picks c.args.leaves.now c.args.entries.now c.entry-item.result =
    c.some_picks.ensures ∙ told in
    elim c.if-some_picks.branch [
      | then-some_picks+in_ok-duplicate+in_ok-push w ↦ search (rules, common_steps, is)
      | else-some_picks w ↦ search (rules, common_steps, is)
    ]
