-- A table finds the place that a search from the first leaf on does.
use Rattle.std.proofs.Common.{◌≡◌, List, Option, position, subst, ap, ◌∙◌}
use Rattle.std.specs.Option.{IfSome}
use Rattle.distinct.specs.Places.{first_place}
use Rattle.field_select.specs.declared.leaf.LeafPath.{LeafPath}
use Rattle.field_select.specs.contracts.leaf.LeafPathPartialEq.TheImpl.Laws.{laws-law}
use Rattle.field_select.specs.FieldSets.{same_leaf}
use Rattle.condition_links.proofs.links.place_of.Goals as goal

-- the test may be turned around
turned : (leaf : LeafPath) (leaves : List LeafPath)
    → first_place (same_leaf leaf) leaves ≡ position (λ other. same_leaf other leaf) leaves
unfolding first_place
turned leaf leaves = λ i. position (λ other. laws-law.symm leaf other i) leaves

pub returns-in-Some : goal.returns-in-Some
returns-in-Some c =
    let those = subst (λ (table : Option (List LeafPath)). IfSome table (λ found. found ≡ c.args.leaves.now))
    c.in-Some.is
    c.requires in
    c.place.ensures.place ∙ ap (first_place (same_leaf c.args.leaf.now)) those
    ∙ turned c.args.leaf.now c.args.leaves.now
