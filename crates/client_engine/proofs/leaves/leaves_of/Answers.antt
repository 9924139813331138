-- One more leaf has the next place.
use Rattle.std.proofs.Common.{◌≡◌, ◌+◌, ◌∷◌, [], ◌∙◌, ◌++◌, List, length, sym, ap, append_assoc, arith}
use Rattle.std.proofs.lemmas.List.{length_push}
use Rattle.atom_record.specs.declared.value.Leaf.{Leaf}
use Rattle.metric_meaning.specs.KeyTrees.{leaf_trees, shown_place, key_trees}
use Rattle.client_engine.proofs.LeavesLemmas.{key_trees-push}
use Rattle.client_engine.proofs.leaves.leaves_of.Goals as goal

-- one more leaf was added
pub loop-leaf-preserved : goal.loop-leaf-preserved
loop-leaf-preserved c =
    let done : List Leaf = c.loop-leaf.invariant.0 in
    let leaf = c.in-Some.leaf in
    let at = c.loop-leaf.invariant.1.1 in
    let here : c.loop-leaf.place ≡ shown_place (0 + length done) = omega (arith, at) in (
      done ++ leaf ∷ [],
      (
        c.in_ok-add_leaf.ensures
            ∙ ap (λ trees. trees ++ leaf_trees c.loop-leaf.place leaf) c.loop-leaf.invariant.1.0
            ∙ ap (λ place. key_trees 0 done ++ leaf_trees place leaf) here
            ∙ sym (key_trees-push 0 done leaf),
        omega (arith, length_push done leaf, at, c.saturating_add-place.ensures),
        append_assoc done (leaf ∷ []) c.next.new.self
            ∙ ap (λ (leaves : List Leaf). done ++ leaves) (sym c.in-Some.ensures.steps)
            ∙ c.loop-leaf.invariant.1.2,
      ),
    )
