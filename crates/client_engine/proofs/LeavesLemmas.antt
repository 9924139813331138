-- The values of a key, one more leaf at a time.
use Rattle.std.proofs.Common.{◌≡◌, ℕ, ◌+◌, List, [], ◌∷◌, ◌++◌, length, sym, ap, ◌∙◌, append_assoc, arith}
use Rattle.std.proofs.lemmas.List.{append-nil}
use Rattle.atom_record.specs.declared.value.Leaf.{Leaf}
use Rattle.metric_meaning.specs.KeyTrees.{leaf_trees, shown_place, key_trees}

-- one more leaf has the next place
pub key_trees-push : (place : ℕ) (leaves : List Leaf) (leaf : Leaf)
    → key_trees place (leaves ++ leaf ∷ [])
    ≡ key_trees place leaves ++ leaf_trees (shown_place (place + length leaves)) leaf
key_trees-push place [] leaf =
    append-nil (leaf_trees (shown_place place) leaf) ∙ ap (λ at. leaf_trees (shown_place at) leaf) (omega arith)
key_trees-push place (first ∷ leaves) leaf =
    let here = leaf_trees (shown_place place) first in
    ap (λ trees. here ++ trees) (key_trees-push (place + 1) leaves leaf)
    ∙ ap (λ at. here ++ (key_trees (place + 1) leaves ++ leaf_trees (shown_place at) leaf)) (omega arith)
    ∙ sym (append_assoc here (key_trees (place + 1) leaves)
    (leaf_trees (shown_place (place + length (first ∷ leaves))) leaf))
