-- Whether a key is what is read, one leaf after the other.
use Rattle.std.proofs.Common.{◌≡◌, ℕ, zero, suc, ◌+◌, ◌&&◌, List, [], ◌∷◌, Some, map, drop, length, slice_get, ap, ◌∙◌, arith}
use Rattle.std.proofs.lemmas.Option.{none-some, same_Some}
use Rattle.atom_record.specs.declared.value.Leaf.{Leaf}
use Rattle.predicate_state.specs.PredicateTable.{same_leaves}
use Rattle.predicate_state.specs.PredicateTruths.{is_leaf}

-- nothing isn't as long as something
none_left : {X : Type 0} (first : X) (others : List X) → 0 ≡ length (first ∷ others) → ⊥
none_left first others size = omega (arith, size)

-- what is left from a place on is the same where the leaf at the place is, and what is left after it
module _ {X : Type 0} (f : X → Leaf) where
  left_on : (n : ℕ) (read : List Leaf) (leaves : List X) (leaf : X) → length read ≡ length leaves
      → slice_get leaves n ≡ Some leaf
      → same_leaves (drop n read) (map f (drop n leaves))
      ≡ (is_leaf (slice_get read n) (f leaf) && same_leaves (drop (suc n) read) (map f (drop (suc n) leaves)))
  left_on n read [] leaf size is = absurd (none-some leaf is)
  left_on n [] (other ∷ leaves) leaf size is = absurd (none_left other leaves size)
  left_on zero (first ∷ read) (other ∷ leaves) leaf size is =
      ap (λ l. is_leaf (Some first) (f l) && same_leaves read (map f leaves)) (same_Some other leaf is)
  left_on (suc n) (first ∷ read) (other ∷ leaves) leaf size is =
      left_on n read leaves leaf (omega (arith, size)) is

  pub reads_on : (n : ℕ) (read : List Leaf) (leaves : List X) (leaf : X) → length read ≡ length leaves
      → slice_get leaves n ≡ Some leaf
      → same_leaves (drop n read) (map f (drop n leaves))
      ≡ (is_leaf (slice_get read n) (f leaf) && same_leaves (drop (n + 1) read) (map f (drop (n + 1) leaves)))
  reads_on n read leaves leaf size is =
      let next : suc n ≡ n + 1 = omega arith in
      left_on n read leaves leaf size is
      ∙ ap (λ m. is_leaf (slice_get read n) (f leaf) && same_leaves (drop m read) (map f (drop m leaves))) next
