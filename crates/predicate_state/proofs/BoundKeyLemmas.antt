-- Binds that stand in order name the key of their values.
use Rattle.std.proofs.Common.{◌≡◌, ℕ, ◌≢◌, zero, suc, ◌+◌, ◌<◌, ◌≤◌, ◌&&◌, ◌==◌, Bool, true, false, List, [], ◌∷◌, length, take, get_or, slice_get, Some, refl, sym, ap, ◌∙◌, arith}
use Rattle.std.proofs.lemmas.Bool.{true≢false}
use Rattle.std.proofs.lemmas.Bool.Decides.{Decides-eqb}
use Rattle.std.proofs.lemmas.List.{length-map, get_or-map, take_more_same, take_all}
use Rattle.std.proofs.lemmas.List.Folds.{list_any_at}
use Rattle.std.proofs.lemmas.Option.{slice_get-get_or, get_or_from_slice_get}
use Rattle.std.specs.Cmp.Lexicographic.{pointwise_decides}
use Rattle.atom_record.specs.declared.value.Leaf.{Leaf}
use Rattle.atom_record.specs.declared.value.Leaf.TheVariants.{Missing}
use Rattle.atom_record.specs.contracts.value.LeafPartialEq.TheImpl as leaf_test
use Rattle.atom_record.specs.Equal.{leaf_exact}
use Rattle.predicate_state.specs.declared.bind.Bind.{Bind}
use Rattle.predicate_state.specs.PredicateTable.{PredicateTable, LeafKey, HaveLeaves, same_leaves}
use Rattle.predicate_state.specs.PredicateTruths.{is_leaf, agrees, is_place_bound, are_leaves_bound, key_truth, binds_truth, NamesKey}
use Rattle.predicate_state.specs.BoundKeys.{bound_key, AreInOrder}
use Rattle.predicate_state.proofs.OneKeyLemmas.{not_same, named_truth}

no_bind : Bind
no_bind = record { place = 0; value = Missing }

-- a bind of the place that has its turn binds that place
bound_here : (binds : List Bind) (place : ℕ) → place < length binds → (get_or binds place no_bind).place ≡ place
    → is_place_bound binds place ≡ true
bound_here binds place within is =
    list_any_at (λ (bind : Bind). bind.place == place) binds place no_bind within
    ((Decides-eqb (get_or binds place no_bind).place place).1 is)

-- so each of the first places is bound
bound_up_to : (binds : List Bind) (count : ℕ) → count ≤ length binds
    → ((at : ℕ) → at < count → (get_or binds at no_bind).place ≡ at) → are_leaves_bound binds count ≡ true
bound_up_to binds zero few each = refl
bound_up_to binds (suc count) few each =
    let before : are_leaves_bound binds count ≡ true =
    bound_up_to binds count (omega (arith, few)) (λ at within. each at (omega (arith, within))) in
    let here : is_place_bound binds count ≡ true =
    bound_here binds count (omega (arith, few)) (each count (omega arith)) in
    ap (λ b. b && is_place_bound binds count) before ∙ here

-- a leaf that stands there is the one that is asked for
is_it : (key : LeafKey) (bind : Bind) (at : ℕ) → bind.place ≡ at → slice_get key at ≡ Some bind.value
    → is_leaf (slice_get key bind.place) bind.value ≡ true
is_it key bind at turn there =
    ap (λ found. is_leaf found bind.value) (ap (slice_get key) turn ∙ there) ∙ (leaf_exact bind.value bind.value).1 refl

-- the binds that are left agree with a key that has their values from here on
agree_from : (binds : List Bind) (key : LeafKey) (from : ℕ)
    → ((at : ℕ) → at < length binds → (get_or binds at no_bind).place ≡ from + at)
    → ((at : ℕ) → at < length binds → slice_get key (from + at) ≡ Some (get_or binds at no_bind).value)
    → agrees binds key ≡ true
agree_from [] key from turns values = refl
agree_from (bind ∷ binds) key from turns values =
    let here : is_leaf (slice_get key bind.place) bind.value ≡ true =
    is_it key bind (from + 0) (turns 0 (omega arith)) (values 0 (omega arith)) in
    let next : (at : ℕ) → from + suc at ≡ suc from + at = λ at. omega arith in
    let rest : agrees binds key ≡ true =
    agree_from binds key (suc from) (λ at within. turns (suc at) (omega (arith, within)) ∙ next at)
    (λ at within. ap (slice_get key) (sym (next at)) ∙ values (suc at) (omega (arith, within))) in
    ap (λ b. b && agrees binds key) here ∙ rest

-- what stands in a key of values
value_there : (binds : List Bind) (at : ℕ) → at < length binds
    → slice_get (bound_key binds) at ≡ Some (get_or binds at no_bind).value
value_there [] at within = absurd (omega (arith, within))
value_there (bind ∷ binds) zero within = refl
value_there (bind ∷ binds) (suc at) within = value_there binds at (omega (arith, within))

-- the value of the bind at a place stands there in the key
pub value_read : (binds : List Bind) (at : ℕ) (none : Bind) (missing : Leaf) → at < length binds
    → (get_or binds at none).value ≡ get_or (bound_key binds) at missing
value_read binds at none missing within = sym (get_or-map (λ (b : Bind). b.value) binds at none missing within)

-- the leaf at a place is what is read there
pub leaf_read : (key : LeafKey) (at : ℕ) → at < length key
    → get_or key at Missing ≡ get_or key at (get_or key at Missing)
leaf_read key at within =
    let leaf = get_or key at Missing in
    sym (get_or_from_slice_get key at leaf leaf (slice_get-get_or key at Missing within))

-- what a test says of the leaf at a place
module _ (key : LeafKey) (at : ℕ) (value : Leaf) (test : Bool) (within : at < length key)
    (told : test ≡ is_leaf (slice_get key at) value) where
  told_is : test ≡ leaf_test.ghosts.eq (get_or key at Missing) value
  told_is = told ∙ ap (λ found. is_leaf found value) (slice_get-get_or key at Missing within)

  pub told_same : test ≡ true → value ≡ get_or key at Missing
  told_same holds = sym ((leaf_exact (get_or key at Missing) value).0 (sym told_is ∙ holds))

  pub told_apart : test ≡ false → value ≢ get_or key at Missing
  told_apart fails same =
      true≢false (sym ((leaf_exact (get_or key at Missing) value).1 (sym same)) ∙ sym told_is ∙ fails)

-- one value more is the same
pub values_more : (binds : List Bind) (key : LeafKey) (at : ℕ) (bind : Bind) (leaf : Leaf) → at < length binds
    → at < length key → leaf ≡ get_or key at leaf → (get_or binds at bind).value ≡ leaf
    → take at (bound_key binds) ≡ take at key → take (at + 1) (bound_key binds) ≡ take (at + 1) key
values_more binds key at bind leaf within within_key stands same before =
    take_more_same (bound_key binds) key at leaf
    (omega (arith, within, length-map binds (λ (b : Bind). b.value))) within_key before
    (sym (value_read binds at bind leaf within) ∙ same ∙ stands)

-- a key of the same values
pub values_same : (binds : List Bind) (key : LeafKey) (at : ℕ) → length binds ≡ length key → length binds ≤ at
    → take at (bound_key binds) ≡ take at key → true ≡ same_leaves (bound_key binds) key
values_same binds key at size past same =
    let values = length-map binds (λ (b : Bind). b.value) in
    let one : take at (bound_key binds) ≡ bound_key binds =
    take_all at (bound_key binds) (omega (arith, values, past)) in
    let other : take at key ≡ key = take_all at key (omega (arith, size, past)) in
    sym ((pointwise_decides leaf_exact (bound_key binds) key).1 (sym one ∙ same ∙ other))

-- a value that differs
pub value_differs : (binds : List Bind) (key : LeafKey) (at : ℕ) (bind : Bind) (leaf : Leaf) → at < length binds
    → leaf ≡ get_or key at leaf → (get_or binds at bind).value ≢ leaf → false ≡ same_leaves (bound_key binds) key
value_differs binds key at bind leaf within stands differ =
    sym (not_same (same_leaves (bound_key binds) key) (λ same.
    let key_is : bound_key binds ≡ key = (pointwise_decides leaf_exact (bound_key binds) key).0 same in
    differ (value_read binds at bind leaf within ∙ ap (λ (k : LeafKey). get_or k at leaf) key_is ∙ sym stands)))

-- binds in order ask for each leaf of the key of their values
pub order_names : (leaves : ℕ) (binds : List Bind) → AreInOrder leaves binds
    → NamesKey leaves binds (bound_key binds)
order_names leaves binds order =
    let turns : (at : ℕ) → at < length binds → (get_or binds at no_bind).place ≡ at =
    λ at within. order.each at no_bind (omega (arith, within, order.size)) in
    let last : (at : ℕ) → 0 + at ≡ at = λ at. omega arith in
    record {
      size = length-map binds (λ (bind : Bind). bind.value) ∙ order.size;
      all = bound_up_to binds leaves (omega (arith, order.size)) (λ at within. order.each at no_bind within);
      agree = agree_from binds (bound_key binds) 0 (λ at within. turns at within ∙ sym (last at))
          (λ at within. ap (slice_get (bound_key binds)) (last at) ∙ value_there binds at within);
    }

-- what they are answered is the truth of that key
pub order_truth : (table : PredicateTable) (binds : List Bind)
    → HaveLeaves table.spec.leaves table.state.counts → AreInOrder table.spec.leaves binds
    → binds_truth table.spec.leaves table.state binds ≡ key_truth same_leaves table.state (bound_key binds)
order_truth table binds have order =
    named_truth table binds (bound_key binds) have (order_names table.spec.leaves binds order)
