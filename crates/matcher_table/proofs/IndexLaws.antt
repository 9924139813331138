-- What stays true of the index where slots are made and freed.
use Rattle.std.proofs.Common.{◌≡◌, ◌≢◌, ◌⊎◌, ℕ, Bool, true, false, List, Option, Some, None, refl, sym, ap, ◌∙◌, inl, inr}
use Rattle.std.proofs.Props.{props}
use mathlib.Core.HLevel.{collapsible→set}
use Rattle.std.proofs.lemmas.Bool.{cases_eq, false_from_ne_true}
use Rattle.matcher_table.specs.declared.shared.SharedMatcher.{SharedMatcher}
use Rattle.matcher_table.specs.declared.index.SlotIndex.{SlotIndex}
use Rattle.matcher_table.specs.contracts.shared.SharedMatcherPartialEq.TheImpl as shared
use Rattle.matcher_table.specs.Equal.{shared_exact}
use Rattle.matcher_table.specs.Finding.{slot_for}
use Rattle.matcher_table.specs.Slots.{matcher_at}
use Rattle.matcher_table.specs.StoreParts.{IsIndexed}

cases_bool : (b : Bool) → (b ≡ true) ⊎ (b ≡ false)
cases_bool true = inl refl
cases_bool false = inr refl

-- two matchers that aren't the same aren't equal
pub not_equal : (x y : SharedMatcher) → y ≢ x → shared.ghosts.eq x y ≡ false
not_equal x y other = false_from_ne_true (shared.ghosts.eq x y) (λ equal. other (sym ((shared_exact x y).0 equal)))

-- whether two matchers are the same has one proof
pub matchers_set : IsSet SharedMatcher
matchers_set =
    collapsible→set (λ x y same. (shared_exact x y).0 ((shared_exact x y).1 same))
    (λ x y p q. ap (shared_exact x y).0 (one_proof (shared.ghosts.eq x y) ((shared_exact x y).1 p)
    ((shared_exact x y).1 q)))
  where
    one_proof : (b : Bool) → IsProp (b ≡ true)
    one_proof b = hlevel props

-- two matchers are the same, or they aren't
pub cases_same : (x y : SharedMatcher) → (y ≡ x) ⊎ (y ≢ x)
cases_same x y = elim (cases_bool (shared.ghosts.eq x y)) [
  | inl equal ↦ inl (sym ((shared_exact x y).0 equal))
  | inr unequal ↦ inr (λ same. let equal : shared.ghosts.eq x y ≡ true = (shared_exact x y).1 (sym same) in cc)
]

-- what stands at one slot alone
pub some_same : (a b : SharedMatcher) → Some a ≡ Some b → a ≡ b
some_same a b e = cc

slot_same : (s t : ℕ) → Some s ≡ Some t → s ≡ t
slot_same s t e = cc

module _ {slots : List (Option SharedMatcher)} {index : SlotIndex} (indexed : IsIndexed slots index) where
  -- equal matchers stand in one slot
  pub one_slot : (s t : ℕ) (x : SharedMatcher) → matcher_at slots s ≡ Some x → matcher_at slots t ≡ Some x → s ≡ t
  one_slot s t x at_s at_t = slot_same s t (sym (indexed.named s x at_s) ∙ indexed.named t x at_t)

  -- what the index doesn't know stands nowhere
  pub not_there : (x : SharedMatcher) → slot_for index x ≡ None → (s : ℕ) → matcher_at slots s ≢ Some x
  not_there x unknown s at_s = let known : slot_for index x ≡ Some s = indexed.named s x at_s in cc

  -- an index that finds the same
  pub indexed_as : (slots' : List (Option SharedMatcher)) (index' : SlotIndex) → slots' ≡ slots
      → ((wanted : SharedMatcher) → slot_for index' wanted ≡ slot_for index wanted) → IsIndexed slots' index'
  indexed_as slots' index' same finds = record {
    named = λ s x at_s. finds x ∙ indexed.named s x (ap (λ (xs : List (Option SharedMatcher)). matcher_at xs s)
        (sym same) ∙ at_s);
    found = λ s x is. ap (λ (xs : List (Option SharedMatcher)). matcher_at xs s) same
        ∙ indexed.found s x (sym (finds x) ∙ is);
  }

  -- a new slot
  pub indexed_made : (slots' : List (Option SharedMatcher)) (index' : SlotIndex) (slot : ℕ) (made : SharedMatcher)
      → matcher_at slots slot ≡ None → matcher_at slots' slot ≡ Some made
      → ((k : ℕ) → k ≢ slot → matcher_at slots' k ≡ matcher_at slots k)
      → ((s : ℕ) → matcher_at slots s ≢ Some made) → slot_for index' made ≡ Some slot
      → ((wanted : SharedMatcher) → wanted ≢ made → slot_for index' wanted ≡ slot_for index wanted)
      → IsIndexed slots' index'
  indexed_made slots' index' slot made was here others is_new finds other_finds = record {
    named = λ s x at_s. elim (cases_eq s slot) [
      | inl same ↦
          let is : x ≡ made = some_same x made (sym at_s ∙ ap (matcher_at slots') same ∙ here) in
          ap (slot_for index') is ∙ finds ∙ ap (λ (k : ℕ). Some k) (sym same)
      | inr other ↦
          let before : matcher_at slots s ≡ Some x = sym (others s other) ∙ at_s in
          other_finds x (λ e. is_new s (before ∙ ap (λ (m : SharedMatcher). Some m) e)) ∙ indexed.named s x before
    ];
    found = λ s x is. elim (cases_same made x) [
      | inl same ↦
          let at_slot : s ≡ slot = slot_same s slot (sym is ∙ ap (slot_for index') same ∙ finds) in
          ap (matcher_at slots') at_slot ∙ here ∙ ap (λ (m : SharedMatcher). Some m) (sym same)
      | inr other ↦
          let before : matcher_at slots s ≡ Some x = indexed.found s x (sym (other_finds x other) ∙ is) in
          let differs : s ≢ slot = λ e.
          let gone : matcher_at slots s ≡ None = ap (matcher_at slots) e ∙ was in absurd (cc) in
          others s differs ∙ before
    ];
  }

  -- a slot that is gone
  pub indexed_freed : (slots' : List (Option SharedMatcher)) (index' : SlotIndex) (slot : ℕ) (freed : SharedMatcher)
      → matcher_at slots slot ≡ Some freed → matcher_at slots' slot ≡ None
      → ((k : ℕ) → k ≢ slot → matcher_at slots' k ≡ matcher_at slots k) → slot_for index' freed ≡ None
      → ((wanted : SharedMatcher) → wanted ≢ freed → slot_for index' wanted ≡ slot_for index wanted)
      → IsIndexed slots' index'
  indexed_freed slots' index' slot freed was gone others none other_finds = record {
    named = λ s x at_s.
        let differs : s ≢ slot = λ e.
        let there : matcher_at slots' s ≡ None = ap (matcher_at slots') e ∙ gone in absurd (cc) in
        let before : matcher_at slots s ≡ Some x = sym (others s differs) ∙ at_s in
        let other : x ≢ freed = λ e.
        differs (one_slot s slot freed (before ∙ ap (λ (m : SharedMatcher). Some m) e) was) in
        other_finds x other ∙ indexed.named s x before;
    found = λ s x is. elim (cases_same freed x) [
      | inl same ↦
          let unknown : slot_for index' x ≡ None = ap (slot_for index') same ∙ none in absurd (cc)
      | inr other ↦
          let before : matcher_at slots s ≡ Some x = indexed.found s x (sym (other_finds x other) ∙ is) in
          let differs : s ≢ slot = λ e.
          other (some_same x freed (sym before ∙ ap (matcher_at slots) e ∙ was)) in
          others s differs ∙ before
    ];
  }
