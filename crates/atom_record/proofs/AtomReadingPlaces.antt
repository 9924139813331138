-- Places of entries, for `AtomReadingEntries`: what the tests of the reading say of them.
use Rattle.std.proofs.Common.{◌≡◌, ℕ, suc, ◌+◌, ◌-◌, ◌≤◌, ◌<◌, true, List, [], ◌∷◌, ◌++◌, length, get_or, refl, ◌∙◌, ◌⊎◌, inl, inr, arith}
use Rattle.std.specs.Prelude.{nat_lt, ◌==◌, ◌&&◌, ◌||◌, AllPairs}
use Rattle.std.proofs.lemmas.Bool.{and_parts, and_from, or_cases, or_left, or_right, ltb-true, lt-ltb, eqb-true, eq-eqb, cases_order}
use Rattle.std.proofs.lemmas.Bool.Decides.{nat_tests}
use Rattle.std.proofs.lemmas.List.{length-append, get_or_append_left, get_or-append-add}
use Rattle.std.proofs.lemmas.Option.{slice_get-get_or}
use Rattle.atom_record.specs.declared.atom.AtomField.{AtomField}
use Rattle.atom_record.specs.declared.parse.Place.{Place}
use Rattle.atom_record.specs.AtomReading.{is_in_range, is_after_last, is_above, place_of}
use Rattle.atom_record.specs.AtomSound.{largest_part, IsEntry, IsBelow}

-- an entry may stand at this place
pub record IsPlace (place : Place) : Type 0 where
  pub field : (1 ≤ place.field) × (place.field ≤ largest_part)
  pub index : place.index ≤ largest_part
  pub sub : place.sub ≤ largest_part

-- a place that passes the test is in range
pub in_range_is : (place : Place) → is_in_range place ≡ true → IsPlace place
in_range_is place passes = record {
  field = (grind (arith, nat_tests), grind (arith, nat_tests));
  index = grind (arith, nat_tests);
  sub = grind (arith, nat_tests);
}

-- the place of an entry without fault passes the test
pub in_range_again : (entry : AtomField) → IsEntry entry → is_in_range (place_of entry) ≡ true
in_range_again entry is = grind (arith, nat_tests)

-- places that pass the test are those of entries that stand one below the other
pub above_is : (below above : AtomField) → is_above (place_of above) (place_of below) ≡ true → IsBelow below above
above_is below above passes =
    elim (or_cases (nat_lt below.field above.field) (below.field == above.field
    && (nat_lt below.index above.index || (below.index == above.index && nat_lt below.sub above.sub))) passes) [
      | inl field ↦ inl (ltb-true _ _ field)
      | inr same ↦
          let fields = and_parts (below.field == above.field)
          (nat_lt below.index above.index || (below.index == above.index && nat_lt below.sub above.sub)) same in
          inr (
            eqb-true _ _ fields.0,
            elim (or_cases (nat_lt below.index above.index) (below.index == above.index && nat_lt below.sub above.sub)
                fields.1) [
                  | inl index ↦ inl (ltb-true _ _ index)
                  | inr both ↦
                      let indexes = and_parts (below.index == above.index) (nat_lt below.sub above.sub) both in
                      inr (eqb-true _ _ indexes.0, ltb-true _ _ indexes.1)
                ],
          )
    ]

-- the places of entries that stand one below the other pass the test
pub above_again : (below above : AtomField) → IsBelow below above → is_above (place_of above) (place_of below) ≡ true
above_again below above (inl field) = or_left _ _ (lt-ltb _ _ field)
above_again below above (inr (field, inl index)) =
    or_right _ _ (and_from _ _ (eq-eqb _ _ field) (or_left _ _ (lt-ltb _ _ index)))
above_again below above (inr (field, inr (index, sub))) =
    or_right _ _ (and_from _ _ (eq-eqb _ _ field) (or_right _ _ (and_from _ _ (eq-eqb _ _ index) (lt-ltb _ _ sub))))

-- an order by a number and then by another order is transitive
lexical : {P Q R : Type 0} (x y z : ℕ)
    → (x < y) ⊎ ((x ≡ y) × P)
    → (y < z) ⊎ ((y ≡ z) × Q)
    → (P → Q → R)
    → (x < z) ⊎ ((x ≡ z) × R)
lexical x y z (inl p) (inl q) both = inl (omega arith)
lexical x y z (inl p) (inr (e, q)) both = inl (omega arith)
lexical x y z (inr (e, p)) (inl q) both = inl (omega arith)
lexical x y z (inr (d, p)) (inr (e, q)) both = inr (d ∙ e, both p q)

-- an entry below one that is below a third is below the third
pub IsBelow-trans : (a b c : AtomField) → IsBelow a b → IsBelow b c → IsBelow a c
IsBelow-trans a b c p q =
    lexical a.field b.field c.field p q (λ r s.
    lexical a.index b.index c.index r s (λ t u. omega arith))

-- what stands above the last of entries that rise stands above each
pub after_all : (before : List AtomField) (entry : AtomField)
    → AllPairs IsBelow before
    → is_after_last before (place_of entry) ≡ true
    → (k : ℕ) (d : AtomField)
    → k < length before
    → IsBelow (get_or before k d) entry
after_all before entry rising after k d below =
    let at = length before - 1 in
    let last : IsBelow (get_or before at d) entry =
    above_is (get_or before at d) entry (rw (slice_get-get_or before at d (omega arith)) at after) in
    elim (cases_order k at) [
      | inl same ↦ rw same last
      | inr (inl earlier) ↦ IsBelow-trans (get_or before k d) (get_or before at d) entry
          (rising k at d earlier (omega arith)) last
      | inr (inr later) ↦ absurd (omega arith)
    ]

-- what holds of the pairs of a list holds of an element and one after it
pairs_at : (before : List AtomField) (entry : AtomField) (later : List AtomField) (at : ℕ) (d : AtomField)
    → at < length before
    → AllPairs IsBelow (before ++ entry ∷ later)
    → IsBelow (get_or before at d) entry
pairs_at before entry later at d below rising =
    let size : length (before ++ entry ∷ later) ≡ length before + suc (length later) =
    length-append before (entry ∷ later) in
    let pair = rising at (length before + 0) d (omega arith) (omega arith) in
    rw (get_or_append_left before (entry ∷ later) d at below, get_or-append-add before (entry ∷ later) 0 d) at pair

-- the last of these stands below what rises after them
pub after_last_again : (before : List AtomField) (entry : AtomField) (later : List AtomField)
    → AllPairs IsBelow (before ++ entry ∷ later)
    → is_after_last before (place_of entry) ≡ true
after_last_again [] entry later rising = refl
after_last_again (first ∷ others) entry later rising =
    let before : List AtomField = first ∷ others in
    let at = length before - 1 in
    let last : IsBelow (get_or before at entry) entry = pairs_at before entry later at entry (omega arith) rising in
    rw (slice_get-get_or before at entry (omega arith)) (above_again (get_or before at entry) entry last)
