-- Flags of entries, for `AtomReadingEntries`: what the test of the reading says of them.
use Rattle.std.proofs.Common.{◌≡◌, ◌+◌, ◌≤◌, Bool, true, false, not, List, [], ◌∷◌, ◌++◌, refl, ◌∙◌, inl, inr, arith}
use Rattle.std.specs.Prelude.{if◌then◌else◌, nat_le, ◌==◌, ◌&&◌, count_by}
use Rattle.std.specs.List.{list_any}
use Rattle.std.proofs.lemmas.Bool.{and_parts, and_from, or_parts, or_cases, leb-true, le-leb, eqb-true, eq-eqb, not-true, not_from_false, false_from_ne_true, both_ways, cases_Bool}
use Rattle.std.proofs.lemmas.List.Sums.{sum_by-append}
use Rattle.atom_record.specs.declared.atom.AtomField.{AtomField}
use Rattle.atom_record.specs.declared.value.Value.{Value}
use Rattle.atom_record.specs.declared.value.Value.TheVariants as values
use Rattle.atom_record.specs.declared.parse.Place.{Place}
use Rattle.atom_record.specs.declared.parse.Kind.{Kind}
use Rattle.atom_record.specs.declared.parse.Kind.TheVariants as kinds
use Rattle.atom_record.specs.Flags.{all_flags, is_exclusive, is_reset}
use Rattle.atom_record.specs.AtomReading.{may_be_state, may_have, place_of}
use Rattle.atom_record.specs.AtomSound.{IsInt, IsState, IsEntry}
use Rattle.atom_record.proofs.AtomReadingValues.{kind_of}

-- what the test of flags says, over plain truths
flags_parts : (known had exclusive reset state : Bool)
    → (known && (if exclusive then not had && state else not reset)) ≡ true
    → (known ≡ true) × (exclusive ≡ true → (had ≡ false) × (state ≡ true)) × (reset ≡ true → exclusive ≡ true)
flags_parts known had true reset state passes =
    let parts = and_parts known (not had && state) passes in
    let first = and_parts (not had) state parts.1 in
    (parts.0, λ _. (not-true had first.0, first.1), λ _. refl)
flags_parts known had false reset state passes =
    let parts = and_parts known (not reset) passes in
    (parts.0, λ on. absurd (both_ways false refl on), λ on. absurd (both_ways reset (not-true reset parts.1) on))

-- the test of flags over plain truths passes where what it says holds
flags_from : (known had exclusive reset state : Bool)
    → known ≡ true
    → (exclusive ≡ true → (had ≡ false) × (state ≡ true))
    → (reset ≡ true → exclusive ≡ true)
    → (known && (if exclusive then not had && state else not reset)) ≡ true
flags_from known had true reset state known_is first only =
    let is = first refl in and_from known (not had && state) known_is
    (and_from (not had) state (not_from_false had is.0) is.1)
flags_from known had false reset state known_is first only =
    and_from known (not reset) known_is (not_from_false reset
    (false_from_ne_true reset (λ on. both_ways false refl (only on))))

-- what may be a state by the test has no index, no sub, and the kind Int
state_is : (place : Place) (kind : Kind)
    → may_be_state place kind ≡ true
    → (place.index ≡ 0) × (place.sub ≡ 0) × (kind ≡ kinds.Int)
state_is place kinds.Int is =
    let parts = and_parts (place.index == 0) (place.sub == 0) is in (eqb-true _ _ parts.0, eqb-true _ _ parts.1, refl)
state_is place kinds.Long is = absurd (both_ways false refl is)
state_is place kinds.Bool is = absurd (both_ways false refl is)
state_is place kinds.Str is = absurd (both_ways false refl is)
state_is place kinds.Raw is = absurd (both_ways false refl is)
state_is place kinds.Bits32 is = absurd (both_ways false refl is)

-- a value of the kind Int is an Int
int_is : (value : Value) → kind_of value ≡ kinds.Int → IsInt value
int_is (values.Int n) is = tt
int_is (values.Long n) is = absurd cc
int_is (values.Bool b) is = absurd cc
int_is (values.Str text) is = absurd cc
int_is (values.Raw bytes) is = absurd cc
int_is (values.Bits32 bits) is = absurd cc

-- an Int without index and sub may be a state by the test
state_again : (place : Place) (value : Value)
    → place.index ≡ 0
    → place.sub ≡ 0
    → IsInt value
    → may_be_state place (kind_of value) ≡ true
state_again place (values.Int n) index sub int = and_from _ _ (eq-eqb _ _ index) (eq-eqb _ _ sub)
state_again place (values.Long n) index sub int = absurd int
state_again place (values.Bool b) index sub int = absurd int
state_again place (values.Str text) index sub int = absurd int
state_again place (values.Raw bytes) index sub int = absurd int
state_again place (values.Bits32 bits) index sub int = absurd int

-- how many exclusive entries there are
count_append : (before later : List AtomField)
    → count_by is_exclusive (before ++ later) ≡ count_by is_exclusive before + count_by is_exclusive later
count_append before later = sum_by-append (λ e. if is_exclusive e then 1 else 0) before later

-- an exclusive entry alone counts as one
counted_one : (entry : AtomField) → is_exclusive entry ≡ true → count_by is_exclusive (entry ∷ []) ≡ 1
counted_one entry is = rw is refl

-- an entry that is not exclusive alone counts as none
counted_none : (entry : AtomField) → is_exclusive entry ≡ false → count_by is_exclusive (entry ∷ []) ≡ 0
counted_none entry is = rw is refl

-- where no entry is exclusive, none is counted
none_counted : (before : List AtomField) → list_any is_exclusive before ≡ false → count_by is_exclusive before ≡ 0
none_counted [] none = refl
none_counted (entry ∷ others) none =
    let parts = or_parts (is_exclusive entry) (list_any is_exclusive others) none in
    count_append (entry ∷ []) others ∙ rw (counted_none entry parts.0, none_counted others parts.1) refl

-- where an entry is exclusive, one is counted at least
any_counted : (before : List AtomField) → list_any is_exclusive before ≡ true → 1 ≤ count_by is_exclusive before
any_counted [] any = absurd (both_ways false refl any)
any_counted (entry ∷ others) any =
    let sum = count_append (entry ∷ []) others in
    elim (or_cases (is_exclusive entry) (list_any is_exclusive others) any) [
      | inl this ↦ let one = counted_one entry this in omega arith
      | inr other ↦ let more = any_counted others other in omega arith
    ]

-- what the test of flags says of an entry that was read
pub record HasFlags (before : List AtomField) (entry : AtomField) : Type 0 where
  pub known : entry.flags ≤ all_flags
  pub state : is_exclusive entry ≡ true → IsState entry
  pub reset : is_reset entry ≡ true → is_exclusive entry ≡ true
  pub first : is_exclusive entry ≡ true → list_any is_exclusive before ≡ false

-- what the test of flags says of an entry
pub may_have_is : (before : List AtomField) (entry : AtomField)
    → may_have (list_any is_exclusive before) (place_of entry) (kind_of entry.value) entry.flags ≡ true
    → HasFlags before entry
may_have_is before entry passes =
    let parts = flags_parts (nat_le entry.flags all_flags) (list_any is_exclusive before) (is_exclusive entry)
    (is_reset entry) (may_be_state (place_of entry) (kind_of entry.value)) passes in
    record {
      known = leb-true _ _ parts.0;
      state = λ on.
          let is = state_is (place_of entry) (kind_of entry.value) (parts.1 on).1 in
          record { index = is.0; sub = is.1; int = int_is entry.value is.2 };
      reset = parts.2;
      first = λ on. (parts.1 on).0;
    }

-- where there is one exclusive entry at most, an exclusive one is the first
first_state : (before : List AtomField) (entry : AtomField) (later : List AtomField)
    → count_by is_exclusive (before ++ entry ∷ later) ≤ 1
    → is_exclusive entry ≡ true
    → list_any is_exclusive before ≡ false
first_state before entry later one on =
    let sum = count_append before (entry ∷ later) in
    let tail = count_append (entry ∷ []) later in
    let this = counted_one entry on in
    false_from_ne_true (list_any is_exclusive before) (λ any. let some = any_counted before any in absurd (omega arith))

-- an entry without fault passes the test of flags
pub may_have_again : (before : List AtomField) (entry : AtomField) (later : List AtomField)
    → IsEntry entry
    → count_by is_exclusive (before ++ entry ∷ later) ≤ 1
    → may_have (list_any is_exclusive before) (place_of entry) (kind_of entry.value) entry.flags ≡ true
may_have_again before entry later is one =
    flags_from (nat_le entry.flags all_flags) (list_any is_exclusive before) (is_exclusive entry) (is_reset entry)
    (may_be_state (place_of entry) (kind_of entry.value)) (le-leb _ _ is.flags)
    (λ on. (
      first_state before entry later one on,
      state_again (place_of entry) entry.value (is.state on).index
          (is.state on).sub (is.state on).int,
    ))
    is.reset

-- one more entry leaves one exclusive entry at most, if it is the first or none
pub one_state-push : (before : List AtomField) (entry : AtomField)
    → count_by is_exclusive before ≤ 1
    → (is_exclusive entry ≡ true → list_any is_exclusive before ≡ false)
    → count_by is_exclusive (before ++ entry ∷ []) ≤ 1
one_state-push before entry one first =
    let sum = count_append before (entry ∷ []) in
    elim (cases_Bool (is_exclusive entry)) [
      | inl on ↦ let this = counted_one entry on in let before_is = none_counted before (first on) in omega arith
      | inr off ↦ let this = counted_none entry off in omega arith
    ]
