-- What stands at a place stands under its name, since no two names are the same; and what becomes of one name.
use Rattle.std.proofs.Common.{◌≡◌, ℕ, zero, suc, Bool, true, false, cond, ◌&&◌, ◌||◌, List, [], ◌∷◌, Option, Some, refl, sym, ap, subst, ◌∙◌, true≢false}
use Rattle.std.specs.Prelude.{slice_get, IsSome, if◌then◌else◌}
use Rattle.std.specs.List.{IsDistinct}
use Rattle.std.specs.Map.{keys_of, set_value, values_of}
use Rattle.std.proofs.lemmas.Map.{lookup-set_value}
use Rattle.std.specs.Option.{option_map}
use Rattle.std.proofs.lemmas.Option.{none-some, same_Some, slice_get-map}
use Rattle.indexmap.specs.IndexMap.{set_value_at}
use Rattle.id_notes.specs.Noted.{is_named}
use Rattle.client_engine.specs.declared.live_id.LiveId.{LiveId}
use Rattle.hub_core.specs.declared.live_instance.LiveInstance.{LiveInstance}
use Rattle.hub_core.specs.Slots.{same_id, slot_at, IsAtPlace}
use Rattle.hub_core.proofs.NamesLemmas.{all_at, same_equiv, same_is}

module _ (name : LiveId) (row : LiveId × LiveInstance) (rows : List (LiveId × LiveInstance)) where
  -- what a look-up in a list finds and writes, by whether its first row is the one
  record Finds (is : Bool) (answer : Option LiveInstance)
      (written : LiveInstance → List (LiveId × LiveInstance)) : Type 0
    where
      pub found : cond is (Some row.1) (slot_at name rows) ≡ answer
      pub wrote : (live : LiveInstance)
          → written live ≡ cond is ((row.0, live) ∷ rows) (row ∷ set_value (same_id name) rows live)

  finds_first : (is : Bool) → is ≡ true → Finds is (Some row.1) (λ live. (row.0, live) ∷ rows)
  finds_first true own = record { found = refl; wrote = λ live. refl }
  finds_first false own = absurd (true≢false (sym own))

  finds_later : (is : Bool) (place : ℕ) → is ≡ false → IsAtPlace name place rows
      → Finds is (slice_get (values_of rows) place) (λ live. row ∷ set_value_at rows place live)
  finds_later true place other rest = absurd (true≢false other)
  finds_later false place other rest = record {
    found = rest.there;
    wrote = λ live. ap (λ l. row ∷ l) (rest.written live);
  }

-- what stands at a place stands under its name, where no two names are the same
pub stands_there : (name : LiveId) (live : LiveInstance) (rows : List (LiveId × LiveInstance)) (place : ℕ)
    → IsDistinct same_id (keys_of rows)
    → slice_get rows place ≡ Some (name, live)
    → IsAtPlace name place rows
unfolding IsDistinct
stands_there name live [] place distinct is = absurd (none-some (name, live) is)
stands_there name live (row ∷ rows) zero distinct is =
    let own : same_id name row.0 ≡ true =
    ap (λ (r : LiveId × LiveInstance). same_id name r.0) (same_Some row (name, live) is) ∙ same_equiv.refl name in
    let first = finds_first name row rows (same_id name row.0) own in
    record { there = first.found; written = first.wrote }
stands_there name live (row ∷ rows) (suc place) distinct is =
    let key : slice_get (keys_of rows) place ≡ Some name =
    slice_get-map (λ (r : LiveId × LiveInstance). r.0) rows place
    ∙ ap (option_map (λ (r : LiveId × LiveInstance). r.0)) is in
    let other : same_id name row.0 ≡ false = same_equiv.symm name row.0
    ∙ all_at (λ (n : LiveId). same_id row.0 n ≡ false) (keys_of rows) place name distinct.0 key in
    let later = finds_later name row rows (same_id name row.0) place other
    (stands_there name live rows place distinct.1 is) in
    record { there = later.found; written = later.wrote }

-- once what is held at a name is written, the name has it, and each other one what it had
pub slots_written : (name : LiveId) (live : LiveInstance) (rows : List (LiveId × LiveInstance))
    → IsSome (slot_at name rows)
    → (other : LiveId)
    → slot_at other (set_value (same_id name) rows live)
    ≡ (if same_id name other then Some live else slot_at other rows)
slots_written name live rows some other =
    lookup-set_value same_equiv (same_id name) (λ x y same. same_equiv.congr name x y same) other live rows some

-- a name that isn't among these isn't one of these and the last one both
pub apart_last : (names : List LiveId) (name : LiveId)
    → is_named same_id name names ≡ false
    → (other : LiveId)
    → (is_named same_id other names && is_named same_id other (name ∷ [])) ≡ false
apart_last names name fresh other = by_case (same_id other name) refl where
  none : (b : Bool) → (b && false) ≡ false
  none true = refl
  none false = refl

  by_case : (b : Bool) → same_id other name ≡ b
      → (is_named same_id other names && is_named same_id other (name ∷ [])) ≡ false
  by_case true is =
      subst (λ (n : LiveId). (is_named same_id n names && is_named same_id n (name ∷ [])) ≡ false)
      (sym (same_is other name is)) (ap (λ b. b && is_named same_id name (name ∷ [])) fresh)
  by_case false is =
      ap (λ b. is_named same_id other names && (b || false)) is ∙ none (is_named same_id other names)
