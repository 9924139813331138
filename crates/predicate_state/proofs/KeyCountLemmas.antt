-- Lists of keys with counts, by the place of a key.
use Rattle.std.proofs.Common.{◌≡◌, ℕ, suc, zero, ◌+◌, ◌≤◌, Bool, true, false, not, cond, List, [], ◌∷◌, Some, None, length, position, slice_get, refl, sym, ap, ◌∙◌, arith, ⊎_elim}
use Rattle.std.specs.Option.{option_map}
use Rattle.std.specs.List.{position_or_len}
use Rattle.std.specs.Map.{keys_of, lookup, set_value}
use Rattle.std.proofs.lemmas.Bool.{cases_Bool, ltb-false}
use Rattle.std.proofs.lemmas.Option.{slice_get_past}
use Rattle.std.proofs.lemmas.Map.Entries.{length-keys_of}
use Rattle.std.proofs.lemmas.List.Elements.{All-cons, All-head, All-tail}
use Rattle.dim_table.specs.Table.{set_value_at}
use Rattle.predicate_state.specs.PredicateTable.{LeafKey, HaveLeaves}

-- the place of the first key that passes, or the length
abbrev pub first_place : {K V : Type 0} → (K → Bool) → List (K × V) → ℕ
first_place test rows = position_or_len test (keys_of rows)

-- what an answer says of the test that chose it
some_place : (b : Bool) (n place : ℕ) → cond b (Some n) None ≡ Some place → n ≡ place
some_place true n place e = cc
some_place false n place e = cc

none_place : (b : Bool) (n : ℕ) → cond b (Some n) None ≡ None → b ≡ false
none_place true n e = cc
none_place false n e = refl

module _ {K V : Type 0} (test : K → Bool) where
  -- the first row that passes has place 0 or one more than among the others
  place_here : (row : K × V) (rows : List (K × V)) → test row.0 ≡ true → first_place test (row ∷ rows) ≡ 0
  place_here row rows here = ap (λ b. cond (not b) (1 + first_place test rows) 0) here

  place_later : (row : K × V) (rows : List (K × V)) → test row.0 ≡ false
      → first_place test (row ∷ rows) ≡ suc (first_place test rows)
  place_later row rows other = ap (λ b. cond (not b) (1 + first_place test rows) 0) other ∙ omega arith

  -- what a look-up finds is the value at the first place
  pub lookup-first : (rows : List (K × V))
      → lookup test rows ≡ option_map (λ (row : K × V). row.1) (slice_get rows (first_place test rows))
  lookup-first [] = refl
  lookup-first (row ∷ rows) = ⊎_elim
      (λ (here : test row.0 ≡ true).
      ap (λ b. cond b (Some row.1) (lookup test rows)) here
      ∙ sym (ap (λ n. option_map (λ (r : K × V). r.1) (slice_get (row ∷ rows) n)) (place_here row rows here)))
      (λ (other : test row.0 ≡ false).
      ap (λ b. cond b (Some row.1) (lookup test rows)) other ∙ lookup-first rows
      ∙ sym (ap (λ n. option_map (λ (r : K × V). r.1) (slice_get (row ∷ rows) n)) (place_later row rows other)))
      (cases_Bool (test row.0))

  -- a value that is set by its key is set at the first place
  pub set_value-first : (rows : List (K × V)) (value : V)
      → set_value test rows value ≡ set_value_at rows (first_place test rows) value
  set_value-first [] value = refl
  set_value-first (row ∷ rows) value = ⊎_elim
      (λ (here : test row.0 ≡ true).
      ap (λ b. cond b ((row.0, value) ∷ rows) (row ∷ set_value test rows value)) here
      ∙ sym (ap (λ n. set_value_at (row ∷ rows) n value) (place_here row rows here)))
      (λ (other : test row.0 ≡ false).
      ap (λ b. cond b ((row.0, value) ∷ rows) (row ∷ set_value test rows value)) other
      ∙ ap (λ l. row ∷ l) (set_value-first rows value)
      ∙ sym (ap (λ n. set_value_at (row ∷ rows) n value) (place_later row rows other)))
      (cases_Bool (test row.0))

  -- a key's position is its first place
  pub place_is : (rows : List (K × V)) (place : ℕ) → position test (keys_of rows) ≡ Some place
      → first_place test rows ≡ place
  place_is rows place e = some_place _ (first_place test rows) place e

  -- at its position a key has the value that a look-up finds
  pub value_at_position : (rows : List (K × V)) (place : ℕ) (row : K × V)
      → position test (keys_of rows) ≡ Some place → slice_get rows place ≡ Some row
      → Some row.1 ≡ lookup test rows
  value_at_position rows place row e at =
      sym (lookup-first rows
      ∙ ap (λ n. option_map (λ (r : K × V). r.1) (slice_get rows n)) (place_is rows place e)
      ∙ ap (option_map (λ (r : K × V). r.1)) at)

  -- a value that is set at a key's position is set by the key
  pub set_at_position : (rows : List (K × V)) (place : ℕ) (value : V) → position test (keys_of rows) ≡ Some place
      → set_value_at rows place value ≡ set_value test rows value
  set_at_position rows place value e =
      sym (set_value-first rows value ∙ ap (λ n. set_value_at rows n value) (place_is rows place e))

  -- a key without a position isn't found
  pub lookup_absent : (rows : List (K × V)) → position test (keys_of rows) ≡ None → lookup test rows ≡ None
  lookup_absent rows e =
      let past : length (keys_of rows) ≤ first_place test rows =
      ltb-false (first_place test rows) (length (keys_of rows)) (none_place _ (first_place test rows) e) in
      lookup-first rows
      ∙ ap (option_map (λ (r : K × V). r.1))
      (slice_get_past rows (first_place test rows) (omega (arith, length-keys_of rows)))

-- where no row stands, no key stands
pub no_key : {K V : Type 0} (rows : List (K × V)) (place : ℕ) (key : K) → slice_get rows place ≡ None
    → slice_get (keys_of rows) place ≡ Some key → ⊥
no_key [] place key none some = cc
no_key (row ∷ rows) zero key none some = cc
no_key (row ∷ rows) (suc place) key none some = no_key rows place key none some

-- a write to a count leaves every key as it is
pub leaves_kept : (leaves : ℕ) (rows : List (LeafKey × ℕ)) (place count : ℕ) → HaveLeaves leaves rows
    → HaveLeaves leaves (set_value_at rows place count)
leaves_kept leaves [] place count all = all
leaves_kept leaves (row ∷ rows) zero count all =
    let P : LeafKey × ℕ → Type 0 = λ entry. length entry.0 ≡ leaves in
    All-cons P (row.0, count) rows (All-head P row rows all) (All-tail P row rows all)
leaves_kept leaves (row ∷ rows) (suc place) count all =
    let P : LeafKey × ℕ → Type 0 = λ entry. length entry.0 ≡ leaves in
    All-cons P row (set_value_at rows place count) (All-head P row rows all)
    (leaves_kept leaves rows place count (All-tail P row rows all))
