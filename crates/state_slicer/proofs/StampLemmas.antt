-- Stamped states, and what is still known of them.
use Rattle.std.proofs.Common.{◌≡◌, ℕ, ℤ, zero, suc, ◌+◌, ◌<◌, ◌≤◌, if◌then◌else◌, List, [], ◌∷◌, ◌++◌, Some, None, map, length, slice_get, Contains, All, inl, inr, ⊎_elim, refl, sym, ap, subst, ◌∙◌, arith, eq-eqb, ne_eqb}
use Rattle.std.specs.Map.{keys_of, values_of}
use Rattle.std.proofs.lemmas.List.{map-append}
use Rattle.std.proofs.lemmas.List.Elements.{All-nil, All-cons, All-head, All-tail}
use Rattle.std.proofs.lemmas.Option.{none-some, same_Some}
use Rattle.indexmap.specs.Layout.{set_value_at}
use Rattle.atom_record.specs.declared.value.Leaf.{Leaf}
use Rattle.dim_table.specs.declared.answer.Admit.{Admit}
use Rattle.dim_table.specs.declared.answer.Admit.TheVariants.{At, Full}
use Rattle.dim_table.specs.Table.{Table, keys, with_value_at, IsThere, IsNew, Admits}
use Rattle.dim_table.proofs.KeyLemmas.{Contains-from_place}
use Rattle.book_meaning.specs.States.{no_state_known}
use Rattle.state_slicer.specs.declared.states.Stamped.{Stamped}
use Rattle.state_slicer.specs.StateTables.{current, current_table, IsStamped, blank, with_blanks, put_back, IsTold}

module _ {K V W : Type 0} (value_of : V → W) where
  -- each row with what is made of its value
  abbrev pub valued : List (K × V) → List (K × W)
  valued rows = map (λ row. (row.0, value_of row.1)) rows

  pub keys_of-valued : (rows : List (K × V)) → keys_of (valued rows) ≡ keys_of rows
  keys_of-valued [] = refl
  keys_of-valued (row ∷ rows) = ap (λ l. row.0 ∷ l) (keys_of-valued rows)

  pub length-valued : (rows : List (K × V)) → length (valued rows) ≡ length rows
  length-valued [] = refl
  length-valued (row ∷ rows) = let rest = length-valued rows in omega arith

  pub valued-set : (rows : List (K × V)) (place : ℕ) (value : V)
      → valued (set_value_at rows place value) ≡ set_value_at (valued rows) place (value_of value)
  valued-set [] place value = refl
  valued-set (row ∷ rows) zero value = refl
  valued-set (row ∷ rows) (suc place) value = ap (λ l. (row.0, value_of row.1) ∷ l) (valued-set rows place value)

  pub valued-past : (rows : List (K × V)) (place : ℕ) (value : W) → None ≡ slice_get (values_of rows) place
      → valued rows ≡ set_value_at (valued rows) place value
  valued-past [] place value none = refl
  valued-past (row ∷ rows) zero value none = absurd (none-some row.1 none)
  valued-past (row ∷ rows) (suc place) value none =
      ap (λ l. (row.0, value_of row.1) ∷ l) (valued-past rows place value none)

  pub valued-at : (rows : List (K × V)) (place : ℕ) (key : K) (value : V) → slice_get rows place ≡ Some (key, value)
      → slice_get (valued rows) place ≡ Some (key, value_of value)
  valued-at [] place key value at = absurd (none-some (key, value) at)
  valued-at (row ∷ rows) zero key value at = ap (λ r. Some (r.0, value_of r.1)) (same_Some row (key, value) at)
  valued-at (row ∷ rows) (suc place) key value at = valued-at rows place key value at

-- what holds of all values holds after a write of such a value
pub All-set_value : {K V : Type 0} (Q : V → Type 0) (rows : List (K × V)) (place : ℕ) (value : V) → Q value
    → All (λ row. Q row.1) rows → All (λ row. Q row.1) (set_value_at rows place value)
All-set_value Q [] place value holds all = all
All-set_value Q (row ∷ rows) zero value holds all =
    All-cons (λ r. Q r.1) (row.0, value) rows holds (All-tail (λ r. Q r.1) row rows all)
All-set_value Q (row ∷ rows) (suc place) value holds all =
    All-cons (λ r. Q r.1) row (set_value_at rows place value) (All-head (λ r. Q r.1) row rows all)
    (All-set_value Q rows place value holds (All-tail (λ r. Q r.1) row rows all))

-- a state that was stamped after the last reset is known
pub current_same : (resets : ℕ) (state : ℤ) → current resets (record { state = state; resets = resets }) ≡ state
current_same resets state = ap (λ b. if b then state else no_state_known) (eq-eqb resets resets refl)

module _ (resets : ℕ) (table : Table (List Leaf) Stamped) where
  -- the keys are the table's
  pub keys-current : keys (current_table resets table) ≡ keys table
  keys-current = keys_of-valued (current resets) table.rows

  -- a write of a state that is stamped now
  pub current-written : (place : ℕ) (stored state : ℤ) → stored ≡ state
      → current_table resets (with_value_at table place (record { state = stored; resets = resets }))
      ≡ with_value_at (current_table resets table) place state
  current-written place stored state same =
      ap (λ rows. record { rows = rows; bound = table.bound; dropped = table.dropped })
      (valued-set (current resets) table.rows place (record { state = stored; resets = resets })
      ∙ ap (set_value_at (valued (current resets) table.rows) place) (current_same resets stored ∙ same))

  -- a write past the end
  pub current-past : (place : ℕ) (state : ℤ) → None ≡ slice_get (values_of table.rows) place
      → current_table resets table ≡ with_value_at (current_table resets table) place state
  current-past place state none =
      ap (λ rows. record { rows = rows; bound = table.bound; dropped = table.dropped })
      (valued-past (current resets) table.rows place state none)

  -- and none is stamped later
  pub stamped-written : (place : ℕ) (stored : ℤ) → IsStamped resets table
      → IsStamped resets (with_value_at table place (record { state = stored; resets = resets }))
  stamped-written place stored stamped = record {
    bound = stamped.bound;
    before = All-set_value (λ (s : Stamped). s.resets ≤ resets) table.rows place
        (record { state = stored; resets = resets }) (omega arith) stamped.before;
  }

  module _ (new : Table (List Leaf) Stamped) (key : List Leaf) (stored state : ℤ) (same : stored ≡ state)
      (absent : ¬ Contains (keys (current_table resets table)) key) where
    absent_there : ¬ Contains (keys table) key
    absent_there = subst (λ ks. ¬ Contains ks key) keys-current absent

    -- what the table answers to a new key
    pub current-admits : (answer : Admit) → Admits table new key (record { state = stored; resets = resets }) answer
        → IsTold (current_table resets table) (current_table resets new) key state
    current-admits (At place) admits = ⊎_elim
        (λ (there : IsThere table new key place).
        absurd (absent_there (Contains-from_place (keys table) place key there.at)))
        (λ (added : IsNew table new key (record { state = stored; resets = resets }) place).
        let size = length-valued (current resets) table.rows in
        inr (inl (record {
          absent = absent;
          room = omega (arith, size, added.room);
          last = refl;
          added = ap (current_table resets) added.added
              ∙ ap (λ rows. record { rows = rows; bound = table.bound; dropped = table.dropped })
              (map-append (λ row. (row.0, current resets row.1)) table.rows
              ((key, record { state = stored; resets = resets }) ∷ [])
              ∙ ap (λ s. valued (current resets) table.rows ++ (key, s) ∷ []) (current_same resets stored ∙ same));
        })))
        admits
    current-admits Full admits =
        inr (inr (record {
          absent = absent;
          full = length-valued (current resets) table.rows ∙ admits.full;
          added = ap (current_table resets) admits.added;
        }))

-- so many rows are blank
pub blank_front : {K : Type 0} → ℕ → List (K × Stamped) → List (K × Stamped)
blank_front zero rows = rows
blank_front (suc n) [] = []
blank_front (suc n) (row ∷ rows) = (row.0, blank) ∷ blank_front n rows

pub blank_front-none : {K : Type 0} (rows : List (K × Stamped)) → blank_front 0 rows ≡ rows
unfolding blank_front
blank_front-none rows = refl

pub blank_front-more : {K : Type 0} (n : ℕ) (rows : List (K × Stamped)) → n < length rows
    → set_value_at (blank_front n rows) n blank ≡ blank_front (suc n) rows
unfolding blank_front
blank_front-more zero [] less = absurd (omega (arith, less))
blank_front-more zero (row ∷ rows) less = refl
blank_front-more (suc n) [] less = absurd (omega (arith, less))
blank_front-more (suc n) (row ∷ rows) less =
    ap (λ l. (row.0, blank) ∷ l) (blank_front-more n rows (omega (arith, less)))

pub blank_front-all : {K : Type 0} (rows : List (K × Stamped))
    → blank_front (length rows) rows ≡ map (λ row. (row.0, blank)) rows
unfolding blank_front
blank_front-all [] = refl
blank_front-all (row ∷ rows) = ap (λ l. (row.0, blank) ∷ l) (blank_front-all rows)

pub blank_front-there : {K : Type 0} (n : ℕ) (rows : List (K × Stamped)) → n < length rows
    → ¬ (None ≡ slice_get (values_of (blank_front n rows)) n)
unfolding blank_front
blank_front-there zero [] less none = absurd (omega (arith, less))
blank_front-there zero (row ∷ rows) less none = none-some row.1 none
blank_front-there (suc n) [] less none = absurd (omega (arith, less))
blank_front-there (suc n) (row ∷ rows) less none = blank_front-there n rows (omega (arith, less)) none

-- blank states are unknown
put_back-blank_rows : {K : Type 0} (resets : ℕ) (rows : List (K × Stamped))
    → valued (current 0) (map (λ row. (row.0, blank)) rows)
    ≡ map (λ row. (row.0, no_state_known)) (valued (current resets) rows)
put_back-blank_rows resets [] = refl
put_back-blank_rows resets (row ∷ rows) =
    ap (λ l. (row.0, no_state_known) ∷ l) (put_back-blank_rows resets rows)

pub put_back-with_blanks : (resets : ℕ) (table : Table (List Leaf) Stamped)
    → current_table 0 (with_blanks table) ≡ put_back (current_table resets table)
put_back-with_blanks resets table =
    ap (λ rows. record { rows = rows; bound = table.bound; dropped = table.dropped })
    (put_back-blank_rows resets table.rows)

-- a row was stamped before any reset
abbrev is_first : {K : Type 0} → K × Stamped → Type 0
is_first row = row.1.resets ≤ 0

all_blank : {K : Type 0} (rows : List (K × Stamped)) → All is_first (map (λ row. (row.0, blank)) rows)
all_blank [] = All-nil is_first
all_blank (row ∷ rows) = All-cons is_first (row.0, blank) (map (λ r. (r.0, blank)) rows) (omega arith)
    (all_blank rows)

pub stamped-with_blanks : (resets : ℕ) (table : Table (List Leaf) Stamped) → IsStamped resets table
    → IsStamped 0 (with_blanks table)
stamped-with_blanks resets table stamped = record { bound = stamped.bound; before = all_blank table.rows }

-- one more reset makes all states unknown
unknown-later : (resets : ℕ) (stamped : Stamped) → stamped.resets ≤ resets
    → current (resets + 1) stamped ≡ no_state_known
unknown-later resets stamped before =
    ap (λ b. if b then stamped.state else no_state_known)
    (ne_eqb stamped.resets (resets + 1) (λ same. omega (arith, before, same)))

put_back-later_rows : {K : Type 0} (resets : ℕ) (rows : List (K × Stamped)) → All (λ row. row.1.resets ≤ resets) rows
    → valued (current (resets + 1)) rows ≡ map (λ row. (row.0, no_state_known)) (valued (current resets) rows)
put_back-later_rows resets [] all = refl
put_back-later_rows resets (row ∷ rows) all =
    ap (λ s. (row.0, s) ∷ valued (current (resets + 1)) rows)
    (unknown-later resets row.1 (All-head (λ r. r.1.resets ≤ resets) row rows all))
    ∙ ap (λ l. (row.0, no_state_known) ∷ l)
    (put_back-later_rows resets rows (All-tail (λ r. r.1.resets ≤ resets) row rows all))

pub put_back-later : (resets : ℕ) (table : Table (List Leaf) Stamped) → IsStamped resets table
    → current_table (resets + 1) table ≡ put_back (current_table resets table)
put_back-later resets table stamped =
    ap (λ rows. record { rows = rows; bound = table.bound; dropped = table.dropped })
    (put_back-later_rows resets table.rows stamped.before)

-- where a key stands, so does its row
pub row_there : {K V : Type 0} (rows : List (K × V)) (place : ℕ) (key : K) → slice_get (keys_of rows) place ≡ Some key
    → ¬ (None ≡ slice_get rows place)
row_there [] place key at none = none-some key at
row_there (row ∷ rows) zero key at none = none-some row none
row_there (row ∷ rows) (suc place) key at none = row_there rows place key at none

key_at : {K V : Type 0} (rows : List (K × V)) (place : ℕ) (row : K × V) → slice_get rows place ≡ Some row
    → slice_get (keys_of rows) place ≡ Some row.0
key_at [] place row at = absurd (none-some row at)
key_at (first ∷ rows) zero row at = ap (λ r. Some r.0) (same_Some first row at)
key_at (first ∷ rows) (suc place) row at = key_at rows place row at

-- what is still known of the state in the row of a key
pub state_at : (resets : ℕ) (table : Table (List Leaf) Stamped) (place : ℕ) (key named : List Leaf) (stamped : Stamped)
    → slice_get table.rows place ≡ Some (named, stamped) → slice_get (keys table) place ≡ Some key
    → slice_get (current_table resets table).rows place ≡ Some (key, current resets stamped)
state_at resets table place key named stamped row there =
    let same : named ≡ key = same_Some named key (sym (key_at table.rows place (named, stamped) row) ∙ there) in
    valued-at (current resets) table.rows place named stamped row ∙ ap (λ k. Some (k, current resets stamped)) same
