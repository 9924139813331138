-- Rows as a function of their keys, and the row at a place.
use Rattle.std.proofs.Common.{◌≡◌, ℕ, zero, suc, List, [], ◌∷◌, Some, length, slice_get, refl, sym, ap, ◌∙◌, arith}
use Rattle.std.specs.Map.{keys_of, values_of}
use Rattle.std.proofs.lemmas.Option.{none-some, same_Some}
use Rattle.indexmap.specs.Layout.{set_value_at}
use Rattle.dim_table.proofs.RowLemmas.{rows_by}

module _ {K V : Type 0} where
  -- the keys of such rows
  pub keys-by : (value_of : K → V) (ks : List K) → keys_of (rows_by value_of ks) ≡ ks
  keys-by value_of [] = refl
  keys-by value_of (key ∷ ks) = ap (λ l. key ∷ l) (keys-by value_of ks)

  -- there are as many rows as keys
  pub length-by : (value_of : K → V) (ks : List K) → length (rows_by value_of ks) ≡ length ks
  length-by value_of [] = refl
  length-by value_of (key ∷ ks) = let rest = length-by value_of ks in omega arith

  -- functions that are equal at each key give the same rows
  pub rows_by-alike : (one other : K → V) → ((key : K) → one key ≡ other key) → (ks : List K)
      → rows_by one ks ≡ rows_by other ks
  rows_by-alike one other alike [] = refl
  rows_by-alike one other alike (key ∷ ks) =
      ap (λ v. (key, v) ∷ rows_by one ks) (alike key)
      ∙ ap (λ l. (key, other key) ∷ l) (rows_by-alike one other alike ks)

  -- the value in a row is that of its key
  pub row_value : (value_of : K → V) (ks : List K) (place : ℕ) (key : K) (value : V)
      → slice_get (rows_by value_of ks) place ≡ Some (key, value) → value ≡ value_of key
  row_value value_of [] place key value at = absurd (none-some (key, value) at)
  row_value value_of (k ∷ ks) zero key value at =
      let same = same_Some {A = K × V} (k, value_of k) (key, value) at in
      sym (ap (λ r. r.1) same) ∙ ap (λ r. value_of r.0) same
  row_value value_of (k ∷ ks) (suc place) key value at = row_value value_of ks place key value at

  -- the key in a row is the one at its place
  pub row_key : (value_of : K → V) (ks : List K) (place : ℕ) (key : K) (value : V)
      → slice_get (rows_by value_of ks) place ≡ Some (key, value) → slice_get ks place ≡ Some key
  row_key value_of [] place key value at = absurd (none-some (key, value) at)
  row_key value_of (k ∷ ks) zero key value at =
      ap (λ (r : K × V). Some r.0) (same_Some {A = K × V} (k, value_of k) (key, value) at)
  row_key value_of (k ∷ ks) (suc place) key value at = row_key value_of ks place key value at

-- rows with the value written that was there
pub set_same : {K V : Type 0} (rows : List (K × V)) (place : ℕ) (value : V)
    → Some value ≡ slice_get (values_of rows) place → set_value_at rows place value ≡ rows
set_same [] place value was = refl
set_same (row ∷ rows) zero value was = ap (λ v. (row.0, v) ∷ rows) (same_Some value row.1 was)
set_same (row ∷ rows) (suc place) value was = ap (λ l. row ∷ l) (set_same rows place value was)

-- a row by its key and its value
pub row_at : {K V : Type 0} (rows : List (K × V)) (place : ℕ) (key : K) (value : V)
    → slice_get (keys_of rows) place ≡ Some key → Some value ≡ slice_get (values_of rows) place
    → slice_get rows place ≡ Some (key, value)
row_at [] place key value at is = absurd (none-some key at)
row_at (row ∷ rows) zero key value at is =
    ap (λ v. Some (row.0, v)) (sym (same_Some value row.1 is)) ∙ ap (λ k. Some (k, value)) (same_Some row.0 key at)
row_at (row ∷ rows) (suc place) key value at is = row_at rows place key value at is
