-- Lists of keys and rows, read by a test that decides whether two keys are the same.
use Rattle.std.proofs.Common.{◌≡◌, ℕ, zero, suc, ◌<◌, ◌≤◌, Bool, true, false, not, cond, List, [], ◌∷◌, ◌++◌, Option, Some, None, length, filter, position, slice_get, get_or, Contains, IfSome, IfNone, is_some, refl, sym, ap, subst, ◌∙◌, arith, ⊎_elim}
use Rattle.std.specs.Bool.{Decides}
use Rattle.std.specs.List.{position_or_len, IsDistinct, AllByRecursion}
use Rattle.std.specs.Map.{keys_of, lookup, remove_entry}
use Rattle.std.proofs.lemmas.Bool.{cases_Bool, cases_lt, lt-ltb, true≢false, false≢true}
use Rattle.std.proofs.lemmas.List.Folds.{list_any_at}
use Rattle.std.proofs.lemmas.List.Quantifiers.{position-Some}
use Rattle.std.proofs.lemmas.List.Sums.{fails_before_first}
use Rattle.std.proofs.lemmas.Map.Keys.{IsDistinct-head, IsDistinct-tail}
use Rattle.std.proofs.lemmas.Option.{slice_get-get_or, slice_get_within, get_or_from_slice_get}
use Rattle.indexmap.specs.Layout.{set_value_at}
use Rattle.indexmap.specs.IndexMap.{IndexMap, insert_entry}
use Rattle.indexmap.proofs.CallerLemmas.{insert_entry-new}
use Rattle.indexmap.proofs.MapLemmas.{some_index}
use Rattle.bucket_meaning.specs.Guard.{is_among}

-- a row after the others brings its key after the others
pub keys_of-push : {K V : Type 0} (rows : List (K × V)) (key : K) (value : V)
    → keys_of (rows ++ (key, value) ∷ []) ≡ keys_of rows ++ key ∷ []
keys_of-push [] key value = refl
keys_of-push (row ∷ rows) key value = ap (λ ks. row.0 ∷ ks) (keys_of-push rows key value)

later : {K : Type 0} (first : K) (ks : List K) (key : K) → Contains ks key → Contains (first ∷ ks) key
later first ks key there = (suc there.0, omega (arith, there.1), there.2)

-- what stands at a place is in the list
pub Contains-from_place : {K : Type 0} (ks : List K) (place : ℕ) (key : K) → slice_get ks place ≡ Some key
    → Contains ks key
Contains-from_place ks place key at = (
  place,
  slice_get_within ks place key at,
  get_or_from_slice_get ks place key
      key at,
)

module _ {K : Type 0} (same : K → K → Bool) (exact : (x y : K) → Decides (same x y) (x ≡ y)) where
  -- a key of the list is among them, by the test
  pub is_among-from_Contains : (ks : List K) (key : K) → Contains ks key → is_among same key ks ≡ true
  is_among-from_Contains ks key there = list_any_at (λ other. same other key) ks there.0 key there.1
      ((exact _ key).1 there.2)

  -- a key that the test finds is in the list
  pub Contains-from_is_among : (ks : List K) (key : K) → is_among same key ks ≡ true → Contains ks key
  Contains-from_is_among [] key among = absurd (false≢true among)
  Contains-from_is_among (first ∷ ks) key among = ⊎_elim
      (λ (here : same first key ≡ true). (0, omega arith, (exact first key).0 here))
      (λ (other : same first key ≡ false).
      let rest : is_among same key ks ≡ true = grind arith in later first ks key (Contains-from_is_among ks key rest))
      (cases_Bool (same first key))

  -- a key that isn't in the list isn't among them
  pub not_among : (ks : List K) (key : K) → ¬ Contains ks key → is_among same key ks ≡ false
  not_among ks key absent = ⊎_elim
      (λ (among : is_among same key ks ≡ true). absurd (absent (Contains-from_is_among ks key among)))
      (λ (among : is_among same key ks ≡ false). among)
      (cases_Bool (is_among same key ks))

  -- the key stands at its position
  pub found : (ks : List K) (key : K) (place : ℕ) → position (same key) ks ≡ Some place → slice_get ks place ≡ Some key
  found ks key place e =
      let p = position-Some (same key) ks place key e in
      slice_get-get_or ks place key p.0 ∙ ap Some (sym ((exact key (get_or ks place key)).0 p.1))

  -- a key without a position isn't in the list
  pub missing : (ks : List K) (key : K) → position (same key) ks ≡ None → ¬ Contains ks key
  missing ks key e there =
      let first = position_or_len (same key) ks in
      let passes : same key (get_or ks there.0 key) ≡ true = (exact key (get_or ks there.0 key)).1 (sym there.2) in
      let at : position (same key) ks ≡ Some first = ⊎_elim
      (λ (before : there.0 < first). absurd (true≢false
      (sym passes ∙ fails_before_first (same key) ks there.0 key before)))
      (λ (after : first ≤ there.0).
      let within : first < length ks = omega (arith, there.1) in
      ap (λ b. cond b (Some first) None) (lt-ltb first (length ks) within))
      (cases_lt there.0 first) in
      absurd (cc)

  -- both, of an answer that is the position
  pub found_at : (ks : List K) (key : K) (answer : Option ℕ) → answer ≡ position (same key) ks
      → IfSome answer (λ place. slice_get ks place ≡ Some key)
  found_at ks key None e = tt
  found_at ks key (Some place) e = found ks key place (sym e)

  pub missing_at : (ks : List K) (key : K) (answer : Option ℕ) → answer ≡ position (same key) ks
      → IfNone answer (¬ Contains ks key)
  missing_at ks key None e = missing ks key (sym e)
  missing_at ks key (Some place) e = tt

  none_like : {A B : Type 0} (one : Option A) (other : Option B) → is_some one ≡ is_some other → one ≡ None
      → other ≡ None
  none_like one None alike e = refl
  none_like one (Some x) alike e = absurd (false≢true (sym (ap is_some e) ∙ alike))

  module _ {V : Type 0} where
    no_value : (rows : List (K × V)) (key : K) → position (same key) (keys_of rows) ≡ None
        → lookup (same key) rows ≡ None
    no_value rows key e = none_like (position (same key) (keys_of rows)) (lookup (same key) rows)
        (some_index (same key) rows) e

    -- a key without a position is inserted after the others
    pub inserted : {S : Type 0} (map : IndexMap K V S) (after : List (K × V)) (key : K) (value : V)
        → position (same key) (keys_of map.entries) ≡ None → after ≡ insert_entry same map.entries key value
        → after ≡ map.entries ++ (key, value) ∷ []
    inserted map after key value e is = is ∙ insert_entry-new same map key value (no_value map.entries key e)

    others_stay : (key : K) (rows : List (K × V)) → AllByRecursion (λ other. same key other ≡ false) (keys_of rows)
        → filter (λ row. not (same key row.0)) rows ≡ rows
    others_stay key [] h = refl
    others_stay key (row ∷ rows) h =
        ap (λ b. cond (not b) (row ∷ filter (λ row. not (same key row.0)) rows)
        (filter (λ row. not (same key row.0)) rows)) h.0
        ∙ ap (λ l. row ∷ l) (others_stay key rows h.1)

    -- among distinct keys, the first row of a key is its only one
    pub remove_entry-filter : (key : K) (rows : List (K × V)) → IsDistinct same (keys_of rows)
        → remove_entry (same key) rows ≡ filter (λ row. not (same key row.0)) rows
    remove_entry-filter key [] distinct = refl
    remove_entry-filter key (row ∷ rows) distinct =
        let rest = filter (λ other. not (same key other.0)) rows in
        let removed = remove_entry (same key) rows in
        ⊎_elim
        (λ (here : same key row.0 ≡ true).
        let those =
        subst (λ k. AllByRecursion (λ other. same k other ≡ false) (keys_of rows))
        (sym ((exact key row.0).0 here)) (IsDistinct-head same row.0 (keys_of rows) distinct) in
        ap (λ b. cond b rows (row ∷ removed)) here ∙ sym (others_stay key rows those)
        ∙ sym (ap (λ b. cond (not b) (row ∷ rest) rest) here))
        (λ (other : same key row.0 ≡ false).
        ap (λ b. cond b rows (row ∷ removed)) other
        ∙ ap (λ l. row ∷ l) (remove_entry-filter key rows (IsDistinct-tail same row.0 (keys_of rows) distinct))
        ∙ sym (ap (λ b. cond (not b) (row ∷ rest) rest) other))
        (cases_Bool (same key row.0))

    -- among distinct keys, a removal leaves the rows of all other keys
    pub removed : (rows after : List (K × V)) (key : K) → IsDistinct same (keys_of rows)
        → after ≡ remove_entry (same key) rows → after ≡ filter (λ row. not (same key row.0)) rows
    removed rows after key distinct is = is ∙ remove_entry-filter key rows distinct

-- a write to a value leaves the keys
pub keys_set_value_at : {K V : Type 0} (rows : List (K × V)) (place : ℕ) (value : V)
    → keys_of (set_value_at rows place value) ≡ keys_of rows
keys_set_value_at [] place value = refl
keys_set_value_at (row ∷ rows) zero value = refl
keys_set_value_at (row ∷ rows) (suc place) value = ap (λ ks. row.0 ∷ ks) (keys_set_value_at rows place value)
