-- Rows as a function of their keys, for callers who say what each key's value is.
use Rattle.std.proofs.Common.{◌≡◌, ℕ, zero, suc, Bool, true, false, List, [], ◌∷◌, ◌++◌, Some, map, slice_get, length, Contains, ⊎_elim, arith, refl, sym, ap, ◌∙◌}
use Rattle.std.specs.Bool.{Decides}
use Rattle.std.specs.List.{AllByRecursion, IsDistinct}
use Rattle.std.proofs.lemmas.Map.Keys.{IsDistinct-head, IsDistinct-tail}
use Rattle.std.proofs.lemmas.List.{map-append}
use Rattle.std.proofs.lemmas.Option.{none-some, same_Some, slice_get-map}
use Rattle.std.proofs.lemmas.Bool.{true≢false}
use Rattle.std.specs.Map.{values_of}
use Rattle.std.specs.Option.{option_map}
use Rattle.indexmap.specs.Layout.{set_value_at}
use Rattle.dim_table.specs.declared.answer.Admit.TheVariants.{At}
use Rattle.dim_table.specs.Table.{Table, keys, IsThere, IsNew, Admits}
use Rattle.dim_table.proofs.KeyLemmas.{keys_of-push, not_among}

module _ {K V : Type 0} where
  -- each key with its value
  abbrev pub rows_by : (K → V) → List K → List (K × V)
  rows_by value_of keys = map (λ key. (key, value_of key)) keys

  -- one more key brings its row after the others
  pub rows_by-push : (value_of : K → V) (keys : List K) (key : K)
      → rows_by value_of (keys ++ key ∷ []) ≡ rows_by value_of keys ++ (key, value_of key) ∷ []
  rows_by-push value_of keys key = map-append (λ k. (k, value_of k)) keys (key ∷ [])

  values_of-rows_by : (value_of : K → V) (keys : List K) → values_of (rows_by value_of keys) ≡ map value_of keys
  values_of-rows_by value_of [] = refl
  values_of-rows_by value_of (key ∷ keys) = ap (λ l. value_of key ∷ l) (values_of-rows_by value_of keys)

  last_value : (rows : List (K × V)) (key : K) (value : V)
      → slice_get (values_of (rows ++ (key, value) ∷ [])) (length rows) ≡ Some value
  last_value [] key value = refl
  last_value (row ∷ rows) key value = last_value rows key value

  set_last_value : (rows : List (K × V)) (key : K) (was now : V)
      → set_value_at (rows ++ (key, was) ∷ []) (length rows) now ≡ rows ++ (key, now) ∷ []
  set_last_value [] key was now = refl
  set_last_value (row ∷ rows) key was now = ap (λ l. row ∷ l) (set_last_value rows key was now)

  module _ (same : K → K → Bool) (exact : (x y : K) → Decides (same x y) (x ≡ y)) (before after : K → V) where
    -- where the values of all keys but one stay, so do the rows of others
    rows_by-others : (key : K) → ((other : K) → same key other ≡ false → after other ≡ before other) → (keys : List K)
        → AllByRecursion (λ other. same key other ≡ false) keys → rows_by before keys ≡ rows_by after keys
    rows_by-others key stays [] apart = refl
    rows_by-others key stays (first ∷ keys) apart =
        ap (λ value. (first, value) ∷ rows_by before keys) (sym (stays first apart.0))
        ∙ ap (λ l. (first, after first) ∷ l) (rows_by-others key stays keys apart.1)

    flip : (x y : K) → same x y ≡ false → same y x ≡ false
    flip x y apart = by (same y x) refl
      where
        by : (b : Bool) → same y x ≡ b → same y x ≡ false
        by true e = absurd (true≢false (sym ((exact x y).1 (sym ((exact y x).0 e))) ∙ apart))
        by false e = e

    all_apart : (key : K) (keys : List K) → ¬ Contains keys key → AllByRecursion (λ other. same key other ≡ false) keys
    all_apart key [] absent = tt
    all_apart key (first ∷ keys) absent =
        let among = not_among same exact (first ∷ keys) key absent in (
          flip first key (grind (arith, among)),
          all_apart key keys
              (λ there. absent (suc there.0, omega (arith, there.1), there.2)),
        )

    -- where only the value of an absent key changed, all rows stay
    pub rows_by-absent : (key : K) (keys : List K) → ¬ Contains keys key
        → ((other : K) → same key other ≡ false → after other ≡ before other) → rows_by before keys ≡ rows_by after keys
    rows_by-absent key keys absent stays = rows_by-others key stays keys (all_apart key keys absent)

    apart_at : (key other : K) (keys : List K) (place : ℕ) → AllByRecursion (λ k. same other k ≡ false) keys
        → slice_get keys place ≡ Some key → same other key ≡ false
    apart_at key other [] place apart at = absurd (none-some key at)
    apart_at key other (first ∷ keys) zero apart at = ap (same other) (sym (same_Some first key at)) ∙ apart.0
    apart_at key other (first ∷ keys) (suc place) apart at = apart_at key other keys place apart.1 at

    -- among distinct keys, a write to the row of one key is a change of that key's value
    pub set_value_at-rows_by : (keys : List K) (place : ℕ) (key : K) → IsDistinct same keys
        → slice_get keys place ≡ Some key → ((other : K) → same key other ≡ false → after other ≡ before other)
        → set_value_at (rows_by before keys) place (after key) ≡ rows_by after keys
    set_value_at-rows_by [] place key distinct at stays = refl
    set_value_at-rows_by (first ∷ keys) zero key distinct at stays =
        let here = same_Some first key at in
        ap (λ k. (first, after k) ∷ rows_by before keys) (sym here)
        ∙ ap (λ l. (first, after first) ∷ l) (rows_by-others first
        (λ other apart. stays other (ap (λ k. same k other) (sym here) ∙ apart)) keys
        (IsDistinct-head same first keys distinct))
    set_value_at-rows_by (first ∷ keys) (suc place) key distinct at stays =
        let apart : same first key ≡ false =
        apart_at key first keys place (IsDistinct-head same first keys distinct) at in
        ap (λ value. (first, value) ∷ set_value_at (rows_by before keys) place (after key))
        (sym (stays first (flip first key apart)))
        ∙ ap (λ l. (first, after first) ∷ l) (set_value_at-rows_by keys place key
        (IsDistinct-tail same first keys distinct) at stays)

    module _ (old new : Table K V) (key : K) (fresh : V) (place : ℕ) (was : old.rows ≡ rows_by before (keys old))
        (admits : Admits old new key fresh (At place)) where
      -- the row of an admitted key has the value that the key had, or the fresh one
      pub Admits-value : (IsNew old new key fresh place → fresh ≡ before key)
          → slice_get (values_of new.rows) place ≡ Some (before key)
      Admits-value first = ⊎_elim
          (λ (there : IsThere old new key place).
          ap (λ table. slice_get (values_of table.rows) place) there.same
          ∙ ap (λ rows. slice_get (values_of rows) place) was
          ∙ ap (λ l. slice_get l place) (values_of-rows_by before (keys old)) ∙ slice_get-map before (keys old) place
          ∙ ap (option_map before) there.at)
          (λ (added : IsNew old new key fresh place).
          ap (λ table. slice_get (values_of table.rows) place) added.added
          ∙ ap (slice_get (values_of (old.rows ++ (key, fresh) ∷ []))) added.last
          ∙ last_value old.rows key fresh ∙ ap Some (first added))
          admits

      -- and after a write to that row, each key has its value, where only this key's value changed
      pub Admits-rows_by : IsDistinct same (keys old)
          → ((other : K) → same key other ≡ false → after other ≡ before other)
          → set_value_at new.rows place (after key) ≡ rows_by after (keys new)
      Admits-rows_by distinct stays = ⊎_elim
          (λ (there : IsThere old new key place).
          ap (λ table. set_value_at table.rows place (after key)) there.same
          ∙ ap (λ rows. set_value_at rows place (after key)) was
          ∙ set_value_at-rows_by (keys old) place key distinct there.at stays
          ∙ ap (λ table. rows_by after (keys table)) (sym there.same))
          (λ (added : IsNew old new key fresh place).
          let others : old.rows ≡ rows_by after (keys old) = was ∙ rows_by-absent key (keys old) added.absent stays in
          ap (λ table. set_value_at table.rows place (after key)) added.added
          ∙ ap (λ n. set_value_at (old.rows ++ (key, fresh) ∷ []) n (after key)) added.last
          ∙ set_last_value old.rows key fresh (after key) ∙ ap (λ rows. rows ++ (key, after key) ∷ []) others
          ∙ sym (rows_by-push after (keys old) key)
          ∙ ap (rows_by after) (sym (keys_of-push old.rows key fresh))
          ∙ ap (λ table. rows_by after (keys table)) (sym added.added))
          admits
