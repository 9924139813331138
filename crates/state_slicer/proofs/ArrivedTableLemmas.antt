-- The table of the keys that arrived, with a value for each: one more arrival of a key.
use Rattle.std.proofs.Common.{◌≡◌, ℕ, Bool, false, List, [], ◌∷◌, ◌++◌, Some, slice_get, Contains, inr, refl, sym, ap, subst, ◌∙◌}
use Rattle.std.specs.Bool.{Decides}
use Rattle.bucket_meaning.specs.Guard.{admitted, dropped}
use Rattle.bucket_meaning.specs.Kept.{count_in_u64}
use Rattle.bucket_meaning.proofs.GuardLemmas.{admitted-distinct}
use Rattle.dim_table.specs.declared.answer.Admit.TheVariants.{At, Full}
use Rattle.dim_table.specs.Table.{Table, keys, with_value_at, IsNew, IsTurnedAway, TableStandsFor}
use Rattle.dim_table.proofs.KeyLemmas.{keys_of-push}
use Rattle.dim_table.proofs.RowLemmas.{rows_by, rows_by-push, rows_by-absent, set_value_at-rows_by}
use Rattle.dim_table.proofs.TableLemmas.{keys-with_value_at, TableStandsFor-with_value_at, there_stands, Admits-stands}
use Rattle.state_slicer.proofs.KeyedRowsLemmas.{keys-by}

module _ {K V : Type 0} (same : K → K → Bool) (exact : (x y : K) → Decides (same x y) (x ≡ y)) (bound : ℕ) where
  -- the table of what arrived, with a value for each key
  abbrev pub table_for : (K → V) → List K → Table K V
  table_for value_of arrived = record {
    rows = rows_by value_of (admitted same bound arrived);
    bound = bound;
    dropped = count_in_u64 (dropped same bound arrived);
  }

  table_stands : (value_of : K → V) (arrived : List K) → TableStandsFor same (table_for value_of arrived) arrived
  table_stands value_of arrived = record {
    keys_are = keys-by value_of (admitted same bound arrived);
    dropped_are = refl;
  }

  -- a table with such rows that stands for what arrived is that table
  same_table : (table : Table K V) (value_of : K → V) (arrived : List K) → table.bound ≡ bound
      → table.rows ≡ rows_by value_of (keys table) → TableStandsFor same table arrived
      → table ≡ table_for value_of arrived
  same_table table value_of arrived bounded rows_are stands =
      let ks : keys table ≡ admitted same bound arrived =
      stands.keys_are ∙ ap (λ n. admitted same n arrived) bounded in
      let count : table.dropped ≡ count_in_u64 (dropped same bound arrived) =
      stands.dropped_are ∙ ap (λ n. count_in_u64 (dropped same n arrived)) bounded in
      let rows : List (K × V) = rows_by value_of (admitted same bound arrived) in
      ap (λ l. record { rows = l; bound = table.bound; dropped = table.dropped })
      (rows_are ∙ ap (rows_by value_of) ks)
      ∙ ap (λ n. record { rows = rows; bound = n; dropped = table.dropped }) bounded
      ∙ ap (λ n. record { rows = rows; bound = bound; dropped = n }) count

  module _ (before after : K → V) (arrived : List K) (key : K)
      (others : (other : K) → same key other ≡ false → after other ≡ before other) where
    abbrev old_table : Table K V
    old_table = table_for before arrived

    abbrev one_more : List K
    one_more = arrived ++ key ∷ []

    old_keys : keys old_table ≡ admitted same bound arrived
    old_keys = keys-by before (admitted same bound arrived)

    -- a key that is there gets its value
    pub now_at : (place : ℕ) → slice_get (keys old_table) place ≡ Some key
        → with_value_at old_table place (after key) ≡ table_for after one_more
    now_at place there =
        same_table (with_value_at old_table place (after key)) after one_more refl
        (set_value_at-rows_by same exact before after (admitted same bound arrived) place key
        (admitted-distinct same bound arrived) (ap (λ ks. slice_get ks place) (sym old_keys) ∙ there) others
        ∙ ap (rows_by after) (sym (keys-with_value_at old_table place (after key) ∙ old_keys)))
        (TableStandsFor-with_value_at same old_table place (after key) one_more
        (there_stands same exact old_table old_table key place (record { at = there; same = refl }) arrived
        (table_stands before arrived)))

    -- a new key gets a row
    pub now_new : (new : Table K V) (place : ℕ) → IsNew old_table new key (after key) place
        → new ≡ table_for after one_more
    now_new new place added =
        let absent = subst (λ ks. ¬ Contains ks key) old_keys added.absent in
        let new_keys : keys new ≡ admitted same bound arrived ++ key ∷ [] =
        ap keys added.added ∙ keys_of-push old_table.rows key (after key) ∙ ap (λ l. l ++ key ∷ []) old_keys in
        same_table new after one_more (ap (λ (t : Table K V). t.bound) added.added)
        (ap (λ (t : Table K V). t.rows) added.added
        ∙ ap (λ l. l ++ (key, after key) ∷ [])
        (rows_by-absent same exact before after key (admitted same bound arrived) absent others)
        ∙ sym (rows_by-push after (admitted same bound arrived) key)
        ∙ ap (rows_by after) (sym new_keys))
        (Admits-stands same exact old_table new key (after key) (At place) (inr added) arrived
        (table_stands before arrived))

    -- one that finds no room is counted
    pub now_away : (new : Table K V) → IsTurnedAway old_table new key → new ≡ table_for after one_more
    now_away new away =
        let absent = subst (λ ks. ¬ Contains ks key) old_keys away.absent in
        same_table new after one_more (ap (λ (t : Table K V). t.bound) away.added)
        (ap (λ (t : Table K V). t.rows) away.added
        ∙ rows_by-absent same exact before after key (admitted same bound arrived) absent others
        ∙ ap (rows_by after) (sym (ap keys away.added ∙ old_keys)))
        (Admits-stands same exact old_table new key (after key) Full away arrived (table_stands before arrived))
