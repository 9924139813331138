-- What a table stands for, one call at a time: for the proofs of callers.
use Rattle.std.proofs.Common.{◌≡◌, ℕ, ◌+◌, ◌<◌, ◌≤◌, Bool, true, false, not, if◌then◌else◌, List, [], ◌∷◌, ◌++◌, Some, Result, Ok, Err, slice_get, length, OnOk, IfOk, inl, refl, sym, ap, subst, ◌∙◌, arith, ⊎_elim}
use Rattle.std.specs.Bool.{Decides}
use Rattle.std.proofs.lemmas.Map.Entries.{length-keys_of}
use Rattle.bucket_meaning.specs.Guard.{is_among, admitted, dropped}
use Rattle.bucket_meaning.specs.Kept.{count_in_u64}
use Rattle.bucket_meaning.proofs.GuardLemmas.{admitted_present, admitted_new, admitted_full, dropped_same, dropped_new}
use Rattle.dim_table.specs.declared.answer.Admit.{Admit}
use Rattle.dim_table.specs.declared.answer.Admit.TheVariants.{At, Full}
use Rattle.dim_table.specs.Table.{Table, keys, with_value_at, IsThere, IsNew, IsTurnedAway, Admits, TableStandsFor, TakesArrival}
use Rattle.dim_table.proofs.KeyLemmas.{keys_of-push, Contains-from_place, is_among-from_Contains, not_among, keys_set_value_at}

-- a write to a value leaves the keys
pub keys-with_value_at : {K V : Type 0} (table : Table K V) (place : ℕ) (value : V)
    → keys (with_value_at table place value) ≡ keys table
keys-with_value_at table place value = keys_set_value_at table.rows place value

module _ {K V : Type 0} (same : K → K → Bool) where
  -- a table with the same keys, bound and count stands for the same arrivals
  pub TableStandsFor-alike : (old new : Table K V) (arrived : List K) → keys new ≡ keys old → new.bound ≡ old.bound
      → new.dropped ≡ old.dropped → TableStandsFor same old arrived → TableStandsFor same new arrived
  TableStandsFor-alike old new arrived same_keys same_bound same_count stands =
      record {
        keys_are = same_keys ∙ stands.keys_are ∙ ap (λ n. admitted same n arrived) (sym same_bound);
        dropped_are = same_count ∙ stands.dropped_are
            ∙ ap (λ n. count_in_u64 (dropped same n arrived)) (sym same_bound);
      }

  -- and so after a write to a value
  pub TableStandsFor-with_value_at : (table : Table K V) (place : ℕ) (value : V) (arrived : List K)
      → TableStandsFor same table arrived → TableStandsFor same (with_value_at table place value) arrived
  TableStandsFor-with_value_at table place value arrived stands =
      TableStandsFor-alike table (with_value_at table place value) arrived
      (keys-with_value_at table place value) refl refl stands

  module _ (exact : (x y : K) → Decides (same x y) (x ≡ y)) where
    module _ (old new : Table K V) (key : K) where
      -- the answer of a key's place, where the key is there
      pub there_answer : (fresh : V) (place : ℕ) → slice_get (keys old) place ≡ Some key
          → Admits old old key fresh (At place)
      there_answer fresh place at = inl (record { at = at; same = refl })

      -- an arrival whose key is there
      pub there_stands : (place : ℕ) → IsThere old new key place → TakesArrival same old new key
      there_stands place h arrived stands =
          let there = Contains-from_place (keys old) place key h.at in
          let among : is_among same key (admitted same old.bound arrived) ≡ true =
          subst (λ ks. is_among same key ks ≡ true) stands.keys_are
          (is_among-from_Contains same exact (keys old) key there) in
          let stays = admitted_present same old.bound arrived key among in
          let none : dropped same old.bound (arrived ++ key ∷ []) ≡ dropped same old.bound arrived + 0 =
          dropped_same same old.bound arrived key stays
          ∙ ap (λ b. dropped same old.bound arrived + (if not b then 1 else 0)) among in
          let kept : TableStandsFor same old (arrived ++ key ∷ []) =
          record {
            keys_are = stands.keys_are ∙ sym stays;
            dropped_are = stands.dropped_are
                ∙ ap count_in_u64 (omega (arith, none));
          } in
          subst (λ table. TableStandsFor same table (arrived ++ key ∷ [])) (sym h.same) kept

      -- an arrival that brings a new key
      new_stands : (fresh : V) (place : ℕ) → IsNew old new key fresh place → TakesArrival same old new key
      new_stands fresh place h arrived stands =
          let among : is_among same key (admitted same old.bound arrived) ≡ false =
          subst (λ ks. is_among same key ks ≡ false) stands.keys_are (not_among same exact (keys old) key h.absent) in
          let room : length (admitted same old.bound arrived) < old.bound =
          omega (arith, ap length stands.keys_are, length-keys_of old.rows, h.room) in
          let grown : Table K V = record old { rows = old.rows ++ (key, fresh) ∷ [] } in
          let kept : TableStandsFor same grown (arrived ++ key ∷ []) = record {
            keys_are = keys_of-push old.rows key fresh ∙ ap (λ ks. ks ++ key ∷ []) stands.keys_are
                ∙ sym (admitted_new same old.bound arrived key among room);
            dropped_are = stands.dropped_are
                ∙ ap count_in_u64 (sym (dropped_new same exact old.bound arrived key among room));
          } in
          subst (λ table. TableStandsFor same table (arrived ++ key ∷ [])) (sym h.added) kept

      -- an arrival that is turned away
      away_stands : IsTurnedAway old new key → TakesArrival same old new key
      away_stands h arrived stands =
          let among : is_among same key (admitted same old.bound arrived) ≡ false =
          subst (λ ks. is_among same key ks ≡ false) stands.keys_are (not_among same exact (keys old) key h.absent) in
          let full : old.bound ≤ length (admitted same old.bound arrived) =
          omega (arith, ap length stands.keys_are, length-keys_of old.rows, h.full) in
          let stays = admitted_full same old.bound arrived key full in
          let one : dropped same old.bound (arrived ++ key ∷ []) ≡ dropped same old.bound arrived + 1 =
          dropped_same same old.bound arrived key stays
          ∙ ap (λ b. dropped same old.bound arrived + (if not b then 1 else 0)) among in
          let counting : Table K V = record old { dropped = count_in_u64 (old.dropped + 1) } in
          let kept : TableStandsFor same counting (arrived ++ key ∷ []) = record {
            keys_are = stands.keys_are ∙ sym stays;
            dropped_are = omega (arith, one, stands.dropped_are);
          } in
          subst (λ table. TableStandsFor same table (arrived ++ key ∷ [])) (sym h.added) kept

      -- whatever the answer to an arrival, the new table stands for one arrival more
      pub Admits-stands : (fresh : V) (answer : Admit) → Admits old new key fresh answer → TakesArrival same old new key
      Admits-stands fresh (At place) h = ⊎_elim
          (λ (there : IsThere old new key place). there_stands place there)
          (λ (added : IsNew old new key fresh place). new_stands fresh place added) h
      Admits-stands fresh Full h = away_stands h

      -- what holds of each answer holds of the result, where it is one
      pub ok_stands : {E : Type 0} (fresh : V) (result : Result Admit E) → IfOk result (Admits old new key fresh)
          → OnOk result (TakesArrival same old new key)
      ok_stands fresh (Ok answer) h = Admits-stands fresh answer h
      ok_stands fresh (Err e) h = tt
