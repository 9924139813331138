-- The table of a part, one more arrival at a time: for every kind whose table has, for each admitted key, what the
-- arrivals so far make of it.
use Rattle.std.proofs.Common.{◌≡◌, ℕ, ◌+◌, ◌-◌, ◌<◌, ◌≤◌, Bool, true, false, not, if◌then◌else◌, List, [], ◌∷◌, ◌++◌, map, length, slice_get, Contains, Some, refl, sym, ap, subst, ◌∙◌, arith, ⊎_elim}
use Rattle.std.specs.Bool.{Decides}
use Rattle.std.specs.List.{IsDistinct}
use Rattle.std.specs.Map.{keys_of, values_of}
use Rattle.std.proofs.lemmas.List.{length-map}
use Rattle.bucket_meaning.specs.Guard.{is_among, admitted, dropped, of_key, arrival_key}
use Rattle.bucket_meaning.specs.Kept.{count_in_u64}
use Rattle.bucket_meaning.proofs.GuardLemmas.{of_key_none, admitted_present, admitted_new, admitted_full, admitted-distinct, dropped_same, dropped_new, not_yet_come}
use Rattle.dim_table.specs.declared.answer.Admit.TheVariants.{At}
use Rattle.dim_table.specs.Table.{Table, keys, Admits, IsThere, IsNew, IsTurnedAway, with_value_at, set_value_at}
use Rattle.dim_table.proofs.KeyLemmas.{keys_of-push, Contains-from_place, is_among-from_Contains, not_among}
use Rattle.dim_table.proofs.RowLemmas.{rows_by, rows_by-absent, Admits-value, Admits-rows_by}
use Rattle.metric_producer.proofs.KeysLemmas.{keys_push}

-- the keys of rows by key
keys_of-rows_by : {K V : Type 0} (value_of : K → V) (ks : List K) → keys_of (rows_by value_of ks) ≡ ks
keys_of-rows_by value_of [] = refl
keys_of-rows_by value_of (key ∷ ks) = ap (λ others. key ∷ others) (keys_of-rows_by value_of ks)

-- the count where no more are dropped
lost_more : (lost more : ℕ) → more ≡ 0 → count_in_u64 lost ≡ count_in_u64 (lost + more)
lost_more lost more none = omega (arith, none)

-- an admitted key leaves the bound
pub admits_bound : {K V : Type 0} (old mid : Table K V) (key : K) (fresh : V) (place : ℕ)
    → Admits old mid key fresh (At place) → mid.bound ≡ old.bound
admits_bound {K} {V} old mid key fresh place admits = ⊎_elim
    (λ (there : IsThere old mid key place). ap (λ (table : Table K V). table.bound) there.same)
    (λ (added : IsNew old mid key fresh place). ap (λ (table : Table K V). table.bound) added.added)
    admits

module _ {K C V : Type 0} (same : K → K → Bool) (exact : (x y : K) → Decides (same x y) (x ≡ y))
    (value : List (K × C) → K → V) where
  -- The table of what came in the open part: each admitted key has what came for it, and the count is of so many drops.
  pub record IsTabled (table : Table K V) (came : List (K × C)) (lost : ℕ) : Type 0 where
    pub rows : table.rows ≡ rows_by (value came) (admitted same table.bound (map arrival_key came))
    pub dropped_are : table.dropped ≡ count_in_u64 lost

  -- how many more arrivals are dropped once this key arrives
  abbrev pub lost_with : ℕ → List (K × C) → K → C → ℕ
  lost_with bound came key share =
      dropped same bound (map arrival_key (came ++ (key, share) ∷ [])) - dropped same bound (map arrival_key came)

  module _ (old : Table K V) (came : List (K × C)) (lost : ℕ) (is : IsTabled old came lost) (key : K) (share : C)
      (stays : (other : K) → same key other ≡ false → value (came ++ (key, share) ∷ []) other ≡ value came other) where
    -- the keys of the table are those that were admitted
    keys_are : keys old ≡ admitted same old.bound (map arrival_key came)
    keys_are = ap keys_of is.rows ∙ keys_of-rows_by (value came) (admitted same old.bound (map arrival_key came))

    -- each has what came for it
    rows_are : old.rows ≡ rows_by (value came) (keys old)
    rows_are = is.rows ∙ ap (rows_by (value came)) (sym keys_are)

    -- how many more are dropped, by the counts of all
    more_is : (more : ℕ) → dropped same old.bound (map arrival_key came ++ key ∷ [])
        ≡ dropped same old.bound (map arrival_key came) + more
        → lost_with old.bound came key share ≡ more
    more_is more rise =
        ap (λ ks. dropped same old.bound ks - dropped same old.bound (map arrival_key came)) (keys_push came key share)
        ∙ ap (λ all. all - dropped same old.bound (map arrival_key came)) rise
        ∙ omega arith

    -- a key that isn't in the table isn't admitted yet
    absent_is : ¬ Contains (keys old) key → is_among same key (admitted same old.bound (map arrival_key came)) ≡ false
    absent_is absent =
        subst (λ ks. is_among same key ks ≡ false) keys_are (not_among same exact (keys old) key absent)

    -- a table has as many rows as keys were admitted
    size_is : length old.rows ≡ length (admitted same old.bound (map arrival_key came))
    size_is = ap length is.rows ∙ length-map (admitted same old.bound (map arrival_key came)) (λ k. (k, value came k))

    -- there is room for a key that is new
    room_is : length old.rows < old.bound → length (admitted same old.bound (map arrival_key came)) < old.bound
    room_is room = omega (arith, size_is, room)

    -- What an admitted key does to the keys and to the count.
    record IsIn (mid : Table K V) : Type 0 where
      dropped_is : mid.dropped ≡ old.dropped
      keys_now : keys mid ≡ admitted same old.bound (map arrival_key (came ++ (key, share) ∷ []))
      none : lost_with old.bound came key share ≡ 0

    -- a key that has a row
    is_there : (mid : Table K V) (place : ℕ) → IsThere old mid key place → IsIn mid
    is_there mid place there =
        let ks = admitted same old.bound (map arrival_key came) in
        let at : slice_get ks place ≡ Some key = subst (λ l. slice_get l place ≡ Some key) keys_are there.at in
        let among : is_among same key ks ≡ true =
        is_among-from_Contains same exact ks key (Contains-from_place ks place key at) in
        let grows : admitted same old.bound (map arrival_key came ++ key ∷ []) ≡ ks =
        admitted_present same old.bound (map arrival_key came) key among in
        record {
          dropped_is = ap (λ (table : Table K V). table.dropped) there.same;
          keys_now = ap keys there.same ∙ keys_are ∙ sym grows
              ∙ ap (admitted same old.bound) (sym (keys_push came key share));
          none = more_is 0 (dropped_same same old.bound (map arrival_key came) key grows
              ∙ ap (λ b. dropped same old.bound (map arrival_key came) + (if not b then 1 else 0)) among);
        }

    -- a key that gets one
    is_added : (mid : Table K V) (fresh : V) (place : ℕ) → IsNew old mid key fresh place → IsIn mid
    is_added mid fresh place added =
        let ks = admitted same old.bound (map arrival_key came) in
        let absent = absent_is added.absent in
        let room = room_is added.room in
        record {
          dropped_is = ap (λ (table : Table K V). table.dropped) added.added;
          keys_now = ap keys added.added ∙ keys_of-push old.rows key fresh ∙ ap (λ l. l ++ key ∷ []) keys_are
              ∙ sym (admitted_new same old.bound (map arrival_key came) key absent room)
              ∙ ap (admitted same old.bound) (sym (keys_push came key share));
          none = more_is 0 (dropped_new same exact old.bound (map arrival_key came) key absent room ∙ omega arith);
        }

    -- what came with an admitted key isn't dropped
    pub none_lost : (mid : Table K V) (fresh : V) (place : ℕ) → Admits old mid key fresh (At place)
        → lost_with old.bound came key share ≡ 0
    none_lost mid fresh place admits =
        let in_it : IsIn mid = ⊎_elim (is_there mid place) (is_added mid fresh place) admits in
        in_it.none

    -- A key that was admitted, and whose row was written anew, has what came with this arrival; `fresh` is what no
    -- arrival makes.
    pub tabled_at : (mid new : Table K V) (fresh : V) (place : ℕ) (next : V → V) → Admits old mid key fresh (At place)
        → new.bound ≡ mid.bound
        → ((was : V) → slice_get (values_of mid.rows) place ≡ Some was → new ≡ with_value_at mid place (next was))
        → value (came ++ (key, share) ∷ []) key ≡ next (value came key)
        → (of_key same key came ≡ [] → value came key ≡ fresh)
        → IsTabled new (came ++ (key, share) ∷ []) (lost + lost_with old.bound came key share)
    tabled_at mid new fresh place next admits bound written own first =
        let before = value came in
        let after = value (came ++ (key, share) ∷ []) in
        let all = map arrival_key (came ++ (key, share) ∷ []) in
        let fresh_is : IsNew old mid key fresh place → fresh ≡ before key = λ added.
        sym (first (of_key_none same key came
        (not_yet_come same exact old.bound (map arrival_key came) key (room_is added.room)
        (absent_is added.absent)))) in
        let was : slice_get (values_of mid.rows) place ≡ Some (before key) =
        Admits-value same exact before after old mid key fresh place rows_are admits fresh_is in
        let is_new : new ≡ with_value_at mid place (next (before key)) = written (before key) was in
        let distinct : IsDistinct same (keys old) =
        subst (IsDistinct same) (sym keys_are) (admitted-distinct same old.bound (map arrival_key came)) in
        let rows : new.rows ≡ rows_by after (keys mid) =
        ap (λ (table : Table K V). table.rows) is_new ∙ ap (set_value_at mid.rows place) (sym own)
        ∙ Admits-rows_by same exact before after old mid key fresh place rows_are admits distinct stays in
        let in_it : IsIn mid = ⊎_elim (is_there mid place) (is_added mid fresh place) admits in
        record {
          rows = subst (λ n. new.rows ≡ rows_by after (admitted same n all))
              (sym (bound ∙ admits_bound old mid key fresh place admits)) (rows ∙ ap (rows_by after) in_it.keys_now);
          dropped_are = ap (λ (table : Table K V). table.dropped) is_new ∙ in_it.dropped_is ∙ is.dropped_are
              ∙ lost_more lost (lost_with old.bound came key share) in_it.none;
        }

    -- the keys stay where one was turned away
    keys_stay : (new : Table K V) → IsTurnedAway old new key
        → admitted same old.bound (map arrival_key came ++ key ∷ []) ≡ admitted same old.bound (map arrival_key came)
    keys_stay new away =
        let full : old.bound ≤ length (admitted same old.bound (map arrival_key came)) =
        omega (arith, size_is, away.full) in
        admitted_full same old.bound (map arrival_key came) key full

    -- what came with a key that was turned away is dropped
    pub one_lost : (new : Table K V) → IsTurnedAway old new key → lost_with old.bound came key share ≡ 1
    one_lost new away =
        more_is 1 (dropped_same same old.bound (map arrival_key came) key (keys_stay new away)
        ∙ ap (λ b. dropped same old.bound (map arrival_key came) + (if not b then 1 else 0)) (absent_is away.absent))

    -- A key that was turned away is counted.
    pub tabled_away : (new : Table K V) → IsTurnedAway old new key
        → IsTabled new (came ++ (key, share) ∷ []) (lost + lost_with old.bound came key share)
    tabled_away new away =
        let ks = admitted same old.bound (map arrival_key came) in
        let all = map arrival_key (came ++ (key, share) ∷ []) in
        let after = value (came ++ (key, share) ∷ []) in
        let grows : admitted same old.bound (map arrival_key came ++ key ∷ []) ≡ ks = keys_stay new away in
        let one : lost_with old.bound came key share ≡ 1 = one_lost new away in
        let rows : new.rows ≡ rows_by after (admitted same old.bound all) =
        ap (λ (table : Table K V). table.rows) away.added ∙ rows_are
        ∙ rows_by-absent same exact (value came) after key (keys old) away.absent stays
        ∙ ap (rows_by after) (keys_are ∙ sym grows)
        ∙ ap (λ l. rows_by after (admitted same old.bound l)) (sym (keys_push came key share)) in
        let counts : count_in_u64 (count_in_u64 lost + 1) ≡ count_in_u64 (lost + 1) = omega arith in
        record {
          rows = subst (λ n. new.rows ≡ rows_by after (admitted same n all))
              (sym (ap (λ (table : Table K V). table.bound) away.added)) rows;
          dropped_are = ap (λ (table : Table K V). table.dropped) away.added
              ∙ ap (λ n. count_in_u64 (n + 1)) is.dropped_are ∙ counts ∙ ap (λ n. count_in_u64 (lost + n)) (sym one);
        }
