-- The sums of a snapshot, one more integer at a time.
use Rattle.std.proofs.Common.{◌≡◌, ℤ, pos, Bool, true, false, ◌||◌, if◌then◌else◌, List, [], ◌∷◌, ◌++◌, map, Option, Some, None, refl, sym, ap, subst, ◌∙◌, arith, ⊎_elim}
use Rattle.std.specs.List.{AllByRecursion, IsDistinct, reduce}
use Rattle.std.specs.Map.{lookup}
use Rattle.std.specs.Option.{unwrap_or}
use Rattle.std.specs.Prelude.{cond}
use Rattle.std.proofs.lemmas.Bool.{cases_Bool}
use Rattle.indexmap.specs.IndexMap.{insert_entry}
use Rattle.atom_record.specs.Equal.{metric_key_exact}
use Rattle.atom_record.specs.declared.value.MetricKey.{MetricKey}
use Rattle.bucket_meaning.specs.Guard.{is_among, firsts, of_key, arrival_key}
use Rattle.bucket_meaning.proofs.GuardLemmas.{firsts-push, firsts-distinct, is_among-firsts}
use Rattle.config_types.specs.declared.metric.Aggregation.TheVariants.{Sum}
use Rattle.dim_table.proofs.RowLemmas.{rows_by, rows_by-push}
use Rattle.metric_producer.proofs.KeysLemmas.{other_way, of_own, of_other, keys_push}
use Rattle.metric_kinds.specs.Keys.{is_same_key}
use Rattle.metric_kinds.specs.Values.{joined, aggregate_of}
use Rattle.metric_kinds.specs.Diffs.{KeyedInts, key_sums}
use Rattle.value_metric.specs.Totals.{joined_to}
use Rattle.value_metric.specs.Sums.{with_sum}
use Rattle.value_metric.proofs.TotalsLemmas.{total-push}

-- the sum of a key's integers
abbrev sum_at : KeyedInts → MetricKey → ℤ
sum_at came key = aggregate_of Sum (of_key is_same_key key came)

-- two keys are compared either way
same_either : (one other : MetricKey) → is_same_key one other ≡ is_same_key other one
same_either one other = ⊎_elim
    (λ (is : is_same_key one other ≡ true).
    is ∙ sym ((metric_key_exact other one).1 (sym ((metric_key_exact one other).0 is))))
    (λ (differ : is_same_key one other ≡ false).
    differ ∙ sym (other_way is_same_key metric_key_exact one other differ))
    (cases_Bool (is_same_key one other))

-- what is found of a key among rows by key
lookup_by : (value : MetricKey → ℤ) (key : MetricKey) (keys : List MetricKey)
    → lookup (is_same_key key) (rows_by value keys) ≡ (if is_among is_same_key key keys then Some (value key) else None)
lookup_by value key [] = refl
lookup_by value key (first ∷ keys) = by (is_same_key first key) refl (lookup_by value key keys)
  where
    rest : Option ℤ
    rest = lookup (is_same_key key) (rows_by value keys)

    shown : Bool → Option ℤ
    shown b = if b || is_among is_same_key key keys then Some (value key) else None

    by : (b : Bool) → is_same_key first key ≡ b
        → rest ≡ (if is_among is_same_key key keys then Some (value key) else None)
        → cond (is_same_key key first) (Some (value first)) rest ≡ shown (is_same_key first key)
    by true e later =
        ap (λ b. cond b (Some (value first)) rest) (same_either key first ∙ e)
        ∙ ap (λ k. Some (value k)) ((metric_key_exact first key).0 e)
        ∙ sym (ap shown e)
    by false e later =
        ap (λ b. cond b (Some (value first)) rest) (same_either key first ∙ e)
        ∙ later
        ∙ sym (ap shown e)

-- what the integers of a key give: something where it came
some_or_none : (came : KeyedInts) (key : MetricKey)
    → (if is_among is_same_key key (map arrival_key came) then Some (sum_at came key) else None)
    ≡ reduce (joined Sum) (of_key is_same_key key came)
some_or_none [] key = refl
some_or_none (arrival ∷ came) key = by (is_same_key arrival.0 key) refl (some_or_none came key)
  where
    mine : Bool → List ℤ
    mine b = if b then arrival.1 ∷ of_key is_same_key key came else of_key is_same_key key came

    Both : Bool → Type 0
    Both b = (if b || is_among is_same_key key (map arrival_key came)
        then Some (unwrap_or (reduce (joined Sum) (mine b)) (pos 0)) else None)
        ≡ reduce (joined Sum) (mine b)

    by : (b : Bool) → is_same_key arrival.0 key ≡ b → Both false → Both (is_same_key arrival.0 key)
    by true e later = subst Both (sym e) refl
    by false e later = subst Both (sym e) later

-- the sum of a key is what its integers give
lookup_sums : (came : KeyedInts) (key : MetricKey)
    → lookup (is_same_key key) (key_sums came) ≡ reduce (joined Sum) (of_key is_same_key key came)
lookup_sums came key =
    let keys = map arrival_key came in
    lookup_by (sum_at came) key (firsts is_same_key [] keys)
    ∙ ap (λ b. if b then Some (sum_at came key) else None)
    (is_among-firsts is_same_key metric_key_exact key [] keys)
    ∙ some_or_none came key

-- a key that isn't among these differs from each
apart : (key : MetricKey) (keys : List MetricKey) → is_among is_same_key key keys ≡ false
    → AllByRecursion (λ other. is_same_key key other ≡ false) keys
apart key [] absent = tt
apart key (first ∷ keys) absent =
    let here : is_same_key first key ≡ false = grind arith in
    (same_either key first ∙ here, apart key keys (grind arith))

-- a new key's row goes last
insert_absent : (value : MetricKey → ℤ) (key : MetricKey) (sum : ℤ) (keys : List MetricKey)
    → AllByRecursion (λ other. is_same_key key other ≡ false) keys
    → insert_entry is_same_key (rows_by value keys) key sum ≡ rows_by value keys ++ (key, sum) ∷ []
insert_absent value key sum [] differ = refl
insert_absent value key sum (first ∷ keys) differ =
    ap (λ b. if b then (first, sum) ∷ rows_by value keys
    else (first, value first) ∷ insert_entry is_same_key (rows_by value keys) key sum) differ.0
    ∙ ap (λ l. (first, value first) ∷ l) (insert_absent value key sum keys differ.1)

module _ (before after : MetricKey → ℤ) (key : MetricKey)
    (stays : (other : MetricKey) → is_same_key key other ≡ false → after other ≡ before other) where
  -- the rows of other keys stay
  rows_stay : (keys : List MetricKey) → AllByRecursion (λ other. is_same_key key other ≡ false) keys
      → rows_by before keys ≡ rows_by after keys
  rows_stay [] differ = refl
  rows_stay (first ∷ keys) differ =
      ap (λ n. (first, n) ∷ rows_by before keys) (sym (stays first differ.0))
      ∙ ap (λ l. (first, after first) ∷ l) (rows_stay keys differ.1)

  -- a key's row is written anew where it stands
  insert_present : (sum : ℤ) → after key ≡ sum → (keys : List MetricKey) → IsDistinct is_same_key keys
      → is_among is_same_key key keys ≡ true
      → insert_entry is_same_key (rows_by before keys) key sum ≡ rows_by after keys
  unfolding IsDistinct
  insert_present sum own [] distinct among = absurd (cc)
  insert_present sum own (first ∷ keys) distinct among =
      by (is_same_key first key) refl (λ later. insert_present sum own keys distinct.1 later)
    where
      written : Bool → KeyedInts
      written b = if b then (first, sum) ∷ rows_by before keys
          else (first, before first) ∷ insert_entry is_same_key (rows_by before keys) key sum

      by : (b : Bool) → is_same_key first key ≡ b
          → (is_among is_same_key key keys ≡ true
          → insert_entry is_same_key (rows_by before keys) key sum ≡ rows_by after keys)
          → written (is_same_key key first) ≡ rows_by after (first ∷ keys)
      by true e others =
          let is : first ≡ key = (metric_key_exact first key).0 e in
          ap written (same_either key first ∙ e)
          ∙ ap (λ n. (first, n) ∷ rows_by before keys) (sym own ∙ ap after (sym is))
          ∙ ap (λ l. (first, after first) ∷ l)
          (rows_stay keys (subst (λ k. AllByRecursion (λ other. is_same_key k other ≡ false) keys) is distinct.0))
      by false e others =
          let later : is_among is_same_key key keys ≡ true = grind (arith, among, e) in
          ap written (same_either key first ∙ e)
          ∙ ap (λ n. (first, n) ∷ insert_entry is_same_key (rows_by before keys) key sum)
          (sym (stays first (same_either key first ∙ e)))
          ∙ ap (λ l. (first, after first) ∷ l) (others later)

-- the sums with one integer more
pub key_sums-push : (came : KeyedInts) (key : MetricKey) (integer : ℤ)
    → key_sums (came ++ (key, integer) ∷ []) ≡ with_sum (key_sums came) key integer
unfolding IsDistinct
key_sums-push came key integer =
    ap (λ all. rows_by after (firsts is_same_key [] all)) (keys_push came key integer)
    ∙ ap (rows_by after) (firsts-push is_same_key [] (map arrival_key came) key)
    ∙ by (is_among is_same_key key ks) refl
  where
    ks : List MetricKey
    ks = firsts is_same_key [] (map arrival_key came)

    before : MetricKey → ℤ
    before = sum_at came

    after : MetricKey → ℤ
    after = sum_at (came ++ (key, integer) ∷ [])

    sum : ℤ
    sum = joined_to Sum (lookup (is_same_key key) (key_sums came)) integer

    own : after key ≡ sum
    own =
        ap (aggregate_of Sum) (of_own is_same_key metric_key_exact came key integer)
        ∙ ap (λ total. unwrap_or total (pos 0)) (total-push Sum (of_key is_same_key key came) integer)
        ∙ ap (λ total. joined_to Sum total integer) (sym (lookup_sums came key))

    stays : (other : MetricKey) → is_same_key key other ≡ false → after other ≡ before other
    stays other differ = ap (aggregate_of Sum) (of_other is_same_key came key other integer differ)

    distinct : IsDistinct is_same_key ks
    distinct = firsts-distinct is_same_key [] (map arrival_key came) tt

    by : (b : Bool) → is_among is_same_key key ks ≡ b
        → rows_by after (if is_among is_same_key key ks then ks else ks ++ key ∷ [])
        ≡ insert_entry is_same_key (rows_by before ks) key sum
    by true e =
        ap (λ b. rows_by after (if b then ks else ks ++ key ∷ [])) e
        ∙ sym (insert_present before after key stays sum own ks distinct e)
    by false e =
        let differ = apart key ks e in
        ap (λ b. rows_by after (if b then ks else ks ++ key ∷ [])) e
        ∙ rows_by-push after ks key
        ∙ ap (λ n. rows_by after ks ++ (key, n) ∷ []) own
        ∙ ap (λ rows. rows ++ (key, sum) ∷ []) (sym (rows_stay before after key stays ks differ))
        ∙ sym (insert_absent before key sum ks differ)
