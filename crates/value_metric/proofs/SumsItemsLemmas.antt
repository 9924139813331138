-- For the flat form of sums: rows by key that are added one by one, and sums that are built from them.
use Rattle.std.proofs.Common.{◌≡◌, ◌≢◌, ℕ, ℤ, zero, suc, ◌+◌, ◌<◌, Bool, true, false, List, [], ◌∷◌, ◌++◌, length, take, drop, All, AllPairs, Contains, Option, Some, None, Err, not, get_or, is_some, position, refl, sym, ap, subst, ◌∙◌, arith}
use Rattle.std.specs.Map.{keys_of, lookup}
use Rattle.std.proofs.lemmas.Bool.{true≢false, false≢true}
use Rattle.std.proofs.lemmas.List.{length-append, get_or_append_left, get_or-append-add}
use Rattle.std.proofs.lemmas.List.Elements.{Contains-get_or}
use Rattle.std.proofs.lemmas.List.Quantifiers.{all_pairs_push}
use Rattle.indexmap.specs.IndexMap.{IndexMap, get, insert_entry}
use Rattle.indexmap.proofs.MapLemmas.{some_index}
use Rattle.atom_record.specs.Equal.{metric_key_exact}
use Rattle.atom_record.specs.declared.value.MetricKey.{MetricKey}
use Rattle.flat_form.specs.declared.item.Item.{Item}
use Rattle.flat_form.specs.declared.flat_error.FlatError.{FlatError}
use Rattle.flat_form.specs.declared.flat_error.FlatError.TheVariants.{Bad}
use Rattle.flat_form.specs.Flat.{IsBuilt, Builds, list_items}
use Rattle.flat_form.proofs.FlatLaws as laws
use Rattle.dim_table.proofs.KeyLemmas.{keys_of-push, Contains-from_place, found, missing, inserted}
use Rattle.metric_kinds.specs.Diffs.{KeyedInts}
use Rattle.metric_kinds.specs.Keys.{is_same_key}
use Rattle.value_metric.specs.SumsItems.{sum_items, sums_items, IsSum, HaveOwnKeys, AreSums, AddsOwnRow, IsSumsOf}

-- a key has a place where something is found at it
place_like : (rows : KeyedInts) (key : MetricKey) (place : Option ℕ) (before : Option ℤ)
    → position (is_same_key key) (keys_of rows) ≡ place → before ≡ lookup (is_same_key key) rows
    → is_some place ≡ is_some before
place_like rows key place before at is =
    sym (ap is_some at) ∙ some_index (is_same_key key) rows ∙ sym (ap is_some is)

-- a row is added after the others, or its key had one already: as the map tells
pub adds_own_row : {S : Type 0} (map : IndexMap MetricKey ℤ S) (after : KeyedInts) (key : MetricKey) (sum : ℤ)
    (before : Option ℤ) (added : Bool) → before ≡ get is_same_key map key
    → after ≡ insert_entry is_same_key map.entries key sum → is_some before ≡ not added
    → AddsOwnRow map.entries after key sum added
adds_own_row map after key sum before added was is told =
    by (position (is_same_key key) (keys_of map.entries)) added refl
    (place_like map.entries key (position (is_same_key key) (keys_of map.entries)) before refl was ∙ told)
  where
    by : (place : Option ℕ) (added : Bool) → position (is_same_key key) (keys_of map.entries) ≡ place
        → is_some place ≡ not added → AddsOwnRow map.entries after key sum added
    by None true at told = (
      missing is_same_key metric_key_exact (keys_of map.entries) key at,
      inserted is_same_key metric_key_exact map after key sum at is,
    )
    by None false at told = absurd (false≢true told)
    by (Some place) true at told = absurd (true≢false told)
    by (Some place) false at told =
        Contains-from_place (keys_of map.entries) place key
        (found is_same_key metric_key_exact (keys_of map.entries) key place at)

-- the keys of two parts
keys_of-append : (x y : KeyedInts) → keys_of (x ++ y) ≡ keys_of x ++ keys_of y
keys_of-append [] y = refl
keys_of-append (row ∷ x) y = ap (λ ks. row.0 ∷ ks) (keys_of-append x y)

-- a key that stands before itself makes the list one with a key twice
twice : (front back : List MetricKey) (key : MetricKey)
    → AllPairs (λ one other. one ≢ other) (front ++ (key ∷ back)) → ¬ Contains front key
twice front back key own there =
    let size : length (front ++ (key ∷ back)) ≡ length front + suc (length back) = length-append front (key ∷ back) in
    let one : get_or (front ++ (key ∷ back)) there.0 key ≡ get_or front there.0 key =
    get_or_append_left front (key ∷ back) key there.0 there.1 in
    let other : get_or (front ++ (key ∷ back)) (length front + 0) key ≡ key =
    get_or-append-add front (key ∷ back) 0 key in
    own there.0 (length front + 0) key (omega (arith, there.1)) (omega (arith, size)) (one ∙ there.2 ∙ sym other)

-- no rows have keys of their own
pub own_none : HaveOwnKeys []
own_none i j d before within = absurd (omega (arith, within))

-- one more row with a key of its own
pub own_more : (rows : KeyedInts) (key : MetricKey) (sum : ℤ) → HaveOwnKeys rows → ¬ Contains (keys_of rows) key
    → HaveOwnKeys (rows ++ (key, sum) ∷ [])
own_more rows key sum own absent =
    subst (AllPairs (λ one other. one ≢ other)) (sym (keys_of-push rows key sum))
    (all_pairs_push (λ one other. one ≢ other) (keys_of rows) key own
    (λ k d less same. absent (subst (Contains (keys_of rows)) same (Contains-get_or (keys_of rows) k d less))))

-- rows one of whose keys stands before itself don't have keys of their own
pub own_never : (rows front back : KeyedInts) (key : MetricKey) (sum : ℤ) → rows ≡ front ++ ((key, sum) ∷ back)
    → Contains (keys_of front) key → ¬ HaveOwnKeys rows
own_never rows front back key sum parts there own =
    let those : keys_of rows ≡ keys_of front ++ (key ∷ keys_of back) =
    ap keys_of parts ∙ keys_of-append front ((key, sum) ∷ back) in
    twice (keys_of front) (keys_of back) key (subst (AllPairs (λ one other. one ≢ other)) those own) there

-- a list with what stands at a place of it
around : {X : Type 0} (xs : List X) (n : ℕ) (x : X) → n < length xs → x ≡ get_or xs n x
    → xs ≡ take n xs ++ (x ∷ drop (suc n) xs)
around [] n x less at = absurd (omega (arith, less))
around (y ∷ xs) zero x less at = ap (λ z. z ∷ xs) (sym at)
around (y ∷ xs) (suc n) x less at = ap (λ l. y ∷ l) (around xs n x (omega (arith, less)) at)

-- a row whose key stands before it makes the rows ones with a key twice
pub own_twice : (rows done : KeyedInts) (row : MetricKey × ℤ) → done ≡ take (length done) rows
    → length done < length rows → row ≡ get_or rows (length done) row → Contains (keys_of done) row.0
    → ¬ HaveOwnKeys rows
own_twice rows done row so_far less at there =
    own_never rows done (drop (suc (length done)) rows) row.0 row.1
    (around rows (length done) row less at
    ∙ ap (λ front. front ++ (row ∷ drop (suc (length done)) rows)) (sym so_far)) there

module _ (items : List Item) (place : ℕ) where
  -- no rows stand there, so no sums do
  pub sums_fails : (e : FlatError) → Builds (All IsSum) (list_items sum_items) items place (Err e)
      → Builds AreSums sums_items items place (Err e)
  sums_fails e fails = laws.form_fails (All IsSum) (list_items sum_items) AreSums sums_items (λ sums. sums)
      (λ sums. refl) (λ sums is. is.are_long) items place e fails

  module _ (rows : KeyedInts) (next : ℕ) (one : IsBuilt (All IsSum) (list_items sum_items) items place rows next) where
    -- a key comes twice in the rows that stand there
    pub sums_twice : IsSumsOf rows None → Builds AreSums sums_items items place (Err Bad)
    sums_twice never other ok there = never (subst HaveOwnKeys (one.only other ok.are_long there) ok.own_keys)

    -- the rows that stand there are the sums
    pub sums_built : (sums : KeyedInts) → IsSumsOf rows (Some sums) → IsBuilt AreSums sums_items items place sums next
    sums_built sums is =
        laws.form_built (All IsSum) (list_items sum_items) AreSums sums_items (λ sums. sums) (λ s. refl)
        (λ s ok. ok.are_long) items place rows next one sums
        (record {
          own_keys = subst HaveOwnKeys (sym is.0) is.1;
          are_long = subst (All IsSum) (sym is.0) one.is_valid;
        })
        is.0 (λ other ok has. has ∙ sym is.0)
