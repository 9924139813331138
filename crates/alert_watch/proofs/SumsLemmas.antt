-- The sum of a key's numbers in the tables of a window is the sum of the window.
use Rattle.std.proofs.Common.{◌≡◌, ℕ, ◌+◌, ◌<◌, ◌≤◌, Bool, true, false, cond, ◌||◌, if◌then◌else◌, unwrap_or, List, [], ◌∷◌, length, take, get_or, All, Some, refl, sym, ap, ◌∙◌, arith, ⊎_elim}
use Rattle.std.specs.List.{sum_by}
use Rattle.std.specs.Map.{lookup}
use Rattle.std.proofs.lemmas.Bool.{cases_Bool}
use Rattle.std.proofs.lemmas.List.Elements.{All-head, All-tail}
use Rattle.std.proofs.lemmas.List.{take_more, take_all}
use Rattle.std.proofs.lemmas.List.Sums.{sum_by-cons, sum_by_push}
use Rattle.atom_record.specs.declared.value.MetricKey.{MetricKey}
use Rattle.atom_record.specs.Equal.{metric_key_exact}
use Rattle.bucket_meaning.specs.Guard.{is_among, of_key}
use Rattle.bucket_meaning.specs.Kept.{count_in_u64}
use Rattle.dim_table.proofs.RowLemmas.{rows_by}
use Rattle.metric_kinds.specs.Keys.{is_same_key}
use Rattle.metric_producer.proofs.KeysLemmas.{other_way}
use Rattle.alert_watch.specs.Windows.{Arrival, admitted_of}
use Rattle.alert_watch.specs.Watches.{KeyCounts, IsPartTable, number_in_part, CountsPart, CountParts}
use Rattle.alert_watch.specs.WindowParts.{number_in_table, table_sum}
use Rattle.alert_watch.proofs.CountedLemmas.{admitted_keys}

-- the number of a key in rows by key
number_by : (value_of : MetricKey → ℕ) (ks : List MetricKey) (key : MetricKey)
    → unwrap_or (lookup (is_same_key key) (rows_by value_of ks)) 0
    ≡ (if is_among is_same_key key ks then value_of key else 0)
number_by value_of [] key = refl
number_by value_of (first ∷ ks) key = ⊎_elim
    (λ (here : is_same_key key first ≡ true).
    let is : key ≡ first = (metric_key_exact key first).0 here in
    let back : is_same_key first key ≡ true = (metric_key_exact first key).1 (sym is) in
    ap (λ b. unwrap_or (cond b (Some (value_of first)) (lookup (is_same_key key) (rows_by value_of ks))) 0) here
    ∙ ap value_of (sym is)
    ∙ sym (ap (λ b. if b || is_among is_same_key key ks then value_of key else 0) back))
    (λ (other : is_same_key key first ≡ false).
    let back : is_same_key first key ≡ false = other_way is_same_key metric_key_exact key first other in
    ap (λ b. unwrap_or (cond b (Some (value_of first)) (lookup (is_same_key key) (rows_by value_of ks))) 0) other
    ∙ number_by value_of ks key
    ∙ sym (ap (λ b. if b || is_among is_same_key key ks then value_of key else 0) back))
    (cases_Bool (is_same_key key first))

either_count : (b : Bool) (n : ℕ) → (if b then count_in_u64 n else 0) ≡ count_in_u64 (if b then n else 0)
either_count true n = refl
either_count false n = omega arith

-- the number of a key in a part's table
number_counted : (table : KeyCounts) (part : List Arrival) (key : MetricKey) (bound : ℕ) → table.bound ≡ bound
    → CountsPart table part → number_in_table key table ≡ count_in_u64 (admitted_of bound key part)
number_counted table part key bound same is =
    ap (λ rows. unwrap_or (lookup (is_same_key key) rows) 0) is
    ∙ number_by (number_in_part part) (admitted_keys table.bound part) key
    ∙ ap (λ b. if is_among is_same_key key (admitted_keys b part) then number_in_part part key else 0) same
    ∙ either_count (is_among is_same_key key (admitted_keys bound part)) (length (of_key is_same_key key part))

-- the number in a table without rows
number_empty : (table : KeyCounts) (key : MetricKey) → table.rows ≡ [] → number_in_table key table ≡ 0
number_empty table key none = ap (λ rows. unwrap_or (lookup (is_same_key key) rows) 0) none

adds : (a b more : ℕ) → a ≡ count_in_u64 b → (rest others : ℕ) → count_in_u64 rest ≡ count_in_u64 others
    → count_in_u64 (a + rest) ≡ count_in_u64 (b + others)
adds a b more is rest others same = omega (arith, is, same)

adds_none : (a : ℕ) → a ≡ 0 → (rest : ℕ) → count_in_u64 rest ≡ count_in_u64 0 → count_in_u64 (a + rest) ≡ count_in_u64 0
adds_none a is rest same = omega (arith, is, same)

module _ (key : MetricKey) (bound : ℕ) where
  -- past the last part all tables are empty
  sum_none : (tables : List KeyCounts) → CountParts tables [] → table_sum key tables ≡ count_in_u64 0
  sum_none [] are = refl
  sum_none (table ∷ tables) are =
      ap count_in_u64 (sum_by-cons (number_in_table key) table tables)
      ∙ adds_none (number_in_table key table) (number_empty table key are.0) (sum_by (number_in_table key) tables)
      (sum_none tables are.1)

  -- the sum of the tables
  pub sum_counted : (tables : List KeyCounts) (parts : List (List Arrival)) → CountParts tables parts
      → All (IsPartTable bound) tables
      → table_sum key tables ≡ count_in_u64 (sum_by (admitted_of bound key) (take (length tables) parts))
  sum_counted [] parts are bounds = refl
  sum_counted (table ∷ tables) [] are bounds =
      sum_none (table ∷ tables) are
  sum_counted (table ∷ tables) (part ∷ parts) are bounds =
      let bound_is = (All-head (IsPartTable bound) table tables bounds).has_bound in
      let here = number_counted table part key bound bound_is are.0 in
      let rest = sum_counted tables parts are.1 (All-tail (IsPartTable bound) table tables bounds) in
      ap count_in_u64 (sum_by-cons (number_in_table key) table tables)
      ∙ adds (number_in_table key table) (admitted_of bound key part) 0 here (sum_by (number_in_table key) tables)
      (sum_by (admitted_of bound key) (take (length tables) parts)) rest
      ∙ ap count_in_u64 (sym (sum_by-cons (admitted_of bound key) part (take (length tables) parts)))

-- no table yet
pub sum_zero : (key : MetricKey) (tables : List KeyCounts) → 0 ≡ table_sum key (take 0 tables)
sum_zero key tables = refl

-- one table more
pub sum_more : (key : MetricKey) (tables : List KeyCounts) (n : ℕ) (table : KeyCounts) (sum more : ℕ)
    → n < length tables
    → table ≡ get_or tables n table → sum ≡ table_sum key (take n tables)
    → more ≡ count_in_u64 (sum + number_in_table key table) → more ≡ table_sum key (take (n + 1) tables)
sum_more key tables n table sum more within at before is =
    let front = take n tables in
    let all : sum_by (number_in_table key) (take (n + 1) tables)
    ≡ sum_by (number_in_table key) front + number_in_table key table =
    ap (sum_by (number_in_table key)) (take_more tables n table within)
    ∙ sum_by_push (number_in_table key) front (get_or tables n table)
    ∙ ap (λ t. sum_by (number_in_table key) front + number_in_table key t) (sym at) in
    is ∙ ap (λ s. count_in_u64 (s + number_in_table key table)) before
    ∙ twice (sum_by (number_in_table key) front) (number_in_table key table) ∙ ap count_in_u64 (sym all)
  where
    twice : (a b : ℕ) → count_in_u64 (count_in_u64 a + b) ≡ count_in_u64 (a + b)
    twice a b = omega arith

-- all tables
pub sum_all : (key : MetricKey) (tables : List KeyCounts) (n sum : ℕ) → length tables ≤ n
    → sum ≡ table_sum key (take n tables) → sum ≡ table_sum key tables
sum_all key tables n sum past is = is ∙ ap (table_sum key) (take_all n tables past)
