-- A part's table, filled with the rows that were saved of it, and the tables of a window.
use Rattle.std.proofs.Common.{◌≡◌, ◌≢◌, ℕ, ◌+◌, ◌<◌, ◌≤◌, List, [], ◌∷◌, ◌++◌, map, length, get_or, Contains, All, AllPairs, Ok, Err, ⊎_elim, refl, sym, ap, subst, ◌∙◌, append_assoc, arith}
use Rattle.std.specs.Map.{keys_of}
use Rattle.std.proofs.lemmas.List.{length_push, get_or_append_left, get_or-append-add}
use Rattle.std.proofs.lemmas.List.Elements.{All-nil, All-cons, All-head, All-tail}
use Rattle.atom_record.specs.declared.value.MetricKey.{MetricKey}
use Rattle.flat_form.specs.declared.flat_error.FlatError.{FlatError}
use Rattle.flat_form.specs.declared.flat_error.FlatError.TheVariants.{Bad, Memory}
use Rattle.dim_table.specs.declared.answer.Admit.{Admit}
use Rattle.dim_table.specs.declared.answer.Admit.TheVariants.{At, Full}
use Rattle.dim_table.specs.Table.{keys, IsThere, IsNew, Admits}
use Rattle.dim_table.proofs.KeyLemmas.{keys_of-push, Contains-from_place}
use Rattle.alert_watch.specs.Watches.{KeyCounts, IsPartTable}
use Rattle.alert_watch.specs.WatchItems.{KeyCount, window_rows, FitsPartTable, part_table, BuildsTable, BuildsTables}

-- no key stands twice among these
abbrev AreApart : List MetricKey → Type 0
AreApart = AllPairs (λ one other. one ≢ other)

-- without the last one they are still apart
apart_front : (ks : List MetricKey) (key : MetricKey) → AreApart (ks ++ key ∷ []) → AreApart ks
apart_front ks key apart i j d before within same =
    let earlier : i < length ks = omega (arith, before, within) in
    let low : get_or (ks ++ key ∷ []) i d ≡ get_or ks i d = get_or_append_left ks (key ∷ []) d i earlier in
    let high : get_or (ks ++ key ∷ []) j d ≡ get_or ks j d = get_or_append_left ks (key ∷ []) d j within in
    apart i j d before (omega (arith, within, length_push ks key)) (low ∙ same ∙ sym high)

-- and the last one isn't among the others
last_absent : (ks : List MetricKey) (key : MetricKey) → AreApart (ks ++ key ∷ []) → ¬ Contains ks key
last_absent ks key apart there =
    let one : get_or (ks ++ key ∷ []) there.0 key ≡ get_or ks there.0 key =
    get_or_append_left ks (key ∷ []) key there.0 there.1 in
    let other : get_or (ks ++ key ∷ []) (length ks + 0) key ≡ key = get_or-append-add ks (key ∷ []) 0 key in
    apart there.0 (length ks + 0) key (omega (arith, there.1)) (omega (arith, length_push ks key))
    (one ∙ there.2 ∙ sym other)

-- The table that took these rows, one after the other: it has as many only where it may have just these.
pub record IsFilled (bound : ℕ) (done : List KeyCount) (table : KeyCounts) : Type 0 where
  pub bound_is : table.bound ≡ bound
  pub few : length table.rows ≤ length done
  pub whole : length table.rows ≡ length done → (table.rows ≡ done) × (table.dropped ≡ 0)
  pub all : FitsPartTable bound done → length table.rows ≡ length done

-- a table by its parts
same_table : (table : KeyCounts) (bound : ℕ) (rows : List KeyCount) → table.rows ≡ rows → table.bound ≡ bound
    → table.dropped ≡ 0 → table ≡ part_table bound rows
same_table table bound rows rows_are bound_is none =
    ap (λ l. record table { rows = l }) rows_are ∙ ap (λ n. record table { rows = rows; bound = n }) bound_is
    ∙ ap (λ (n : ℕ). record (part_table bound rows) { dropped = n }) none

module _ (bound : ℕ) (done : List KeyCount) (table : KeyCounts) (is : IsFilled bound done table) (key : MetricKey)
    (number : ℕ) where
  -- the rows, and this one
  abbrev more : List KeyCount
  more = done ++ (key, number) ∷ []

  -- the keys of the rows that fit with this one
  keys_apart : FitsPartTable bound more → AreApart (keys_of done ++ key ∷ [])
  keys_apart fits = subst AreApart (keys_of-push done key number) fits.distinct

  -- those before it fit, too
  front_fits : FitsPartTable bound more → FitsPartTable bound done
  front_fits fits = record {
    within = omega (arith, fits.within, length_push done (key, number));
    distinct = apart_front (keys_of done) key (keys_apart fits);
  }

  -- a key that has a row
  filled_there : (place : ℕ) → IsThere table table key place → IsFilled bound more table
  filled_there place there = record {
    bound_is = is.bound_is;
    few = omega (arith, is.few, length_push done (key, number));
    whole = λ same. absurd (omega (arith, same, is.few, length_push done (key, number)));
    all = λ fits.
        let rows : table.rows ≡ done = (is.whole (is.all (front_fits fits))).0 in
        let again : Contains (keys_of done) key =
        subst (λ (l : List KeyCount). Contains (keys_of l) key) rows
        (Contains-from_place (keys table) place key there.at) in
        absurd (last_absent (keys_of done) key (keys_apart fits) again);
  }

  -- a key that gets one
  filled_new : IsFilled bound more (record table { rows = table.rows ++ (key, number) ∷ [] })
  filled_new =
      let old_size = length_push table.rows (key, number) in
      let new_size = length_push done (key, number) in
      record {
        bound_is = is.bound_is;
        few = omega (arith, is.few, old_size, new_size);
        whole = λ same.
            let before : length table.rows ≡ length done = omega (arith, same, old_size, new_size) in
            (ap (λ l. l ++ (key, number) ∷ []) (is.whole before).0, (is.whole before).1);
        all = λ fits.
            let before : length table.rows ≡ length done = is.all (front_fits fits) in
            omega (arith, before, old_size, new_size);
      }

  -- a key that finds no room
  filled_full : (dropped : ℕ) → length table.rows ≡ table.bound
      → IsFilled bound more (record table { dropped = dropped })
  filled_full dropped full =
      let new_size = length_push done (key, number) in
      record {
        bound_is = is.bound_is;
        few = omega (arith, is.few, new_size);
        whole = λ same. absurd (omega (arith, same, is.few, new_size));
        all = λ fits.
            let before : length table.rows ≡ length done = is.all (front_fits fits) in
            absurd (omega (arith, before, new_size, full, is.bound_is, fits.within));
      }

  -- one row more
  pub filled_more : (new : KeyCounts) (answer : Admit) → Admits table new key number answer → IsFilled bound more new
  filled_more new (At place) admits = ⊎_elim
      (λ (there : IsThere table new key place). subst (IsFilled bound more) (sym there.same)
      (filled_there place (record { at = there.at; same = refl })))
      (λ (added : IsNew table new key number place). subst (IsFilled bound more) (sym added.added) filled_new)
      admits
  filled_more new Full away = subst (IsFilled bound more) (sym away.added) (filled_full _ away.full)

-- a table that has as many rows as it took
pub table_built : (bound : ℕ) (rows : List KeyCount) (table : KeyCounts) → IsFilled bound rows table
    → length table.rows ≡ length rows → length table.rows ≤ table.bound → AreApart (keys table)
    → BuildsTable bound rows (Ok table)
table_built bound rows table is same within apart =
    let whole = is.whole same in (
      same_table table bound rows whole.0 is.bound_is whole.1,
      record {
        within = omega (arith, same, within, is.bound_is);
        distinct = subst (λ (l : List KeyCount). AreApart (keys_of l)) whole.0 apart;
      },
    )

-- The tables that were built so far, and the parts that are left, are all parts.
pub record AreMade (bound : ℕ) (parts : List (List KeyCount)) (tables : List KeyCounts) (left : List (List KeyCount))
    : Type 0 where
  pub made : tables ++ map (part_table bound) left ≡ map (part_table bound) parts
  pub fit : All (FitsPartTable bound) left → All (FitsPartTable bound) parts
  pub judged : All (FitsPartTable bound) parts → All (FitsPartTable bound) left

module _ (bound : ℕ) (parts : List (List KeyCount)) (tables : List KeyCounts) (rows : List KeyCount)
    (left : List (List KeyCount)) (are : AreMade bound parts tables (rows ∷ left)) where
  -- one more
  pub made_more : (table : KeyCounts) → BuildsTable bound rows (Ok table)
      → AreMade bound parts (tables ++ table ∷ []) left
  made_more table built = record {
    made = append_assoc tables (table ∷ []) (map (part_table bound) left)
        ∙ ap (λ one. tables ++ (one ∷ map (part_table bound) left)) built.0 ∙ are.made;
    fit = λ all. are.fit (All-cons (FitsPartTable bound) rows left built.1 all);
    judged = λ all. All-tail (FitsPartTable bound) rows left (are.judged all);
  }

  -- the rows are those of no table
  pub made_fails : (e : FlatError) → BuildsTable bound rows (Err e) → BuildsTables bound parts (Err e)
  made_fails Bad never = λ all. never (All-head (FitsPartTable bound) rows left (are.judged all))
  made_fails Memory none = tt

-- tables by their rows
pub tables_back : (bound : ℕ) (tables : List KeyCounts) → All (IsPartTable bound) tables
    → tables ≡ map (part_table bound) (window_rows tables)
tables_back bound [] are = refl
tables_back bound (table ∷ tables) are =
    let is = All-head (IsPartTable bound) table tables are in
    ap (λ one. one ∷ tables) (same_table table bound table.rows refl is.has_bound is.no_drops)
    ∙ ap (λ l. part_table bound table.rows ∷ l)
    (tables_back bound tables (All-tail (IsPartTable bound) table tables are))

-- rows by their tables
pub rows_back : (bound : ℕ) (parts : List (List KeyCount)) → window_rows (map (part_table bound) parts) ≡ parts
rows_back bound [] = refl
rows_back bound (rows ∷ parts) = ap (λ l. rows ∷ l) (rows_back bound parts)

-- each such table is that of a part
pub tables_all : (bound : ℕ) (parts : List (List KeyCount)) → All (IsPartTable bound) (map (part_table bound) parts)
tables_all bound [] = All-nil (IsPartTable bound)
tables_all bound (rows ∷ parts) =
    All-cons (IsPartTable bound) (part_table bound rows) (map (part_table bound) parts)
    (record { has_bound = refl; no_drops = refl }) (tables_all bound parts)
