-- A table of inner keys through an event: its counts are those of a predicate's table, and what was told stays.
use Rattle.std.proofs.Common.{◌≡◌, ℕ, zero, suc, Bool, true, false, not, cond, nat_lt, if◌then◌else◌, List, [], ◌∷◌, ◌++◌, map, filter, length, slice_get, Contains, Option, Some, None, ◌+◌, refl, sym, ap, subst, ◌∙◌, arith, ⊎_elim}
use Rattle.std.specs.List.{flat_map, IsDistinct}
use Rattle.std.specs.Map.{keys_of, values_of, lookup}
use Rattle.std.proofs.lemmas.Bool.{cases_Bool, lt-ltb, le-ltb}
use Rattle.std.proofs.lemmas.List.{map-append, length-map}
use Rattle.std.proofs.lemmas.Option.{same_Some}
use Rattle.atom_record.specs.declared.value.MetricKey.{MetricKey}
use Rattle.bucket_meaning.specs.Kept.{count_in_u64}
use Rattle.dim_table.specs.declared.answer.Admit.{Admit}
use Rattle.dim_table.specs.declared.answer.Admit.TheVariants.{At, Full}
use Rattle.dim_table.specs.Table.{Table, keys, set_value_at, with_value_at, without, IsThere, IsNew, Admits}
use Rattle.dim_table.proofs.KeyLemmas.{Contains-from_place}
use Rattle.predicate_state.specs.PredicateStates.{PredicateState, without_key, state_after_stop_all}
use Rattle.predicate_state.specs.PredicateTable.{LeafKey, same_leaves}
use Rattle.duration_metric.specs.declared.inner.Known.{Known}
use Rattle.duration_metric.specs.declared.inner.Inner.{Inner}
use Rattle.duration_metric.specs.declared.inner.InnerTable.{InnerTable}
use Rattle.duration_metric.specs.InnerStands.{row_count, state_in, AreKnown, ChangesTo, SetsCount, ListsKey}
use Rattle.duration_metric.specs.Tallies.{how_often, row_tallied, left_key, counted_in, AreSteady}
use Rattle.duration_metric.proofs.TallyLemmas.{set_steady, other_counts, lists_counts, lists_steady, takes_counts, filter_steady, clears_counts, none_steady}

-- the keys with their counts are the keys
pub keys_of-counts : (rows : List (LeafKey × Inner)) → keys_of (map row_count rows) ≡ keys_of rows
keys_of-counts [] = refl
keys_of-counts (row ∷ rows) = ap (λ ks. row.0 ∷ ks) (keys_of-counts rows)

-- a write to a row is one to its count
pub counts-set : (rows : List (LeafKey × Inner)) (place : ℕ) (inner : Inner)
    → map row_count (set_value_at rows place inner) ≡ set_value_at (map row_count rows) place inner.count
counts-set [] place inner = refl
counts-set (row ∷ rows) zero inner = refl
counts-set (row ∷ rows) (suc place) inner = ap (λ l. row_count row ∷ l) (counts-set rows place inner)

-- and one that leaves the count leaves all counts
pub counts-same : (rows : List (LeafKey × Inner)) (place : ℕ) (was inner : Inner)
    → slice_get (values_of rows) place ≡ Some was → inner.count ≡ was.count
    → map row_count (set_value_at rows place inner) ≡ map row_count rows
counts-same [] place was inner at same = refl
counts-same (row ∷ rows) zero was inner at same =
    let is : row.1 ≡ was = same_Some row.1 was at in
    ap (λ (n : ℕ). (row.0, n) ∷ map row_count rows) (same ∙ ap (λ (i : Inner). i.count) (sym is))
counts-same (row ∷ rows) (suc place) was inner at same =
    ap (λ l. row_count row ∷ l) (counts-same rows place was inner at same)

-- the rows of other keys have the counts of other keys
pub counts-filter : (key : LeafKey) (rows : List (LeafKey × Inner))
    → map row_count (filter (λ row. not (same_leaves key row.0)) rows)
    ≡ filter (λ entry. not (same_leaves key entry.0)) (map row_count rows)
counts-filter key [] = refl
counts-filter key (row ∷ rows) = ⊎_elim
    (λ (here : same_leaves key row.0 ≡ true).
    ap (λ b. map row_count (cond (not b) (row ∷ filter (λ row. not (same_leaves key row.0)) rows)
    (filter (λ row. not (same_leaves key row.0)) rows))) here
    ∙ counts-filter key rows
    ∙ sym (ap (λ b. cond (not b) (row_count row ∷ filter (λ entry. not (same_leaves key entry.0)) (map row_count rows))
    (filter (λ entry. not (same_leaves key entry.0)) (map row_count rows))) here))
    (λ (other : same_leaves key row.0 ≡ false).
    ap (λ b. map row_count (cond (not b) (row ∷ filter (λ row. not (same_leaves key row.0)) rows)
    (filter (λ row. not (same_leaves key row.0)) rows))) other
    ∙ ap (λ l. row_count row ∷ l) (counts-filter key rows)
    ∙ sym (ap (λ b. cond (not b) (row_count row ∷ filter (λ entry. not (same_leaves key entry.0)) (map row_count rows))
    (filter (λ entry. not (same_leaves key entry.0)) (map row_count rows))) other))
    (cases_Bool (same_leaves key row.0))

module _ (known : LeafKey → Option Known) where
  -- a write that leaves what was told
  pub known-set : (rows : List (LeafKey × Inner)) (place : ℕ) (was inner : Inner)
      → slice_get (values_of rows) place ≡ Some was → inner.known ≡ was.known → AreKnown known rows
      → AreKnown known (set_value_at rows place inner)
  known-set [] place was inner at same all = tt
  known-set (row ∷ rows) zero was inner at same all =
      (same ∙ ap (λ (i : Inner). i.known) (sym (same_Some row.1 was at)) ∙ all.0, all.1)
  known-set (row ∷ rows) (suc place) was inner at same all = (all.0, known-set rows place was inner at same all.1)

  -- the rows that are left
  known-filter : (test : LeafKey × Inner → Bool) (rows : List (LeafKey × Inner)) → AreKnown known rows
      → AreKnown known (filter test rows)
  known-filter test [] all = tt
  known-filter test (row ∷ rows) all = ⊎_elim
      (λ (stays : test row ≡ true).
      subst (λ b. AreKnown known (cond b (row ∷ filter test rows) (filter test rows))) (sym stays)
      (all.0, known-filter test rows all.1))
      (λ (goes : test row ≡ false).
      subst (λ b. AreKnown known (cond b (row ∷ filter test rows) (filter test rows))) (sym goes)
      (known-filter test rows all.1))
      (cases_Bool (test row))

  -- a row more
  known-push : (rows : List (LeafKey × Inner)) (row : LeafKey × Inner) → AreKnown known rows
      → row.1.known ≡ known row.0 → AreKnown known (rows ++ row ∷ [])
  known-push [] row all one = (one, tt)
  known-push (first ∷ rows) row all one = (all.0, known-push rows row all.1 one)

-- a table by its parts
pub parts_are : (it : InnerTable) (one other : Table LeafKey Inner) (touched places : List ℕ)
    (gone left : List MetricKey) → one ≡ other → touched ≡ places → gone ≡ left
    → record it { keys = one; touched = touched; gone = gone }
    ≡ record it { keys = other; touched = places; gone = left }
parts_are it one other touched places gone left keys_are touched_are gone_are =
    λ i. record it { keys = keys_are i; touched = touched_are i; gone = gone_are i }

-- a table that stays as it was, by another word for what it knows
pub stays_as : (it : InnerTable) (state : PredicateState LeafKey) → state_in it ≡ state → ChangesTo it it state
stays_as it state is = record {
  nesting_is = refl;
  bound_is = refl;
  state_is = is;
  known_are = λ known none all. all;
  counts_are = λ key. refl;
  steady_is = λ settled steady. steady;
}

-- a key has another count
pub sets_count : (old new : InnerTable) (place count : ℕ) (was : Inner)
    → slice_get (values_of old.keys.rows) place ≡ Some was
    → new ≡ record old {
      keys = with_value_at old.keys place (record was { count = count });
      touched = old.touched ++ place ∷ [];
    }
    → SetsCount old new place count
sets_count old new place count was at is =
    let now : Inner = record was { count = count } in
    record {
      nesting_is = ap (λ (t : InnerTable). t.nesting) is;
      bound_is = ap (λ (t : InnerTable). t.keys.bound) is;
      state_is = ap state_in is
          ∙ ap (λ counts. record (state_in old) { counts = counts }) (counts-set old.keys.rows place now);
      known_are = λ known absent all.
          subst (λ (t : InnerTable). AreKnown known t.keys.rows) (sym is)
          (known-set known old.keys.rows place was now at refl all);
      counts_are = λ key.
          let same = ap (λ (t : InnerTable). counted_in t key) is in
          omega (arith, same, other_counts old place count was at key);
      steady_is = λ settled steady. subst (λ (t : InnerTable). AreSteady t.touched t.keys.rows) (sym is)
          (set_steady old.keys.rows old.touched place now steady);
    }

-- a key is taken out, and what the tally counted for it is put down
pub takes_out : (exact : (x y : LeafKey) → same_leaves x y ≡ true → x ≡ y) (old new : InnerTable) (key : LeafKey)
    → IsDistinct same_leaves (keys_of old.keys.rows)
    → new ≡ record old {
      keys = without same_leaves old.keys key;
      gone = old.gone ++ left_key (lookup (same_leaves key) old.keys.rows);
    }
    → ChangesTo old new (without_key same_leaves (state_in old) key)
takes_out exact old new key distinct is = record {
  nesting_is = ap (λ (t : InnerTable). t.nesting) is;
  bound_is = ap (λ (t : InnerTable). t.keys.bound) is;
  state_is = ap state_in is
      ∙ ap (λ counts. record (state_in old) { counts = counts }) (counts-filter key old.keys.rows);
  known_are = λ known absent all.
      subst (λ (t : InnerTable). AreKnown known t.keys.rows) (sym is)
      (known-filter known (λ row. not (same_leaves key row.0)) old.keys.rows all);
  counts_are = λ out. ap (λ (t : InnerTable). counted_in t out) is ∙ takes_counts exact old key distinct out;
  steady_is = λ settled steady. subst (λ (t : InnerTable). AreSteady t.touched t.keys.rows) (sym is)
      (filter_steady (λ row. not (same_leaves key row.0)) old.keys.rows old.touched settled.none_touched steady);
}

-- all keys are, and none is unknown any more
pub takes_all : (old new : InnerTable)
    → new ≡ record old {
      unknown = false;
      keys = record old.keys { rows = [] };
      gone = old.gone ++ flat_map row_tallied old.keys.rows;
    }
    → ChangesTo old new (state_after_stop_all (state_in old))
takes_all old new is = record {
  nesting_is = ap (λ (t : InnerTable). t.nesting) is;
  bound_is = ap (λ (t : InnerTable). t.keys.bound) is;
  state_is = ap state_in is;
  known_are = λ known absent all. subst (λ (t : InnerTable). AreKnown known t.keys.rows) (sym is) tt;
  counts_are = λ out. ap (λ (t : InnerTable). counted_in t out) is ∙ clears_counts old out;
  steady_is = λ settled steady. subst (λ (t : InnerTable). AreSteady t.touched t.keys.rows) (sym is)
      (none_steady old.touched);
}

-- a new key is listed, of which nothing was told, or it is counted
pub lists_key : (old new : InnerTable) (table : Table LeafKey Inner) (key : LeafKey) (count : ℕ) (answer : Admit)
    → ¬ Contains (keys old.keys) key
    → Admits old.keys table key (record { count = count; known = None; tallied = false }) answer
    → new ≡ record old { keys = table } → ListsKey old new key count
lists_key old new table key count (At place) absent admits is = ⊎_elim
    (λ (there : IsThere old.keys table key place).
    absurd (absent (Contains-from_place (keys old.keys) place key there.at)))
    (λ (added : IsNew old.keys table key (record { count = count; known = None; tallied = false }) place).
    let row : LeafKey × Inner = (key, record { count = count; known = None; tallied = false }) in
    let now : InnerTable = record old { keys = record old.keys { rows = old.keys.rows ++ row ∷ [] } } in
    let new_is : new ≡ now = is ∙ ap (λ (t : Table LeafKey Inner). record old { keys = t }) added.added in
    let room : nat_lt (length (state_in old).counts) old.keys.bound ≡ true =
    lt-ltb (length (state_in old).counts) old.keys.bound
    (omega (arith, added.room, length-map old.keys.rows row_count)) in
    record {
      nesting_is = ap (λ (t : InnerTable). t.nesting) new_is;
      bound_is = ap (λ (t : InnerTable). t.keys.bound) new_is;
      state_is = ap state_in new_is
          ∙ ap (λ counts. record (state_in old) { counts = counts }) (map-append row_count old.keys.rows (row ∷ []))
          ∙ sym (ap (λ b. if b then record (state_in old) { counts = (state_in old).counts ++ (key, count) ∷ [] }
          else record (state_in old) { dropped = count_in_u64 (old.keys.dropped + 1) }) room);
      known_are = λ known none all.
          subst (λ (t : InnerTable). AreKnown known t.keys.rows) (sym new_is)
          (known-push known old.keys.rows row all (sym (none key absent)));
      counts_are = λ out. ap (λ (t : InnerTable). counted_in t out) new_is
          ∙ ap (λ l. how_often out l + how_often out old.gone) (lists_counts old.keys.rows key count);
      steady_is = λ settled steady. subst (λ (t : InnerTable). AreSteady t.touched t.keys.rows) (sym new_is)
          (lists_steady old.keys.rows old.touched key count steady);
    })
    admits
lists_key old new table key count Full absent away is =
    let now : InnerTable = record old { keys = record old.keys { dropped = count_in_u64 (old.keys.dropped + 1) } } in
    let new_is : new ≡ now = is ∙ ap (λ (t : Table LeafKey Inner). record old { keys = t }) away.added in
    let full : nat_lt (length (state_in old).counts) old.keys.bound ≡ false =
    le-ltb (length (state_in old).counts) old.keys.bound
    (omega (arith, away.full, length-map old.keys.rows row_count)) in
    record {
      nesting_is = ap (λ (t : InnerTable). t.nesting) new_is;
      bound_is = ap (λ (t : InnerTable). t.keys.bound) new_is;
      state_is = ap state_in new_is
          ∙ sym (ap (λ b. if b then record (state_in old) { counts = (state_in old).counts ++ (key, count) ∷ [] }
          else record (state_in old) { dropped = count_in_u64 (old.keys.dropped + 1) }) full);
      known_are = λ known none all. subst (λ (t : InnerTable). AreKnown known t.keys.rows) (sym new_is) all;
      counts_are = λ out. ap (λ (t : InnerTable). counted_in t out) new_is;
      steady_is = λ settled steady. subst (λ (t : InnerTable). AreSteady t.touched t.keys.rows) (sym new_is) steady;
    }

-- a state by another word for it
pub changes_by : (old new : InnerTable) (one other : PredicateState LeafKey) → one ≡ other → ChangesTo old new one
    → ChangesTo old new other
changes_by old new one other is changes = subst (ChangesTo old new) is changes
