-- What a tally counts, as inner keys are touched and leave.
use Rattle.std.proofs.Common.{◌≡◌, ◌⊎◌, inl, inr, ℕ, zero, suc, ◌+◌, ◌==◌, Bool, true, false, not, ◌||◌, cond, nat_lt, if◌then◌else◌, List, [], ◌∷◌, ◌++◌, filter, slice_get, Some, None, refl, sym, ap, subst, ◌∙◌, arith, ⊎_elim, append-nil, append_assoc}
use Rattle.std.specs.List.{flat_map, list_any, IsDistinct, AllByRecursion}
use Rattle.std.specs.Map.{keys_of, values_of, lookup}
use Rattle.std.proofs.lemmas.Bool.{cases_Bool, false≢true}
use Rattle.std.proofs.lemmas.List.Folds.{list_any-append}
use Rattle.std.proofs.lemmas.Map.Keys.{IsDistinct-head, IsDistinct-tail}
use Rattle.std.proofs.lemmas.Option.{none-some, same_Some}
use Rattle.atom_record.specs.declared.value.MetricKey.{MetricKey}
use Rattle.dim_table.specs.Table.{set_value_at}
use Rattle.metric_kinds.specs.Keys.{is_same_key}
use Rattle.predicate_state.specs.PredicateTable.{LeafKey, same_leaves}
use Rattle.duration_metric.specs.declared.inner.Inner.{Inner}
use Rattle.duration_metric.specs.declared.inner.InnerTable.{InnerTable}
use Rattle.duration_metric.specs.InnerStands.{with_other}
use Rattle.duration_metric.specs.SumCalls.{known_out}
use Rattle.duration_metric.specs.Tallies.{row_out, how_often, freed_key, tallied_key, row_tallied, left_key, was_touched, counted_in, AreSteady, KeepsCounts}

-- a key in two lists
pub how_often-append : (key : MetricKey) (some more : List MetricKey)
    → how_often key (some ++ more) ≡ how_often key some + how_often key more
how_often-append key [] more = omega arith
how_often-append key (other ∷ some) more = omega (arith, how_often-append key some more)

-- a write to a row changes what it is counted for
pub tallied-set : (key : MetricKey) (rows : List (LeafKey × Inner)) (place : ℕ) (was now : Inner)
    → slice_get (values_of rows) place ≡ Some was
    → how_often key (flat_map row_tallied (set_value_at rows place now)) + how_often key (tallied_key was)
    ≡ how_often key (flat_map row_tallied rows) + how_often key (tallied_key now)
tallied-set key [] place was now at = absurd (none-some was at)
tallied-set key (row ∷ rows) zero was now at =
    let is : row.1 ≡ was = same_Some row.1 was at in
    let mine = ap (λ (i : Inner). how_often key (tallied_key i)) is in
    let before = how_often-append key (row_tallied row) (flat_map row_tallied rows) in
    let after = how_often-append key (tallied_key now) (flat_map row_tallied rows) in
    omega (arith, mine, before, after)
tallied-set key (row ∷ rows) (suc place) was now at =
    let before = how_often-append key (row_tallied row) (flat_map row_tallied rows) in
    let after = how_often-append key (row_tallied row) (flat_map row_tallied (set_value_at rows place now)) in
    omega (arith, before, after, tallied-set key rows place was now at)

-- a row after a write to one: the one that was written, or one of the others
pub after_set : (rows : List (LeafKey × Inner)) (place at : ℕ) (inner : Inner) (row : LeafKey × Inner)
    → slice_get (set_value_at rows place inner) at ≡ Some row
    → ((at ≡ place) × (row.1 ≡ inner)) ⊎ ((¬ (at ≡ place)) × (slice_get rows at ≡ Some row))
after_set [] place at inner row is = absurd (none-some row is)
after_set (first ∷ rows) zero zero inner row is =
    inl (refl, sym (ap (λ (r : LeafKey × Inner). r.1) (same_Some (first.0, inner) row is)))
after_set (first ∷ rows) zero (suc at) inner row is = inr ((λ e. omega (arith, e)), is)
after_set (first ∷ rows) (suc place) zero inner row is = inr ((λ e. omega (arith, e)), is)
after_set (first ∷ rows) (suc place) (suc at) inner row is = ⊎_elim
    (λ (here : (at ≡ place) × (row.1 ≡ inner)). inl (ap suc here.0, here.1))
    (λ (other : (¬ (at ≡ place)) × (slice_get rows at ≡ Some row)).
    inr ((λ e. other.0 (omega (arith, e))), other.1))
    (after_set rows place at inner row is)

-- neither of two
first_free : (some more : Bool) → (some || more) ≡ false → some ≡ false
first_free true more none = none
first_free false more none = refl

touched-push : (touched : List ℕ) (place at : ℕ)
    → was_touched (touched ++ place ∷ []) at ≡ (was_touched touched at || was_touched (place ∷ []) at)
touched-push touched place at = list_any-append (λ other. other == at) touched (place ∷ [])

touched_itself : (touched : List ℕ) (place at : ℕ) → at ≡ place → was_touched (touched ++ place ∷ []) at ≡ true
touched_itself touched place at is =
    touched-push touched place at ∙ last (was_touched touched at) (place == at) (grind (arith, is)) where
      last : (b c : Bool) → c ≡ true → (b || (c || false)) ≡ true
      last true c is = refl
      last false true is = refl
      last false false is = absurd (false≢true is)

-- one place more is touched
pub touches : (rows : List (LeafKey × Inner)) (touched : List ℕ) (place : ℕ) → AreSteady touched rows
    → AreSteady (touched ++ place ∷ []) rows
touches rows touched place steady at row there free = steady at row there
    (first_free (was_touched touched at) (was_touched (place ∷ []) at) (sym (touched-push touched place at) ∙ free))

-- as much is counted where an inner key that isn't in the tally any more is put down
pub releases_counts : (old new : InnerTable) (place : ℕ) (was now : Inner)
    → slice_get (values_of old.keys.rows) place ≡ Some was
    → now.tallied ≡ false → new ≡ with_other old place was now → KeepsCounts old new
releases_counts old new place was now at off is key =
    let same = ap (λ (t : InnerTable). counted_in t key) is in
    let writes = tallied-set key old.keys.rows place was now at in
    let none = ap (λ b. how_often key (freed_key b now.known)) off in
    let more = how_often-append key old.gone (tallied_key was) in
    omega (arith, same, writes, none, more)

-- a row that was written is touched, and the others stay as they were
pub set_steady : (rows : List (LeafKey × Inner)) (touched : List ℕ) (place : ℕ) (now : Inner) → AreSteady touched rows
    → AreSteady (touched ++ place ∷ []) (set_value_at rows place now)
set_steady rows touched place now steady other row there free = ⊎_elim
    (λ (here : (other ≡ place) × (row.1 ≡ now)).
    absurd (false≢true (sym free ∙ touched_itself touched place other here.0)))
    (λ (apart : (¬ (other ≡ place)) × (slice_get rows other ≡ Some row)).
    touches rows touched place steady other row apart.1 free)
    (after_set rows place other now row there)

-- another count of starts says nothing of the tally
pub other_counts : (old : InnerTable) (place count : ℕ) (was : Inner)
    → slice_get (values_of old.keys.rows) place ≡ Some was → (key : MetricKey)
    → how_often key (flat_map row_tallied (set_value_at old.keys.rows place (record was { count = count })))
    ≡ how_often key (flat_map row_tallied old.keys.rows)
other_counts old place count was at key =
    let now : Inner = record was { count = count } in
    let writes = tallied-set key old.keys.rows place was now at in
    let same : how_often key (tallied_key now) ≡ how_often key (tallied_key was) = refl in
    omega (arith, writes, same)

-- a row of a list with one more
get-push : (rows : List (LeafKey × Inner)) (last : LeafKey × Inner) (at : ℕ) (row : LeafKey × Inner)
    → slice_get (rows ++ last ∷ []) at ≡ Some row → (slice_get rows at ≡ Some row) ⊎ (row ≡ last)
get-push [] last zero row there = inr (sym (same_Some last row there))
get-push [] last (suc at) row there = absurd (none-some row there)
get-push (first ∷ rows) last zero row there = inl there
get-push (first ∷ rows) last (suc at) row there = get-push rows last at row there

tallied-push : (rows : List (LeafKey × Inner)) (last : LeafKey × Inner)
    → flat_map row_tallied (rows ++ last ∷ []) ≡ flat_map row_tallied rows ++ row_tallied last
tallied-push [] last = append-nil (row_tallied last)
tallied-push (row ∷ rows) last =
    ap (λ l. row_tallied row ++ l) (tallied-push rows last)
    ∙ sym (append_assoc (row_tallied row) (flat_map row_tallied rows) (row_tallied last))

-- an inner key that was told nothing counts for nothing
out_none : (on : Bool) → freed_key false None ≡ (if on then known_out None else [])
out_none true = refl
out_none false = refl

-- a new key isn't in the tally
pub lists_counts : (rows : List (LeafKey × Inner)) (key : LeafKey) (count : ℕ)
    → flat_map row_tallied (rows ++ (key, record { count = count; known = None; tallied = false }) ∷ [])
    ≡ flat_map row_tallied rows
lists_counts rows key count =
    tallied-push rows (key, record { count = count; known = None; tallied = false })
    ∙ append-nil (flat_map row_tallied rows)

pub lists_steady : (rows : List (LeafKey × Inner)) (touched : List ℕ) (key : LeafKey) (count : ℕ)
    → AreSteady touched rows
    → AreSteady touched (rows ++ (key, record { count = count; known = None; tallied = false }) ∷ [])
lists_steady rows touched key count steady at row there passes =
    let last : LeafKey × Inner = (key, record { count = count; known = None; tallied = false }) in
    ⊎_elim
    (λ (old_one : slice_get rows at ≡ Some row). steady at row old_one passes)
    (λ (is : row ≡ last). subst (λ (r : LeafKey × Inner). row_tallied r ≡ row_out r) (sym is)
    (out_none (nat_lt 0 count)))
    (get-push rows last at row there)

-- where nothing was touched, all rows are steady
abbrev AllSteady : List (LeafKey × Inner) → Type 0
AllSteady [] = Unit {0}
AllSteady (row ∷ rows) = (row_tallied row ≡ row_out row) × AllSteady rows

steady_each : (rows : List (LeafKey × Inner)) → AreSteady [] rows → AllSteady rows
steady_each [] steady = tt
steady_each (row ∷ rows) steady =
    (steady 0 row refl refl, steady_each rows (λ at other there. steady (suc at) other there))

each_steady : (touched : List ℕ) (rows : List (LeafKey × Inner)) → AllSteady rows → AreSteady touched rows
each_steady touched [] all at row there passes = absurd (none-some row there)
each_steady touched (first ∷ rows) all zero row there passes =
    subst (λ (r : LeafKey × Inner). row_tallied r ≡ row_out r) (same_Some first row there) all.0
each_steady touched (first ∷ rows) all (suc at) row there passes =
    each_steady [] rows all.1 at row there refl

-- so they are in the tally for the keys for which they count
pub steady_outs : (rows : List (LeafKey × Inner)) → AreSteady [] rows
    → flat_map row_tallied rows ≡ flat_map row_out rows
steady_outs rows steady = by rows (steady_each rows steady) where
  by : (rows : List (LeafKey × Inner)) → AllSteady rows → flat_map row_tallied rows ≡ flat_map row_out rows
  by [] all = refl
  by (row ∷ rows) all =
      ap (λ l. l ++ flat_map row_tallied rows) all.0 ∙ ap (λ l. row_out row ++ l) (by rows all.1)

steady-filter : (test : LeafKey × Inner → Bool) (rows : List (LeafKey × Inner)) → AllSteady rows
    → AllSteady (filter test rows)
steady-filter test [] all = tt
steady-filter test (row ∷ rows) all = ⊎_elim
    (λ (stays : test row ≡ true).
    subst (λ b. AllSteady (cond b (row ∷ filter test rows) (filter test rows))) (sym stays)
    (all.0, steady-filter test rows all.1))
    (λ (goes : test row ≡ false).
    subst (λ b. AllSteady (cond b (row ∷ filter test rows) (filter test rows))) (sym goes)
    (steady-filter test rows all.1))
    (cases_Bool (test row))

-- where no other row has the key, the rows without it are all
kept-all : (out : MetricKey) (key : LeafKey) (rows : List (LeafKey × Inner))
    → AllByRecursion (λ other. same_leaves key other ≡ false) (keys_of rows)
    → how_often out (flat_map row_tallied (filter (λ row. not (same_leaves key row.0)) rows))
    ≡ how_often out (flat_map row_tallied rows)
kept-all out key [] none = refl
kept-all out key (row ∷ rows) none =
    let others = filter (λ (r : LeafKey × Inner). not (same_leaves key r.0)) rows in
    let stays = ap (λ b. how_often out (flat_map row_tallied (cond (not b) (row ∷ others) others))) none.0 in
    let with_it = how_often-append out (row_tallied row) (flat_map row_tallied others) in
    let before = how_often-append out (row_tallied row) (flat_map row_tallied rows) in
    omega (arith, stays, with_it, before, kept-all out key rows none.1)

-- a key that leaves takes what was counted for it
without-tallied : (same_exact : (x y : LeafKey) → same_leaves x y ≡ true → x ≡ y) (out : MetricKey) (key : LeafKey)
    (rows : List (LeafKey × Inner)) → IsDistinct same_leaves (keys_of rows)
    → how_often out (flat_map row_tallied (filter (λ row. not (same_leaves key row.0)) rows))
    + how_often out (left_key (lookup (same_leaves key) rows))
    ≡ how_often out (flat_map row_tallied rows)
without-tallied same_exact out key [] distinct = refl
without-tallied same_exact out key (row ∷ rows) distinct =
    let others = filter (λ (r : LeafKey × Inner). not (same_leaves key r.0)) rows in
    let before = how_often-append out (row_tallied row) (flat_map row_tallied rows) in
    ⊎_elim
    (λ (here : same_leaves key row.0 ≡ true).
    let goes = ap (λ b. how_often out (flat_map row_tallied (cond (not b) (row ∷ others) others))) here in
    let is = ap (λ b. how_often out (left_key (cond b (Some row.1) (lookup (same_leaves key) rows)))) here in
    let rest = kept-all out key rows (subst (λ k. AllByRecursion (λ other. same_leaves k other ≡ false) (keys_of rows))
    (sym (same_exact key row.0 here)) (IsDistinct-head same_leaves row.0 (keys_of rows) distinct)) in
    omega (arith, before, goes, is, rest))
    (λ (other : same_leaves key row.0 ≡ false).
    let stays = ap (λ b. how_often out (flat_map row_tallied (cond (not b) (row ∷ others) others))) other in
    let with_it = how_often-append out (row_tallied row) (flat_map row_tallied others) in
    let is = ap (λ b. how_often out (left_key (cond b (Some row.1) (lookup (same_leaves key) rows)))) other in
    let rest = without-tallied same_exact out key rows (IsDistinct-tail same_leaves row.0 (keys_of rows) distinct) in
    omega (arith, before, stays, with_it, is, rest))
    (cases_Bool (same_leaves key row.0))

-- what a key that was taken out was counted for is put down
pub takes_counts : (same_exact : (x y : LeafKey) → same_leaves x y ≡ true → x ≡ y) (old : InnerTable) (key : LeafKey)
    → IsDistinct same_leaves (keys_of old.keys.rows) → KeepsCounts old (record old {
      keys = record old.keys { rows = filter (λ row. not (same_leaves key row.0)) old.keys.rows };
      gone = old.gone ++ left_key (lookup (same_leaves key) old.keys.rows);
    })
takes_counts same_exact old key distinct out =
    let more = how_often-append out old.gone (left_key (lookup (same_leaves key) old.keys.rows)) in
    omega (arith, more, without-tallied same_exact out key old.keys.rows distinct)

-- rows of which none was touched are steady without some of them
pub filter_steady : (test : LeafKey × Inner → Bool) (rows : List (LeafKey × Inner)) (touched : List ℕ) → touched ≡ []
    → AreSteady touched rows → AreSteady touched (filter test rows)
filter_steady test rows touched none steady = each_steady touched (filter test rows)
    (steady-filter test rows (steady_each rows (subst (λ places. AreSteady places rows) none steady)))

-- what all keys were counted for is
pub clears_counts : (old : InnerTable) → KeepsCounts old (record old {
  unknown = false;
  keys = record old.keys { rows = [] };
  gone = old.gone ++ flat_map row_tallied old.keys.rows;
})
clears_counts old out =
    let more = how_often-append out old.gone (flat_map row_tallied old.keys.rows) in
    omega (arith, more)

pub none_steady : (touched : List ℕ) → AreSteady touched []
none_steady touched at row there passes = absurd (none-some row there)

-- whether a key stands among some, by how often it does
pub how_often-among : (key : MetricKey) (keys : List MetricKey)
    → nat_lt 0 (how_often key keys) ≡ list_any (λ other. is_same_key other key) keys
how_often-among key [] = refl
how_often-among key (other ∷ keys) = ⊎_elim
    (λ (same : is_same_key other key ≡ true).
    ap (λ b. nat_lt 0 ((if b then 1 else 0) + how_often key keys)) same ∙ above (how_often key keys)
    ∙ sym (ap (λ b. b || list_any (λ k. is_same_key k key) keys) same))
    (λ (differs : is_same_key other key ≡ false).
    ap (λ b. nat_lt 0 ((if b then 1 else 0) + how_often key keys)) differs ∙ ap (nat_lt 0) (omega arith)
    ∙ how_often-among key keys ∙ sym (ap (λ b. b || list_any (λ k. is_same_key k key) keys) differs))
    (cases_Bool (is_same_key other key)) where
      above : (n : ℕ) → nat_lt 0 (1 + n) ≡ true
      above n = grind arith
