-- The keys that become active with a condition: the rows of touched places say all of them, in inner order.
use Rattle.std.proofs.Common.{◌≡◌, ℕ, zero, suc, ◌+◌, ◌-◌, ◌<◌, ◌≤◌, ◌==◌, Bool, true, false, not, ◌||◌, cond, nat_lt, if◌then◌else◌, List, [], ◌∷◌, ◌++◌, take, length, slice_get, Option, Some, None, IsPermutation, IsSorted, slice_index_or, refl, sym, ap, subst, ◌∙◌, arith, ⊎_elim, append-nil}
use Rattle.std.specs.List.{flat_map}
use Rattle.std.specs.List.Sorted.{IsNonDecreasing}
use Rattle.std.specs.Ordering.{nat_cmp}
use Rattle.std.proofs.lemmas.Bool.{cases_Bool, true≢false}
use Rattle.std.proofs.lemmas.Grind.{flat_map-append}
use Rattle.std.proofs.lemmas.List.{take_all}
use Rattle.std.proofs.lemmas.List.Folds.{list_any-append}
use Rattle.std.proofs.lemmas.List.Elements.{filter-append}
use Rattle.std.proofs.lemmas.List.Sorted.{IsNonDecreasingBy-from_sort, list_any-IsPermutation}
use Rattle.std.proofs.lemmas.Option.{none-some, same_Some}
use Rattle.atom_record.specs.Equal.{metric_key_exact}
use Rattle.atom_record.specs.declared.value.MetricKey.{MetricKey}
use Rattle.bucket_meaning.specs.Guard.{is_among, with_key, firsts}
use Rattle.bucket_meaning.proofs.GuardLemmas.{is_among-firsts}
use Rattle.metric_kinds.specs.Keys.{is_same_key}
use Rattle.predicate_state.specs.PredicateTable.{LeafKey}
use Rattle.duration_metric.specs.declared.inner.Inner.{Inner}
use Rattle.duration_metric.specs.declared.inner.InnerTable.{InnerTable}
use Rattle.duration_metric.specs.Tallies.{row_out, row_tallied, how_often, was_touched, IsTallied}
use Rattle.duration_metric.specs.SumSteps.{active_in, fresh_in, found_out, fresh_at}
use Rattle.duration_metric.proofs.ActiveLemmas.{firsts-append}
use Rattle.duration_metric.proofs.StepLemmas.{next_got, past_all}
use Rattle.duration_metric.proofs.TallyLemmas.{how_often-append, how_often-among}

-- the output key for which a row counts, where the tally has it not
abbrev fresh_out : (MetricKey → ℕ) → LeafKey × Inner → List MetricKey
fresh_out tally row = fresh_in tally (row_out row)

module _ (tally : MetricKey → ℕ) where
  abbrev is_new : MetricKey → Bool
  is_new key = not (nat_lt 0 (tally key))

  -- the new keys of all rows
  fresh_flat : (rows : List (LeafKey × Inner))
      → flat_map (fresh_out tally) rows ≡ fresh_in tally (flat_map row_out rows)
  fresh_flat [] = refl
  fresh_flat (row ∷ rows) =
      ap (λ l. fresh_out tally row ++ l) (fresh_flat rows)
      ∙ sym (filter-append is_new (row_out row) (flat_map row_out rows))

  -- a new key is among some where it is among the new ones of them
  among_fresh : (key : MetricKey) (seen : List MetricKey) → is_new key ≡ true
      → is_among is_same_key key (fresh_in tally seen) ≡ is_among is_same_key key seen
  among_fresh key [] is = refl
  among_fresh key (other ∷ seen) is = ⊎_elim
      (λ (same : is_same_key other key ≡ true).
      let new : is_new other ≡ true =
      subst (λ k. is_new k ≡ true) (sym ((metric_key_exact other key).0 same)) is in
      ap (λ b. is_among is_same_key key (cond b (other ∷ fresh_in tally seen) (fresh_in tally seen))) new
      ∙ ap (λ b. b || is_among is_same_key key (fresh_in tally seen)) same
      ∙ sym (ap (λ b. b || is_among is_same_key key seen) same))
      (λ (differs : is_same_key other key ≡ false).
      drops (is_new other) differs ∙ among_fresh key seen is
      ∙ sym (ap (λ b. b || is_among is_same_key key seen) differs))
      (cases_Bool (is_same_key other key)) where
        drops : (b : Bool) → is_same_key other key ≡ false
            → is_among is_same_key key (cond b (other ∷ fresh_in tally seen) (fresh_in tally seen))
            ≡ is_among is_same_key key (fresh_in tally seen)
        drops true differs = ap (λ c. c || is_among is_same_key key (fresh_in tally seen)) differs
        drops false differs = refl

  with_new : (key : MetricKey) (seen : List MetricKey) → is_new key ≡ true
      → with_key is_same_key (fresh_in tally seen) key ≡ fresh_in tally (with_key is_same_key seen key)
  with_new key seen is =
      ap (λ b. if b then fresh_in tally seen else fresh_in tally seen ++ key ∷ []) (among_fresh key seen is)
      ∙ by (is_among is_same_key key seen) where
        by : (b : Bool) → (if b then fresh_in tally seen else fresh_in tally seen ++ key ∷ [])
            ≡ fresh_in tally (if b then seen else seen ++ key ∷ [])
        by true = refl
        by false = sym (filter-append is_new seen (key ∷ [])
            ∙ ap (λ b. fresh_in tally seen ++ cond b (key ∷ []) []) is)

  with_counted : (key : MetricKey) (seen : List MetricKey) → is_new key ≡ false
      → fresh_in tally seen ≡ fresh_in tally (with_key is_same_key seen key)
  with_counted key seen is = by (is_among is_same_key key seen) where
    by : (b : Bool) → fresh_in tally seen ≡ fresh_in tally (if b then seen else seen ++ key ∷ [])
    by true = refl
    by false = sym (filter-append is_new seen (key ∷ [])
        ∙ ap (λ b. fresh_in tally seen ++ cond b (key ∷ []) []) is ∙ append-nil (fresh_in tally seen))

  -- the first of the new keys are the new ones of the first keys
  firsts-fresh : (seen keys : List MetricKey)
      → firsts is_same_key (fresh_in tally seen) (fresh_in tally keys) ≡ fresh_in tally (firsts is_same_key seen keys)
  firsts-fresh seen [] = refl
  firsts-fresh seen (key ∷ keys) = ⊎_elim
      (λ (new : is_new key ≡ true).
      ap (λ b. firsts is_same_key (fresh_in tally seen) (cond b (key ∷ fresh_in tally keys) (fresh_in tally keys))) new
      ∙ ap (λ l. firsts is_same_key l (fresh_in tally keys)) (with_new key seen new)
      ∙ firsts-fresh (with_key is_same_key seen key) keys)
      (λ (old : is_new key ≡ false).
      ap (λ b. firsts is_same_key (fresh_in tally seen) (cond b (key ∷ fresh_in tally keys) (fresh_in tally keys))) old
      ∙ ap (λ l. firsts is_same_key l (fresh_in tally keys)) (with_counted key seen old)
      ∙ firsts-fresh (with_key is_same_key seen key) keys)
      (cases_Bool (is_new key))

-- keys that are among some add nothing to them
firsts-among : (seen keys : List MetricKey)
    → ((key : MetricKey) → is_among is_same_key key keys ≡ true → is_among is_same_key key seen ≡ true)
    → firsts is_same_key seen keys ≡ seen
firsts-among seen [] there = refl
firsts-among seen (key ∷ keys) there =
    let here : is_among is_same_key key seen ≡ true =
    there key (ap (λ b. b || is_among is_same_key key keys) ((metric_key_exact key key).1 refl)) in
    ap (λ b. firsts is_same_key (if b then seen else seen ++ key ∷ []) keys) here
    ∙ firsts-among seen keys
    (λ other is. there other (or_later (is_same_key key other) (is_among is_same_key other keys) is))
  where
    or_later : (b c : Bool) → c ≡ true → (b || c) ≡ true
    or_later true c is = refl
    or_later false c is = is

-- some places rise from one on
abbrev Rises : ℕ → List ℕ → Type 0
Rises low [] = Unit {0}
Rises low (place ∷ places) = (low ≤ place) × Rises place places

-- none of them is below it
below_all : (low at : ℕ) (places : List ℕ) → Rises low places → at < low → was_touched places at ≡ false
below_all low at [] rises below = refl
below_all low at (place ∷ places) rises below =
    let differs : (place == at) ≡ false = grind (arith, rises.0, below) in
    ap (λ b. b || was_touched places at) differs
    ∙ below_all place at places rises.1 (omega (arith, rises.0, below))

-- another place is touched by those after the first
after_first : (place at : ℕ) (places : List ℕ) → ¬ (at ≡ place) → was_touched places at ≡ false
    → was_touched (place ∷ places) at ≡ false
after_first place at places differs none =
    let other : (place == at) ≡ false = grind (arith, differs) in
    ap (λ b. b || was_touched places at) other ∙ none

module _ (tally : MetricKey → ℕ) (rows : List (LeafKey × Inner)) where
  -- the new keys of the first so many rows
  abbrev so_far : ℕ → List MetricKey
  so_far n = firsts is_same_key [] (flat_map (fresh_out tally) (take n rows))

  one_row : (n : ℕ) (found : Option (LeafKey × Inner)) → slice_get rows n ≡ found
      → firsts is_same_key (so_far n) (fresh_in tally (found_out found)) ≡ so_far (n + 1)
  one_row n None none =
      let all = past_all rows n none in
      ap (λ l. firsts is_same_key [] (flat_map (fresh_out tally) l))
      (take_all n rows all ∙ sym (take_all (n + 1) rows (omega (arith, all))))
  one_row n (Some row) there =
      sym (ap (λ l. firsts is_same_key [] (flat_map (fresh_out tally) l)) (next_got rows n row there)
      ∙ ap (firsts is_same_key []) (flat_map-append (fresh_out tally) (take n rows) (row ∷ [])
      ∙ ap (λ l. flat_map (fresh_out tally) (take n rows) ++ l) (append-nil (fresh_out tally row)))
      ∙ firsts-append [] (flat_map (fresh_out tally) (take n rows)) (fresh_out tally row))

  -- with one row more
  next_row : (n : ℕ) → firsts is_same_key (so_far n) (fresh_at tally rows n) ≡ so_far (n + 1)
  next_row n = one_row n (slice_get rows n) refl

  -- rows without a new key change nothing
  skip : (n m : ℕ) → ((at : ℕ) → n ≤ at → at < n + m → fresh_at tally rows at ≡ []) → so_far n ≡ so_far (n + m)
  skip n zero none = ap so_far (omega arith)
  skip n (suc m) none =
      sym (ap (firsts is_same_key (so_far n)) (none n (omega arith) (omega arith)))
      ∙ next_row n
      ∙ skip (n + 1) m (λ at from to. none at (omega (arith, from)) (omega (arith, to)))
      ∙ ap so_far (omega arith)

  -- a row's new keys are among those of the rows so far
  in_flat : (some : List (LeafKey × Inner)) (n place : ℕ) (key : MetricKey) → place < n
      → is_among is_same_key key (fresh_in tally (found_out (slice_get some place))) ≡ true
      → is_among is_same_key key (flat_map (fresh_out tally) (take n some)) ≡ true
  in_flat some zero place key below there = absurd (omega (arith, below))
  in_flat [] (suc n) place key below there = absurd (true≢false (sym there))
  in_flat (row ∷ some) (suc n) zero key below there =
      list_any-append (λ other. is_same_key other key) (fresh_out tally row)
      (flat_map (fresh_out tally) (take n some))
      ∙ ap (λ b. b || is_among is_same_key key (flat_map (fresh_out tally) (take n some))) there
  in_flat (row ∷ some) (suc n) (suc place) key below there =
      list_any-append (λ other. is_same_key other key) (fresh_out tally row)
      (flat_map (fresh_out tally) (take n some))
      ∙ or_later (is_among is_same_key key (fresh_out tally row))
      (is_among is_same_key key (flat_map (fresh_out tally) (take n some)))
      (in_flat some n place key (omega (arith, below)) there) where
        or_later : (b c : Bool) → c ≡ true → (b || c) ≡ true
        or_later true c is = refl
        or_later false c is = is

  absorbed : (n place : ℕ) → place < n → firsts is_same_key (so_far n) (fresh_at tally rows place) ≡ so_far n
  absorbed n place below = firsts-among (so_far n) (fresh_at tally rows place)
      (λ key there. is_among-firsts is_same_key metric_key_exact key [] (flat_map (fresh_out tally) (take n rows))
      ∙ in_flat rows n place key below there)

  -- the rows at places that rise, and no others, have new keys
  walk : (places : List ℕ) (low n : ℕ) → Rises low places
      → ((at : ℕ) → n ≤ at → was_touched places at ≡ false → fresh_at tally rows at ≡ [])
      → firsts is_same_key (so_far n) (flat_map (fresh_at tally rows) places)
      ≡ firsts is_same_key [] (flat_map (fresh_out tally) rows)
  walk [] low n rises none =
      skip n (length rows) (λ at from to. none at from refl)
      ∙ ap (λ l. firsts is_same_key [] (flat_map (fresh_out tally) l)) (take_all (n + length rows) rows (omega arith))
  walk (place ∷ places) low n rises none =
      firsts-append (so_far n) (fresh_at tally rows place) (flat_map (fresh_at tally rows) places)
      ∙ ⊎_elim
      (λ (below : nat_lt place n ≡ true).
      let lower : place < n = grind (arith, below) in
      ap (λ l. firsts is_same_key l (flat_map (fresh_at tally rows) places)) (absorbed n place lower)
      ∙ walk places place n rises.1
      (λ at from untouched. none at from
      (after_first place at places (λ e. omega (arith, e, from, lower)) untouched)))
      (λ (above : nat_lt place n ≡ false).
      let higher : n ≤ place = grind (arith, above) in
      ap (λ l. firsts is_same_key (firsts is_same_key l (fresh_at tally rows place))
      (flat_map (fresh_at tally rows) places))
      (skip n (place - n) (λ at from to. none at from
      (below_all place at (place ∷ places) (omega arith, rises.1) (omega (arith, to, higher))))
      ∙ ap so_far (omega (arith, higher)))
      ∙ ap (λ l. firsts is_same_key l (flat_map (fresh_at tally rows) places)) (next_row place)
      ∙ walk places place (place + 1) rises.1
      (λ at from untouched. none at (omega (arith, from, higher))
      (after_first place at places (λ e. omega (arith, e, from)) untouched)))
      (cases_Bool (nat_lt place n))

-- numbers in order rise
rises_from : (low : ℕ) (places : List ℕ) → ((j d : ℕ) → j < length places → low ≤ slice_index_or places j d)
    → IsNonDecreasing places → Rises low places
rises_from low [] above order = tt
rises_from low (place ∷ places) above order = (
  above 0 0 (omega arith),
  rises_from place places (λ j d within. order 0 (suc j) d (omega arith) (omega (arith, within)))
      (λ i j d before within. order (suc i) (suc j) d (omega (arith, before)) (omega (arith, within))),
)

-- what the tally has isn't new
none_new : (tally : MetricKey → ℕ) (keys : List MetricKey)
    → ((key : MetricKey) → is_among is_same_key key keys ≡ true → nat_lt 0 (tally key) ≡ true)
    → fresh_in tally keys ≡ []
none_new tally [] has = refl
none_new tally (key ∷ keys) has =
    let here = has key (ap (λ b. b || is_among is_same_key key keys) ((metric_key_exact key key).1 refl)) in
    ap (λ b. cond (not b) (key ∷ fresh_in tally keys) (fresh_in tally keys)) here
    ∙ none_new tally keys
    (λ other is. has other (or_later (is_same_key key other) (is_among is_same_key other keys) is)) where
      or_later : (b c : Bool) → c ≡ true → (b || c) ≡ true
      or_later true c is = refl
      or_later false c is = is

-- a row's share of what is counted
pub row_share : (key : MetricKey) (rows : List (LeafKey × Inner)) (at : ℕ) (row : LeafKey × Inner)
    → slice_get rows at ≡ Some row → how_often key (row_tallied row) ≤ how_often key (flat_map row_tallied rows)
row_share key [] at row there = absurd (none-some row there)
row_share key (first ∷ rows) zero row there =
    let is = ap (λ (r : LeafKey × Inner). how_often key (row_tallied r)) (same_Some first row there) in
    omega (arith, is, how_often-append key (row_tallied first) (flat_map row_tallied rows))
row_share key (first ∷ rows) (suc at) row there =
    omega (arith, row_share key rows at row there, how_often-append key (row_tallied first) (flat_map row_tallied rows))

-- a row that wasn't touched has no new key
untouched : (it : InnerTable) (tally : MetricKey → ℕ) → IsTallied it tally → (at : ℕ) (found : Option (LeafKey × Inner))
    → slice_get it.keys.rows at ≡ found → was_touched it.touched at ≡ false → fresh_in tally (found_out found) ≡ []
untouched it tally right at None none free = refl
untouched it tally right at (Some row) there free =
    let steady = right.steady at row there free in
    none_new tally (row_out row)
    (λ key among.
    let own : nat_lt 0 (how_often key (row_tallied row)) ≡ true =
    ap (λ l. nat_lt 0 (how_often key l)) steady ∙ how_often-among key (row_out row) ∙ among in
    let share = row_share key it.keys.rows at row there in
    let counts = right.all key in
    grind (arith, own, share, counts))

-- the new keys of the rows at the touched places, in order, are those of all active keys
pub fresh_found : (it : InnerTable) (tally : MetricKey → ℕ) (sorted : List ℕ) → IsPermutation it.touched sorted
    → IsSorted nat_cmp sorted → IsTallied it tally
    → firsts is_same_key [] (flat_map (fresh_at tally it.keys.rows) sorted)
    ≡ fresh_in tally (active_in it.keys.rows)
fresh_found it tally sorted same order right =
    let rows = it.keys.rows in
    walk tally rows sorted 0 0
    (rises_from 0 sorted (λ j d within. omega arith) (IsNonDecreasingBy-from_sort (λ n. n) sorted order))
    (λ at from free. untouched it tally right at (slice_get rows at) refl
    (list_any-IsPermutation (λ other. other == at) it.touched sorted same ∙ free))
    ∙ ap (firsts is_same_key []) (fresh_flat tally rows)
    ∙ firsts-fresh tally [] (flat_map row_out rows)
