-- The places of rows that are the first to count for their key, found while rows are taken into the tally.
use Rattle.std.proofs.Common.{◌≡◌, ◌⊎◌, ℕ, zero, suc, ◌+◌, Bool, true, false, not, ◌||◌, cond, nat_lt, if◌then◌else◌, List, [], ◌∷◌, ◌++◌, slice_get, take, Option, Some, None, refl, sym, ap, subst, ◌∙◌, arith, ⊎_elim, append-nil}
use Rattle.std.specs.List.{flat_map}
use Rattle.std.specs.Map.{values_of}
use Rattle.std.proofs.lemmas.Bool.{cases_Bool, false≢true}
use Rattle.std.proofs.lemmas.Grind.{flat_map-append}
use Rattle.std.proofs.lemmas.List.{take_all}
use Rattle.std.proofs.lemmas.List.Folds.{list_any-append}
use Rattle.std.proofs.lemmas.Option.{same_Some}
use Rattle.atom_record.specs.Equal.{metric_key_exact}
use Rattle.atom_record.specs.declared.value.MetricKey.{MetricKey}
use Rattle.bucket_meaning.specs.Guard.{is_among, firsts}
use Rattle.dim_table.specs.Table.{Table, set_value_at}
use Rattle.metric_kinds.specs.Keys.{is_same_key}
use Rattle.predicate_state.specs.PredicateTable.{LeafKey}
use Rattle.duration_metric.specs.declared.inner.Inner.{Inner}
use Rattle.duration_metric.specs.Tallies.{row_out, row_tallied, one, how_often, tally_at, is_counted, IsOff, Raises}
use Rattle.duration_metric.specs.SumSteps.{fresh_in, found_out, outs_at, fresh_at, with_begun, CountsRight, CountsAt, Recounts}
use Rattle.duration_metric.proofs.ActiveLemmas.{firsts-append}
use Rattle.duration_metric.proofs.CountedLemmas.{row_share}
use Rattle.duration_metric.proofs.RecountLemmas.{value_there, tallied_row}
use Rattle.duration_metric.proofs.StepLemmas.{next_got, past_all}
use Rattle.duration_metric.proofs.TallyLemmas.{how_often-among}

-- The rows at the first so many places were looked at, and these places begin: a key is in the tally now where it was
-- in it before, or one of these rows counts for it.
pub record Begun (first last : Table LeafKey Inner) (before now : List (MetricKey × ℕ)) (done began : List ℕ) :
    Type 0 where
  pub outs_stay : (at : ℕ) → found_out (slice_get last.rows at) ≡ found_out (slice_get first.rows at)
  pub begun_are : outs_at first.rows began
      ≡ firsts is_same_key [] (flat_map (fresh_at (tally_at before) first.rows) done)
  pub marked : (key : MetricKey)
      → is_counted now key ≡ (is_counted before key || is_among is_same_key key (outs_at first.rows began))

-- before any place
pub begun_none : (it : Table LeafKey Inner) (tally : List (MetricKey × ℕ)) → Begun it it tally tally [] []
begun_none it tally = record {
  outs_stay = λ at. refl;
  begun_are = refl;
  marked = λ key. or_false (is_counted tally key);
} where
  or_false : (b : Bool) → b ≡ (b || false)
  or_false true = refl
  or_false false = refl

-- keys that are in the tally, or began already, add nothing
firsts_known : (before : List (MetricKey × ℕ)) (began keys : List MetricKey)
    → ((key : MetricKey) → is_among is_same_key key keys ≡ true
    → (is_counted before key || is_among is_same_key key began) ≡ true)
    → firsts is_same_key began (fresh_in (tally_at before) keys) ≡ began
firsts_known before began [] known = refl
firsts_known before began (key ∷ keys) known =
    let here = known key (ap (λ b. b || is_among is_same_key key keys) ((metric_key_exact key key).1 refl)) in
    let later = firsts_known before began keys
    (λ other is. known other (or_later (is_same_key key other) (is_among is_same_key other keys) is)) in
    let rest = fresh_in (tally_at before) keys in
    ⊎_elim
    (λ (counted : is_counted before key ≡ true).
    ap (λ b. firsts is_same_key began (cond (not b) (key ∷ rest) rest)) counted ∙ later)
    (λ (fresh : is_counted before key ≡ false).
    let among : is_among is_same_key key began ≡ true =
    sym (ap (λ b. b || is_among is_same_key key began) fresh) ∙ here in
    ap (λ b. firsts is_same_key began (cond (not b) (key ∷ rest) rest)) fresh
    ∙ ap (λ b. firsts is_same_key (if b then began else began ++ key ∷ []) rest) among ∙ later)
    (cases_Bool (is_counted before key)) where
      or_later : (b c : Bool) → c ≡ true → (b || c) ≡ true
      or_later true c is = refl
      or_later false c is = is

-- whether a row is in the tally says nothing of what the row at a place counts for
pub outs_still : (rows : List (LeafKey × Inner)) (place : ℕ) (was : Inner) (flag : Bool) (at : ℕ)
    → slice_get (values_of rows) place ≡ Some was
    → found_out (slice_get (set_value_at rows place (record was { tallied = flag })) at) ≡ found_out (slice_get rows at)
outs_still [] place was flag at there = refl
outs_still (row ∷ rows) zero was flag zero there =
    ap (λ (i : Inner). row_out (row.0, i)) (sym (same_Some row.1 was there))
outs_still (row ∷ rows) zero was flag (suc at) there = refl
outs_still (row ∷ rows) (suc place) was flag zero there = refl
outs_still (row ∷ rows) (suc place) was flag (suc at) there = outs_still rows place was flag at there

-- which keys are counted after one more
raised : (some now : List (MetricKey × ℕ)) (key : MetricKey) → Raises some now key → (other : MetricKey)
    → is_counted now other ≡ (is_counted some other || is_same_key key other)
raised some now key raises other = ⊎_elim
    (λ (same : is_same_key key other ≡ true).
    let count = ap {B = ℕ} (λ b. if b then 1 else 0) same in
    let above : nat_lt 0 (tally_at now other) ≡ true = grind (arith, raises other, count) in
    above ∙ sym (ap (λ b. is_counted some other || b) same ∙ or_true (is_counted some other)))
    (λ (differs : is_same_key key other ≡ false).
    let count = ap {B = ℕ} (λ b. if b then 1 else 0) differs in
    let stays : tally_at now other ≡ tally_at some other = omega (arith, raises other, count) in
    ap (nat_lt 0) stays ∙ sym (ap (λ b. is_counted some other || b) differs ∙ or_false (is_counted some other)))
    (cases_Bool (is_same_key key other)) where
      or_true : (b : Bool) → (b || true) ≡ true
      or_true true = refl
      or_true false = refl

      or_false : (b : Bool) → (b || false) ≡ b
      or_false true = refl
      or_false false = refl

-- the keys of one place more
pub outs-push : (rows : List (LeafKey × Inner)) (places : List ℕ) (place : ℕ)
    → outs_at rows (places ++ place ∷ []) ≡ outs_at rows places ++ found_out (slice_get rows place)
outs-push rows places place =
    flat_map-append (λ p. found_out (slice_get rows p)) places (place ∷ [])
    ∙ ap (λ l. outs_at rows places ++ l) (append-nil (found_out (slice_get rows place)))

-- the keys of the first rows, and of one more
pub outs-next : (rows : List (LeafKey × Inner)) (n : ℕ)
    → flat_map row_out (take (n + 1) rows) ≡ flat_map row_out (take n rows) ++ found_out (slice_get rows n)
outs-next rows n = by (slice_get rows n) refl where
  by : (found : Option (LeafKey × Inner)) → slice_get rows n ≡ found
      → flat_map row_out (take (n + 1) rows) ≡ flat_map row_out (take n rows) ++ found_out found
  by None none =
      let all = past_all rows n none in
      ap (flat_map row_out) (take_all (n + 1) rows (omega (arith, all)) ∙ sym (take_all n rows all))
      ∙ sym (append-nil (flat_map row_out (take n rows)))
  by (Some row) there =
      ap (flat_map row_out) (next_got rows n row there)
      ∙ flat_map-append row_out (take n rows) (row ∷ [])
      ∙ ap (λ l. flat_map row_out (take n rows) ++ l) (append-nil (row_out row))

module _ (first mid last : Table LeafKey Inner) (before some now : List (MetricKey × ℕ))
    (places rest done began : List ℕ) (place : ℕ) (counts : Recounts first mid before some places (place ∷ rest))
    (right : CountsRight (tally_at before) first.rows) (so_far : Begun first mid before some done began) where
  abbrev keys : List MetricKey
  keys = outs_at first.rows began

  abbrev here : List MetricKey
  here = found_out (slice_get first.rows place)

  -- the first keys with those of this place
  grown : (new : List MetricKey) → firsts is_same_key keys (fresh_in (tally_at before) here) ≡ new
      → new ≡ firsts is_same_key [] (flat_map (fresh_at (tally_at before) first.rows) (done ++ place ∷ []))
  grown new is =
      let f = fresh_at (tally_at before) first.rows in
      sym (ap (firsts is_same_key [])
      (flat_map-append f done (place ∷ []) ∙ ap (λ l. flat_map f done ++ l) (append-nil (f place)))
      ∙ firsts-append [] (flat_map f done) (f place)
      ∙ ap (λ l. firsts is_same_key l (f place)) (sym so_far.begun_are) ∙ is)

  -- a row that is in the tally counts for no new key
  in_tally : (row : LeafKey × Inner) → slice_get mid.rows place ≡ Some row → row.1.tallied ≡ true
      → (key : MetricKey) → is_among is_same_key key (row_out row) ≡ true
      → (is_counted before key || is_among is_same_key key keys) ≡ true
  in_tally row there on key among =
      let own : nat_lt 0 (how_often key (row_tallied row)) ≡ true = ⊎_elim
      (λ (same : row_tallied row ≡ row_out row).
      ap (λ l. nat_lt 0 (how_often key l)) same ∙ how_often-among key (row_out row) ∙ among)
      (λ (off : IsOff row). absurd (false≢true (sym (ap (is_among is_same_key key) off.1) ∙ among)))
      (tallied_row row on) in
      let share = row_share key mid.rows place row there in
      let all = counts.tally_is right.0 right.1 key in
      let counted : nat_lt 0 (tally_at some key) ≡ true = grind (arith, own, share, all) in
      sym (so_far.marked key) ∙ counted

  nothing : (found : Option (LeafKey × Inner)) → slice_get mid.rows place ≡ found
      → ((row : LeafKey × Inner) → slice_get mid.rows place ≡ Some row
      → (row.1.tallied ≡ true) ⊎ ((row.1.tallied ≡ false) × (row_out row ≡ [])))
      → firsts is_same_key keys (fresh_in (tally_at before) (found_out found)) ≡ keys
  nothing None is sure = refl
  nothing (Some row) is sure = ⊎_elim
      (λ (on : row.1.tallied ≡ true). firsts_known before keys (row_out row) (in_tally row is on))
      (λ (off : (row.1.tallied ≡ false) × (row_out row ≡ [])).
      ap (λ l. firsts is_same_key keys (fresh_in (tally_at before) l)) off.1)
      (sure row is)

  begun_stays : ((row : LeafKey × Inner) → slice_get mid.rows place ≡ Some row
      → (row.1.tallied ≡ true) ⊎ ((row.1.tallied ≡ false) × (row_out row ≡ [])))
      → Begun first mid before some (done ++ place ∷ []) began
  begun_stays sure = record {
    outs_stay = so_far.outs_stay;
    begun_are = grown keys
        (ap (λ l. firsts is_same_key keys (fresh_in (tally_at before) l)) (sym (so_far.outs_stay place))
        ∙ nothing (slice_get mid.rows place) refl sure);
    marked = so_far.marked;
  }

  module _ (row : LeafKey × Inner) (key : MetricKey) (there : slice_get mid.rows place ≡ Some row)
      (out : row_out row ≡ key ∷ []) (raises : Raises some now key) where
    here_is : here ≡ key ∷ []
    here_is = sym (so_far.outs_stay place) ∙ ap found_out there ∙ out

    -- another inner key counts for it already
    again : is_counted some key ≡ true
        → (firsts is_same_key keys (fresh_in (tally_at before) here) ≡ keys)
        × ((other : MetricKey) → is_counted now other ≡ (is_counted before other || is_among is_same_key other keys))
    again counted = (
      ap (λ l. firsts is_same_key keys (fresh_in (tally_at before) l)) here_is
          ∙ firsts_known before keys (key ∷ []) (λ other among.
          sym (so_far.marked other)
          ∙ ap (is_counted some) (sym ((metric_key_exact key other).0 (only (is_same_key key other) among)))
          ∙ counted),
      λ other. raised some now key raises other ∙ (⊎_elim
          (λ (same : is_same_key key other ≡ true).
          ap (λ k. is_counted some k || is_same_key key other) (sym ((metric_key_exact key other).0 same))
          ∙ ap (λ b. b || is_same_key key other) counted
          ∙ sym (sym (so_far.marked other)
          ∙ ap (is_counted some) (sym ((metric_key_exact key other).0 same)) ∙ counted))
          (λ (differs : is_same_key key other ≡ false).
          ap (λ b. is_counted some other || b) differs ∙ or_false (is_counted some other) ∙ so_far.marked other)
          (cases_Bool (is_same_key key other))),
    ) where
      only : (b : Bool) → (b || false) ≡ true → b ≡ true
      only true is = refl
      only false is = is

      or_false : (b : Bool) → (b || false) ≡ b
      or_false true = refl
      or_false false = refl

    -- it is the first
    anew : is_counted some key ≡ false
        → (firsts is_same_key keys (fresh_in (tally_at before) here) ≡ keys ++ key ∷ [])
        × ((other : MetricKey)
        → is_counted now other ≡ (is_counted before other || is_among is_same_key other (keys ++ key ∷ [])))
    anew none =
        let neither : (is_counted before key || is_among is_same_key key keys) ≡ false =
        sym (so_far.marked key) ∙ none in (
          ap (λ l. firsts is_same_key keys (fresh_in (tally_at before) l)) here_is
              ∙ ap (λ b. firsts is_same_key keys (cond (not b) (key ∷ []) []))
              (left (is_counted before key) (is_among is_same_key key keys) neither)
              ∙ ap (λ b. if b then keys else keys ++ key ∷ [])
              (right_one (is_counted before key) (is_among is_same_key key keys) neither),
          λ other. raised some now key raises other
              ∙ ap (λ b. b || is_same_key key other) (so_far.marked other)
              ∙ all_three (is_counted before other) (is_among is_same_key other keys) (is_same_key key other)
              ∙ sym (ap (λ b. is_counted before other || b)
              (list_any-append (λ k. is_same_key k other) keys (key ∷ []))),
        ) where
          left : (a b : Bool) → (a || b) ≡ false → a ≡ false
          left true b is = is
          left false b is = refl

          right_one : (a b : Bool) → (a || b) ≡ false → b ≡ false
          right_one true b is = absurd (omega (arith, ap {B = ℕ} (λ b. if b then 1 else 0) is))
          right_one false b is = is

          all_three : (a b c : Bool) → ((a || b) || c) ≡ (a || (b || (c || false)))
          all_three true b c = refl
          all_three false true c = refl
          all_three false false true = refl
          all_three false false false = refl

    begun_takes : (new : List ℕ) → row.1.tallied ≡ false
        → new ≡ with_begun began (not (is_counted some key)) place
        → last ≡ record mid { rows = set_value_at mid.rows place (record row.1 { tallied = true }) }
        → Begun first last before now (done ++ place ∷ []) new
    begun_takes new off new_is last_is =
        let stays : (at : ℕ) → found_out (slice_get last.rows at) ≡ found_out (slice_get first.rows at) =
        λ at. ap (λ (t : Table LeafKey Inner). found_out (slice_get t.rows at)) last_is
        ∙ outs_still mid.rows place row.1 true at (value_there mid.rows place row there) ∙ so_far.outs_stay at in
        ⊎_elim
        (λ (counted : is_counted some key ≡ true).
        let is : new ≡ began = new_is ∙ ap (λ b. with_begun began (not b) place) counted in
        subst (λ l. Begun first last before now (done ++ place ∷ []) l) (sym is) (record {
          outs_stay = stays;
          begun_are = grown keys (again counted).0;
          marked = (again counted).1;
        }))
        (λ (none : is_counted some key ≡ false).
        let is : new ≡ began ++ place ∷ [] = new_is ∙ ap (λ b. with_begun began (not b) place) none in
        let outs : outs_at first.rows (began ++ place ∷ []) ≡ keys ++ key ∷ [] =
        outs-push first.rows began place ∙ ap (λ l. keys ++ l) here_is in
        subst (λ l. Begun first last before now (done ++ place ∷ []) l) (sym is) (record {
          outs_stay = stays;
          begun_are = outs ∙ grown (keys ++ key ∷ []) (anew none).0;
          marked = λ other. (anew none).1 other
              ∙ ap (λ l. is_counted before other || is_among is_same_key other l) (sym outs);
        }))
        (cases_Bool (is_counted some key))

  -- one place more was looked at
  pub begun_more : (new : List ℕ) → CountsAt mid last some now began new place
      → Begun first last before now (done ++ place ∷ []) new
  begun_more new one = ⊎_elim
      (λ (same : (last ≡ mid) × (now ≡ some) × (new ≡ began)
      × ((row : LeafKey × Inner) → slice_get mid.rows place ≡ Some row
      → (row.1.tallied ≡ true) ⊎ ((row.1.tallied ≡ false) × (row_out row ≡ [])))).
      subst (λ (t : Table LeafKey Inner). Begun first t before now (done ++ place ∷ []) new) (sym same.0)
      (subst (λ t. Begun first mid before t (done ++ place ∷ []) new) (sym same.1)
      (subst (λ l. Begun first mid before some (done ++ place ∷ []) l) (sym same.2) (begun_stays same.3))))
      (λ (more : (row : LeafKey × Inner) × (key : MetricKey) × (slice_get mid.rows place ≡ Some row)
      × (row.1.tallied ≡ false) × (row_out row ≡ key ∷ []) × Raises some now key
      × (new ≡ with_begun began (not (is_counted some key)) place)
      × (last ≡ record mid { rows = set_value_at mid.rows place (record row.1 { tallied = true }) })).
      begun_takes more.0 more.1 more.2 more.4 more.5 new more.3 more.6 more.7)
      one

-- the keys at some places are the same after all places
pub begun_outs : (first last : Table LeafKey Inner) (before now : List (MetricKey × ℕ)) (done began : List ℕ)
    → Begun first last before now done began
    → outs_at last.rows began ≡ firsts is_same_key [] (flat_map (fresh_at (tally_at before) first.rows) done)
begun_outs first last before now done began begun =
    let same : outs_at last.rows began ≡ outs_at first.rows began =
    λ i. flat_map (λ place. begun.outs_stay place i) began in
    same ∙ begun.begun_are
