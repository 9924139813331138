-- Rows that count no more are taken out of the tally, one at a time.
use Rattle.std.proofs.Common.{◌≡◌, inl, ℕ, zero, suc, ◌==◌, Bool, true, false, ◌||◌, if◌then◌else◌, List, [], ◌∷◌, ◌++◌, slice_get, Some, refl, sym, ap, subst, ◌∙◌, arith, ⊎_elim, append-nil}
use Rattle.std.specs.List.{flat_map}
use Rattle.std.specs.Map.{values_of}
use Rattle.std.proofs.lemmas.Bool.{cases_Bool}
use Rattle.std.proofs.lemmas.Grind.{flat_map-append}
use Rattle.std.proofs.lemmas.List.Folds.{list_any-append}
use Rattle.std.proofs.lemmas.Option.{same_Some}
use Rattle.atom_record.specs.declared.value.MetricKey.{MetricKey}
use Rattle.bucket_meaning.specs.Guard.{is_among}
use Rattle.dim_table.specs.Table.{Table, set_value_at}
use Rattle.metric_kinds.specs.Keys.{is_same_key}
use Rattle.predicate_state.specs.PredicateTable.{LeafKey}
use Rattle.duration_metric.specs.declared.inner.Inner.{Inner}
use Rattle.duration_metric.specs.Tallies.{out_for, row_out, row_tallied, tallied_key, freed_key, known_key, how_often, was_touched, Lowers, CountsSame, IsOff}
use Rattle.duration_metric.specs.SumSteps.{outs_at, found_told, tolds_at, ReleasesAt, ReleasesPlaces}
use Rattle.duration_metric.proofs.BegunLemmas.{outs_still}
use Rattle.duration_metric.proofs.InnerLemmas.{counts-same, known-set}
use Rattle.duration_metric.proofs.RecountLemmas.{value_there, outs-set, looked_past}
use Rattle.duration_metric.proofs.SpanLemmas.{first_fails, second_fails}
use Rattle.duration_metric.proofs.TallyLemmas.{tallied-set, after_set}

-- the keys of one place more
pub tolds-push : (rows : List (LeafKey × Inner)) (places : List ℕ) (place : ℕ)
    → tolds_at rows (places ++ place ∷ []) ≡ tolds_at rows places ++ found_told (slice_get rows place)
tolds-push rows places place =
    flat_map-append (λ p. found_told (slice_get rows p)) places (place ∷ [])
    ∙ ap (λ l. tolds_at rows places ++ l) (append-nil (found_told (slice_get rows place)))

-- whether a row is in the tally says nothing of what was told of the row at a place
tolds_still : (rows : List (LeafKey × Inner)) (place : ℕ) (was : Inner) (flag : Bool) (at : ℕ)
    → slice_get (values_of rows) place ≡ Some was
    → found_told (slice_get (set_value_at rows place (record was { tallied = flag })) at)
    ≡ found_told (slice_get rows at)
tolds_still [] place was flag at there = refl
tolds_still (row ∷ rows) zero was flag zero there =
    ap (λ (i : Inner). known_key i.known) (sym (same_Some row.1 was there))
tolds_still (row ∷ rows) zero was flag (suc at) there = refl
tolds_still (row ∷ rows) (suc place) was flag zero there = refl
tolds_still (row ∷ rows) (suc place) was flag (suc at) there = tolds_still rows place was flag at there

-- before any place
pub releases_none : (it : Table LeafKey Inner) (tally : List (MetricKey × ℕ)) (places : List ℕ)
    → ReleasesPlaces it it tally tally places places []
releases_none it tally places = record {
  bound_is = refl;
  dropped_is = refl;
  counts_are = refl;
  known_are = λ known all. all;
  outs_are = refl;
  outs_stay = λ at. refl;
  tolds_stay = λ at. refl;
  tally_is = λ all. all;
  same = λ key none. refl;
  steady = λ steady looked. (steady, looked);
}

module _ (first mid last : Table LeafKey Inner) (before some now : List (MetricKey × ℕ)) (places rest : List ℕ)
    (tolds : List MetricKey) (place : ℕ)
    (so_far : ReleasesPlaces first mid before some places (place ∷ rest) tolds) where
  abbrev here : List MetricKey
  here = found_told (slice_get first.rows place)

  -- a key that was told of none of the rows so far, with this one
  neither : (key : MetricKey) → is_among is_same_key key (tolds ++ here) ≡ false
      → (is_among is_same_key key tolds ≡ false) × (is_among is_same_key key here ≡ false)
  neither key none =
      let both : (is_among is_same_key key tolds || is_among is_same_key key here) ≡ false =
      sym (list_any-append (λ other. is_same_key other key) tolds here) ∙ none in (
        first_fails (is_among is_same_key key tolds) (is_among is_same_key key here) both,
        second_fails (is_among is_same_key key tolds) (is_among is_same_key key here) both,
      )

  -- nothing is to be taken out
  stays : ((row : LeafKey × Inner) → slice_get mid.rows place ≡ Some row → IsOff row → row_tallied row ≡ [])
      → ReleasesPlaces first mid before some places rest (tolds ++ here)
  stays sure = record {
    bound_is = so_far.bound_is;
    dropped_is = so_far.dropped_is;
    counts_are = so_far.counts_are;
    known_are = so_far.known_are;
    outs_are = so_far.outs_are;
    outs_stay = so_far.outs_stay;
    tolds_stay = so_far.tolds_stay;
    tally_is = so_far.tally_is;
    same = λ key none. so_far.same key (neither key none).0;
    steady = λ steady looked.
        let was = so_far.steady steady looked in (
          λ at row there free. ⊎_elim
              (λ (same : (place == at) ≡ true).
              let is : at ≡ place = grind (arith, same) in
              ⊎_elim
              (λ (counts : row_tallied row ≡ row_out row). counts)
              (λ (off : IsOff row).
              sure row (subst (λ p. slice_get mid.rows p ≡ Some row) is there) off ∙ sym off.1)
              (was.1 at row there refl))
              (λ (differs : (place == at) ≡ false).
              was.0 at row there (ap (λ b. b || was_touched rest at) differs ∙ free))
              (cases_Bool (place == at)),
          was.1,
        );
  }

  -- a row is
  released : (row : LeafKey × Inner) (key : MetricKey) → slice_get mid.rows place ≡ Some row → IsOff row
      → known_key row.1.known ≡ key ∷ [] → Lowers some now key
      → last ≡ record mid { rows = set_value_at mid.rows place (record row.1 { tallied = false }) }
      → ReleasesPlaces first last before now places rest (tolds ++ here)
  released row key there off told lowers is =
      let fresh : Inner = record row.1 { tallied = false } in
      let at = value_there mid.rows place row there in
      let own : (that : LeafKey × Inner) → that.1 ≡ fresh → row_tallied that ≡ row_out that =
      λ that same. ap tallied_key same ∙ sym off.1 ∙ sym (ap (λ (i : Inner). out_for i.count i.known) same) in
      subst (λ (t : Table LeafKey Inner). ReleasesPlaces first t before now places rest (tolds ++ here)) (sym is)
      (record {
        bound_is = so_far.bound_is;
        dropped_is = so_far.dropped_is;
        counts_are = counts-same mid.rows place row.1 fresh at refl ∙ so_far.counts_are;
        known_are = λ known all. known-set known mid.rows place row.1 fresh at refl (so_far.known_are known all);
        outs_are = outs-set mid.rows place row.1 false at ∙ so_far.outs_are;
        outs_stay = λ other. outs_still mid.rows place row.1 false other at ∙ so_far.outs_stay other;
        tolds_stay = λ other. tolds_still mid.rows place row.1 false other at ∙ so_far.tolds_stay other;
        tally_is = λ all other.
            let was = so_far.tally_is all other in
            let writes = tallied-set other mid.rows place row.1 fresh at in
            let none : how_often other (tallied_key fresh) ≡ 0 = refl in
            let mine : how_often other (tallied_key row.1) ≡ how_often other (key ∷ []) =
            ap (λ b. how_often other (freed_key b row.1.known)) off.0 ∙ ap (how_often other) told in
            omega (arith, was, writes, none, mine, lowers other);
        same = λ other absent.
            let both = neither other absent in
            let is_here : here ≡ key ∷ [] = sym (so_far.tolds_stay place) ∙ ap found_told there ∙ told in
            let apart : (is_same_key key other || false) ≡ false =
            ap (is_among is_same_key other) (sym is_here) ∙ both.1 in
            let differs = first_fails (is_same_key key other) false apart in
            let none = ap {B = ℕ} (λ b. if b then 1 else 0) differs in
            omega (arith, lowers other, none, so_far.same other both.0);
        steady = λ steady looked.
            let was = so_far.steady steady looked in (
              λ other that found free. ⊎_elim
                  (λ (same : (other ≡ place) × (that.1 ≡ fresh)). own that same.1)
                  (λ (apart : (¬ (other ≡ place)) × (slice_get mid.rows other ≡ Some that)).
                  was.0 other that apart.1 (looked_past place other rest apart.0 free))
                  (after_set mid.rows place other fresh that found),
              λ other that found free. ⊎_elim
                  (λ (same : (other ≡ place) × (that.1 ≡ fresh)). inl (own that same.1))
                  (λ (apart : (¬ (other ≡ place)) × (slice_get mid.rows other ≡ Some that)).
                  was.1 other that apart.1 free)
                  (after_set mid.rows place other fresh that found),
            );
      })

  -- one place more was looked at
  pub releases_more : ReleasesAt mid last some now place
      → ReleasesPlaces first last before now places rest (tolds ++ here)
  releases_more step = ⊎_elim
      (λ (same : (last ≡ mid) × (now ≡ some) × ((row : LeafKey × Inner) → slice_get mid.rows place ≡ Some row
      → IsOff row → row_tallied row ≡ [])).
      subst (λ (t : Table LeafKey Inner). ReleasesPlaces first t before now places rest (tolds ++ here)) (sym same.0)
      (subst (λ t. ReleasesPlaces first mid before t places rest (tolds ++ here)) (sym same.1) (stays same.2)))
      (λ (more : (row : LeafKey × Inner) × (key : MetricKey) × (slice_get mid.rows place ≡ Some row) × IsOff row
      × (known_key row.1.known ≡ key ∷ []) × Lowers some now key
      × (last ≡ record mid { rows = set_value_at mid.rows place (record row.1 { tallied = false }) })).
      released more.0 more.1 more.2 more.3 more.4 more.5 more.6)
      step

-- a tally that counts the same
pub releases_same : (first last : Table LeafKey Inner) (before now left : List (MetricKey × ℕ)) (places : List ℕ)
    (tolds : List MetricKey) → ReleasesPlaces first last before now places [] tolds → CountsSame now left
    → ReleasesPlaces first last before left places [] tolds
releases_same first last before now left places tolds releases same = record {
  bound_is = releases.bound_is;
  dropped_is = releases.dropped_is;
  counts_are = releases.counts_are;
  known_are = releases.known_are;
  outs_are = releases.outs_are;
  outs_stay = releases.outs_stay;
  tolds_stay = releases.tolds_stay;
  tally_is = λ all key. same key ∙ releases.tally_is all key;
  same = λ key none. same key ∙ releases.same key none;
  steady = releases.steady;
}

-- what was told of the rows at some places, and for which keys they count, stays
pub tolds_after : (first last : Table LeafKey Inner) (before now : List (MetricKey × ℕ)) (places left : List ℕ)
    (tolds : List MetricKey) → ReleasesPlaces first last before now places left tolds
    → (some : List ℕ) → tolds_at last.rows some ≡ tolds_at first.rows some
tolds_after first last before now places left tolds releases some =
    λ i. flat_map (λ place. releases.tolds_stay place i) some

pub outs_after : (first last : Table LeafKey Inner) (before now : List (MetricKey × ℕ)) (places left : List ℕ)
    (tolds : List MetricKey) → ReleasesPlaces first last before now places left tolds
    → (some : List ℕ) → outs_at last.rows some ≡ outs_at first.rows some
outs_after first last before now places left tolds releases some =
    λ i. flat_map (λ place. releases.outs_stay place i) some
