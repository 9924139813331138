-- Rows are taken into the tally, and keys out of it, one at a time.
use Rattle.std.proofs.Common.{◌≡◌, ℕ, zero, suc, ◌+◌, ◌==◌, Bool, true, false, not, ◌||◌, nat_lt, if◌then◌else◌, List, [], ◌∷◌, ◌++◌, length, slice_get, Option, Some, None, ◌⊎◌, inl, inr, IsPermutation, refl, sym, ap, subst, ◌∙◌, arith, ⊎_elim}
use Rattle.std.specs.List.{flat_map}
use Rattle.std.specs.Map.{values_of}
use Rattle.std.proofs.lemmas.Bool.{cases_Bool}
use Rattle.std.proofs.lemmas.List.Sorted.{list_any-IsPermutation}
use Rattle.std.proofs.lemmas.Option.{none-some, same_Some}
use Rattle.atom_record.specs.declared.value.MetricKey.{MetricKey}
use Rattle.dim_table.specs.Table.{Table, set_value_at}
use Rattle.predicate_state.specs.declared.truth.Truth.{Truth}
use Rattle.predicate_state.specs.declared.truth.Truth.TheVariants.{False, Unknown, True}
use Rattle.predicate_state.specs.PredicateTable.{LeafKey}
use Rattle.duration_metric.specs.declared.inner.Known.{Known}
use Rattle.duration_metric.specs.declared.inner.Inner.{Inner}
use Rattle.duration_metric.specs.SumCalls.{while_true, known_out}
use Rattle.duration_metric.specs.Tallies.{out_for, row_out, one, how_often, tally_at, is_counted, Raises, Lowers, known_key, freed_key, tallied_key, row_tallied, was_touched, AreSteady, IsOff}
use Rattle.duration_metric.specs.SumSteps.{with_begun, CountsAt, Recounts}
use Rattle.duration_metric.proofs.InnerLemmas.{counts-same, known-set}
use Rattle.duration_metric.proofs.TallyLemmas.{tallied-set, after_set}

-- the value of the row at a place
pub value_there : (rows : List (LeafKey × Inner)) (place : ℕ) (row : LeafKey × Inner) → slice_get rows place ≡ Some row
    → slice_get (values_of rows) place ≡ Some row.1
value_there [] place row at = absurd (none-some row at)
value_there (first ∷ rows) zero row at = ap (λ (r : LeafKey × Inner). Some r.1) (same_Some first row at)
value_there (first ∷ rows) (suc place) row at = value_there rows place row at

-- whether a row is in the tally says nothing of what it counts for
pub outs-set : (rows : List (LeafKey × Inner)) (place : ℕ) (was : Inner) (flag : Bool)
    → slice_get (values_of rows) place ≡ Some was
    → flat_map row_out (set_value_at rows place (record was { tallied = flag })) ≡ flat_map row_out rows
outs-set [] place was flag at = refl
outs-set (row ∷ rows) zero was flag at =
    ap (λ (i : Inner). row_out (row.0, i) ++ flat_map row_out rows) (sym (same_Some row.1 was at))
outs-set (row ∷ rows) (suc place) was flag at = ap (λ l. row_out row ++ l) (outs-set rows place was flag at)

-- what an inner key counts for was told of it
told_out : (on : Bool) (known : Option Known) (key : MetricKey) → (if on then known_out known else []) ≡ key ∷ []
    → known_key known ≡ key ∷ []
told_out on None key is = none_one on is where
  none_one : (b : Bool) → (if b then known_out None else []) ≡ key ∷ [] → known_key None ≡ key ∷ []
  none_one true e = e
  none_one false e = e
told_out false (Some known) key is = absurd (omega (arith, ap length is))
told_out true (Some known) key is = by known.truth is where
  by : (truth : Truth) → while_true truth known.out ≡ key ∷ [] → known.out ∷ [] ≡ key ∷ []
  by True e = e
  by Unknown e = absurd (omega (arith, ap length e))
  by False e = absurd (omega (arith, ap length e))

-- a place that wasn't looked at
pub looked_past : (place at : ℕ) (rest : List ℕ) → ¬ (at ≡ place) → was_touched rest at ≡ false
    → was_touched (place ∷ rest) at ≡ false
looked_past place at rest differs free =
    let other : (place == at) ≡ false = grind (arith, differs) in
    ap (λ b. b || was_touched rest at) other ∙ free

-- an inner key that is in the tally counts for the key for which it is in it, or for none
pub tallied_row : (row : LeafKey × Inner) → row.1.tallied ≡ true → (row_tallied row ≡ row_out row) ⊎ IsOff row
tallied_row row on = ⊎_elim
    (λ (same : known_key row.1.known ≡ row_out row). inl (ap (λ b. freed_key b row.1.known) on ∙ same))
    (λ (none : row_out row ≡ []). inr (on, none))
    (by (nat_lt 0 row.1.count) row.1.known) where
      by_truth : (out : MetricKey) (truth : Truth)
          → (out ∷ [] ≡ while_true truth out) ⊎ (while_true truth out ≡ [])
      by_truth out True = inl refl
      by_truth out Unknown = inr refl
      by_truth out False = inr refl

      by : (is_on : Bool) (known : Option Known)
          → (known_key known ≡ (if is_on then known_out known else [])) ⊎ ((if is_on then known_out known else []) ≡ [])
      by false known = inr refl
      by true None = inr refl
      by true (Some known) = by_truth known.out known.truth

module _ (first mid last : Table LeafKey Inner) (before some now : List (MetricKey × ℕ)) (places rest : List ℕ)
    (place : ℕ) (so_far : Recounts first mid before some places (place ∷ rest)) where
  -- nothing is to be taken into the tally
  stays : ((row : LeafKey × Inner) → slice_get mid.rows place ≡ Some row
      → (row.1.tallied ≡ true) ⊎ ((row.1.tallied ≡ false) × (row_out row ≡ [])))
      → Recounts first mid before some places rest
  stays sure = record {
    bound_is = so_far.bound_is;
    dropped_is = so_far.dropped_is;
    counts_are = so_far.counts_are;
    known_are = so_far.known_are;
    outs_are = so_far.outs_are;
    tally_is = so_far.tally_is;
    grows = so_far.grows;
    steady = so_far.steady;
    looked = λ all at row there free.
        let was = so_far.looked all at row there in
        ⊎_elim
        (λ (same : (place == at) ≡ true).
        let here : at ≡ place = grind (arith, same) in
        ⊎_elim
        (λ (on : row.1.tallied ≡ true). tallied_row row on)
        (λ (off : (row.1.tallied ≡ false) × (row_out row ≡ [])).
        inl (ap (λ b. freed_key b row.1.known) off.0 ∙ sym off.1))
        (sure row (subst (λ p. slice_get mid.rows p ≡ Some row) here there)))
        (λ (differs : (place == at) ≡ false). was (ap (λ b. b || was_touched rest at) differs ∙ free))
        (cases_Bool (place == at));
  }

  -- a row is
  taken : (row : LeafKey × Inner) (key : MetricKey) → slice_get mid.rows place ≡ Some row → row.1.tallied ≡ false
      → row_out row ≡ key ∷ [] → Raises some now key
      → last ≡ record mid { rows = set_value_at mid.rows place (record row.1 { tallied = true }) }
      → Recounts first last before now places rest
  taken row key there off out raises is =
      let fresh : Inner = record row.1 { tallied = true } in
      let at = value_there mid.rows place row there in
      let told = told_out (nat_lt 0 row.1.count) row.1.known key out in
      let own : (that : LeafKey × Inner) → that.1 ≡ fresh → row_tallied that ≡ row_out that =
      λ that same. ap tallied_key same ∙ told ∙ sym out ∙ sym (ap (λ (i : Inner). out_for i.count i.known) same) in
      subst (λ (t : Table LeafKey Inner). Recounts first t before now places rest) (sym is) (record {
        bound_is = so_far.bound_is;
        dropped_is = so_far.dropped_is;
        counts_are = counts-same mid.rows place row.1 fresh at refl ∙ so_far.counts_are;
        known_are = λ known all. known-set known mid.rows place row.1 fresh at refl (so_far.known_are known all);
        outs_are = outs-set mid.rows place row.1 true at ∙ so_far.outs_are;
        tally_is = λ gone all other.
            let was = so_far.tally_is gone all other in
            let writes = tallied-set other mid.rows place row.1 fresh at in
            let none = ap (λ b. how_often other (freed_key b row.1.known)) off in
            let more = ap (how_often other) told in
            omega (arith, was, writes, none, more, raises other);
        grows = λ other. omega (arith, so_far.grows other, raises other);
        steady = λ touched all other that found free. ⊎_elim
            (λ (here : (other ≡ place) × (that.1 ≡ fresh)). own that here.1)
            (λ (apart : (¬ (other ≡ place)) × (slice_get mid.rows other ≡ Some that)).
            so_far.steady touched all other that apart.1 free)
            (after_set mid.rows place other fresh that found);
        looked = λ all other that found free. ⊎_elim
            (λ (here : (other ≡ place) × (that.1 ≡ fresh)). inl (own that here.1))
            (λ (apart : (¬ (other ≡ place)) × (slice_get mid.rows other ≡ Some that)).
            so_far.looked all other that apart.1 (looked_past place other rest apart.0 free))
            (after_set mid.rows place other fresh that found);
      })

  -- one place more was looked at
  pub recounts_more : (some_began began : List ℕ) → CountsAt mid last some now some_began began place
      → Recounts first last before now places rest
  recounts_more some_began began one = ⊎_elim
      (λ (same : (last ≡ mid) × (now ≡ some) × (began ≡ some_began)
      × ((row : LeafKey × Inner) → slice_get mid.rows place ≡ Some row
      → (row.1.tallied ≡ true) ⊎ ((row.1.tallied ≡ false) × (row_out row ≡ [])))).
      subst (λ (t : Table LeafKey Inner). Recounts first t before now places rest) (sym same.0)
      (subst (λ t. Recounts first mid before t places rest) (sym same.1) (stays same.3)))
      (λ (more : (row : LeafKey × Inner) × (key : MetricKey) × (slice_get mid.rows place ≡ Some row)
      × (row.1.tallied ≡ false) × (row_out row ≡ key ∷ []) × Raises some now key
      × (began ≡ with_begun some_began (not (is_counted some key)) place)
      × (last ≡ record mid { rows = set_value_at mid.rows place (record row.1 { tallied = true }) })).
      taken more.0 more.1 more.2 more.3 more.4 more.5 more.7)
      one

-- the places in another order
pub steady_sorted : (one other : List ℕ) (rows : List (LeafKey × Inner)) → IsPermutation one other
    → AreSteady one rows → AreSteady other rows
steady_sorted one other rows same steady at row there free =
    steady at row there (list_any-IsPermutation (λ place. place == at) one other same ∙ free)

-- before any place
pub recounts_none : (it : Table LeafKey Inner) (tally : List (MetricKey × ℕ)) (places : List ℕ)
    → Recounts it it tally tally places places
recounts_none it tally places = record {
  bound_is = refl;
  dropped_is = refl;
  counts_are = refl;
  known_are = λ known all. all;
  outs_are = refl;
  tally_is = λ gone all. all;
  grows = λ key. omega arith;
  steady = λ touched all. all;
  looked = λ all. all;
}

-- one key more was taken out
pub lowers_more : (old new : List (MetricKey × ℕ)) (key : MetricKey) (keys : List MetricKey) (rest : MetricKey → ℕ)
    → ((other : MetricKey) → tally_at old other ≡ rest other + how_often other (key ∷ keys)) → Lowers old new key
    → (other : MetricKey) → tally_at new other ≡ rest other + how_often other keys
lowers_more old new key keys rest so_far lowers other = omega (arith, so_far other, lowers other)
