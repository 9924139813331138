-- An alert is sound where its metric is known, its numbers are within their limits, and none of its reasons holds.
use Rattle.std.proofs.Common.{◌≡◌, ℕ, zero, suc, ◌<◌, ◌≤◌, true, false, ◌||◌, List, [], ◌∷◌, map, length, get_or, Option, Some, None, is_none, slice_get, All, refl, sym, ap, ◌∙◌, subst, arith}
use Rattle.std.specs.Prelude.{ℤ, pos, negsuc}
use Rattle.std.specs.Ordering.{int_eq}
use Rattle.std.specs.Option.{option_map, option_and_then, unwrap_or}
use Rattle.std.specs.List.{AllByRecursion}
use Rattle.std.proofs.lemmas.Bool.{leb-true}
use Rattle.std.proofs.lemmas.List.Elements.{All-from_recursion}
use Rattle.std.proofs.lemmas.Option.{slice_get-map, slice_get_within, get_or_from_slice_get}
use Rattle.config_types.specs.declared.alert.AlertDef.{AlertDef}
use Rattle.config_types.specs.AlertSpecs.{most_parts, most_threshold, refractory_seconds}
use Rattle.field_select.specs.WellFormed.{number_or_zero}
use Rattle.link_rules.specs.declared.entities.Metric.{Metric}
use Rattle.link_rules.specs.declared.entities.Kind.{Kind}
use Rattle.link_rules.specs.declared.entities.Kind.TheVariants.{Event, Count, Value, Gauge, Duration}
use Rattle.link_rules.specs.declared.limits.Limit.TheVariants.{Parts, Threshold, Refractory}
use Rattle.link_rules.specs.EntityIds.{place_in}
use Rattle.link_rules.specs.EntityLimits.{bound_or_default, number_limit, amount_limit, alert_limit}
use Rattle.link_rules.specs.EntityNames.{first_unknown, metrics_of_alert}
use Rattle.link_rules.proofs.LinkFaultLemmas.{none_of}
use Rattle.config_links.specs.declared.linked.LMetric.{LMetric}
use Rattle.config_links.specs.declared.scope.Scope.{Scope}
use Rattle.config_links.specs.LinkAlerts.{metric_named, watched, counts_atoms, counts_none, alert_reasons, bad_alert, bound_of, linked_alert}
use Rattle.config_links.specs.MetricKinds.{linked_kind}
use Rattle.config_links.specs.LinkMetrics.{bucket_bound, linked_metric}
use Rattle.config_links.specs.SoundConfig.{IsFromOne, IsBound, MayBeWatched, IsSoundAlert}
use Rattle.config_links.proofs.SoundParts.{limit_step, number_from_one, no_test, holds}
use Rattle.config_links.proofs.SoundNames.{Known, names_known, led_to, place_below}
use Rattle.config_links.proofs.SoundActivations.{first_of_neither, second_of_neither}

-- what stands at a place that is there
there : {A : Type 0} (xs : List A) (place : ℕ) → place < length xs → (x : A) × (slice_get xs place ≡ Some x)
there [] place within = absurd (omega (arith, within))
there (x ∷ xs) zero within = (x, refl)
there (x ∷ xs) (suc place) within = there xs place (omega (arith, within))

-- the parts of an alert that names some
parts_fit : (parts : Option ℤ) → is_none parts ≡ false → number_limit Parts parts ≡ None
    → IsFromOne most_parts (number_or_zero parts)
parts_fit None has h = absurd (cc)
parts_fit (Some (negsuc n)) has h = absurd (cc)
parts_fit (Some (pos n)) has h = number_from_one most_parts (Some (pos n)) (limit_step _ _ h)

threshold_fits : (threshold : Option ℤ) → amount_limit Threshold threshold ≡ None
    → number_or_zero threshold ≤ most_threshold
threshold_fits None h = leb-true 0 most_threshold refl
threshold_fits (Some (negsuc n)) h = leb-true 0 most_threshold refl
threshold_fits (Some (pos n)) h = leb-true n most_threshold (limit_step _ _ h)

pub refractory_fits : (refractory : Option ℤ) → amount_limit Refractory refractory ≡ None
    → number_or_zero refractory ≤ refractory_seconds
refractory_fits None h = leb-true 0 refractory_seconds refl
refractory_fits (Some (negsuc n)) h = leb-true 0 refractory_seconds refl
refractory_fits (Some (pos n)) h = leb-true n refractory_seconds (limit_step _ _ h)

-- what was linked of a metric that counts counts
still_counts : (scope : Scope) (what : ℤ) (bound : ℕ) (kind : Kind) → counts_atoms kind ≡ true
    → MayBeWatched (linked_kind scope what bound kind)
unfolding linked_kind
still_counts scope what bound Event counts = absurd (cc)
still_counts scope what bound (Count overflow) counts = tt
still_counts scope what bound (Value value) counts = absurd (cc)
still_counts scope what bound (Gauge gauge) counts = absurd (cc)
still_counts scope what bound (Duration max_sparse) counts = absurd (cc)

-- and its bound is the one that the metric names
same_bound : (kind : Kind) (bound : Option ℤ) → counts_atoms kind ≡ true
    → bound_or_default bound ≡ bucket_bound kind bound
unfolding bucket_bound
same_bound Event bound counts = absurd (cc)
same_bound (Count overflow) bound counts = refl
same_bound (Value value) bound counts = absurd (cc)
same_bound (Gauge gauge) bound counts = absurd (cc)
same_bound (Duration max_sparse) bound counts = absurd (cc)

module _ (scope : Scope) (uid : ℤ) (no_report known : List ℤ) (metrics : List Metric)
    (few : length known ≤ length metrics)
    (bounds : All (λ (metric : LMetric). IsBound metric.bound) (map (linked_metric scope uid no_report) metrics)) where
  abbrev made : List LMetric
  made = map (linked_metric scope uid no_report) metrics

  -- an alert on a metric of this id, which stands at this place
  sound_on : (def : AlertDef) (id : ℤ) → def.metric ≡ Some id → Known known id
      → (metric : Metric) → slice_get metrics (place_in known id) ≡ Some metric
      → counts_none (Some metric) ≡ false → is_none def.parts ≡ false → alert_limit def ≡ None
      → IsSoundAlert made (linked_alert known metrics def)
  sound_on def id names is metric at counts has within =
      let place = place_in known id in
      let watches : watched known metrics def ≡ Some metric =
      ap (option_and_then (metric_named known metrics)) names ∙ led_to metrics known id is ∙ at in
      let here : (linked_alert known metrics def).metric ≡ place =
      ap (λ (name : Option ℤ). place_in known (unwrap_or name (pos 0))) names in
      let counted : counts_atoms metric.kind ≡ true = holds (counts_atoms metric.kind) counts in
      let linked = linked_metric scope uid no_report metric in
      let linked_at : slice_get made place ≡ Some linked =
      slice_get-map (linked_metric scope uid no_report) metrics place
      ∙ ap (option_map (linked_metric scope uid no_report)) at in
      let inside : place < length made = slice_get_within made place linked linked_at in
      let own_bound : bound_of (watched known metrics def) ≡ linked.bound =
      ap bound_of watches ∙ same_bound metric.kind metric.sliced.bound counted in
      let in_bounds : IsBound linked.bound =
      subst (λ (m : LMetric). IsBound m.bound) (get_or_from_slice_get made place linked linked linked_at)
      (bounds place linked inside) in
      let limits = none_of
      (number_limit Parts def.parts ∷ amount_limit Threshold def.threshold ∷ amount_limit Refractory def.refractory
      ∷ []) within in
      let parts = parts_fit def.parts has limits.0 in
      let seconds : number_or_zero def.refractory ≤ 1000000 = refractory_fits def.refractory limits.1.1.0 in
      record {
        within = subst (λ (at : ℕ). at < length made) (sym here) inside;
        watched = linked;
        is = ap (slice_get made) here ∙ linked_at;
        counts = still_counts scope _ _ metric.kind counted;
        bound = own_bound;
        spec = record {
          least_bound = omega (arith, own_bound, in_bounds.0);
          most_bound = omega (arith, own_bound, in_bounds.1);
          least_parts = parts.0;
          few_parts = parts.1;
          threshold = threshold_fits def.threshold limits.1.0;
          refractory = omega (arith, seconds);
        };
      }

  sound_by : (def : AlertDef) (name : Option ℤ) → def.metric ≡ name
      → first_unknown known (name ∷ []) ≡ None → is_none name ≡ false → is_none def.parts ≡ false
      → counts_none (watched known metrics def) ≡ false → alert_limit def ≡ None
      → IsSoundAlert made (linked_alert known metrics def)
  sound_by def None names known_name has has_parts counts within = absurd (cc)
  sound_by def (Some id) names known_name has has_parts counts within =
      let is : Known known id = (names_known known (Some id ∷ []) known_name).0 in
      let below : place_in known id < length known = place_below (int_eq id) known is in
      let found = there metrics (place_in known id) (omega (arith, below, few)) in
      let watches : watched known metrics def ≡ Some found.0 =
      ap (option_and_then (metric_named known metrics)) names ∙ led_to metrics known id is ∙ found.1 in
      sound_on def id names is found.0 found.1
      (subst (λ (metric : Option Metric). counts_none metric ≡ false) watches counts) has_parts within

  alert_sound : (def : AlertDef) → first_unknown known (metrics_of_alert def) ≡ None → alert_limit def ≡ None
      → bad_alert known metrics def ≡ None → IsSoundAlert made (linked_alert known metrics def)
  alert_sound def names within good =
      let tests = no_test def.id (alert_reasons known metrics def) good in
      let has = first_of_neither (is_none def.metric) (is_none def.threshold || is_none def.parts) tests.0 in
      let more = second_of_neither (is_none def.metric) (is_none def.threshold || is_none def.parts) tests.0 in
      sound_by def def.metric refl names has (second_of_neither (is_none def.threshold) (is_none def.parts) more)
      tests.1.0 within

  alerts_by : (defs : List AlertDef)
      → AllByRecursion (λ def. first_unknown known (metrics_of_alert def) ≡ None) defs
      → AllByRecursion (λ def. alert_limit def ≡ None) defs
      → AllByRecursion (λ def. bad_alert known metrics def ≡ None) defs
      → AllByRecursion (IsSoundAlert made) (map (linked_alert known metrics) defs)
  alerts_by [] names within good = tt
  alerts_by (def ∷ defs) names within good =
      (alert_sound def names.0 within.0 good.0, alerts_by defs names.1 within.1 good.1)

  -- alerts whose metrics are known, whose numbers are within their limits, and of which no reason holds
  pub alerts_sound : (defs : List AlertDef)
      → AllByRecursion (λ def. first_unknown known (metrics_of_alert def) ≡ None) defs
      → AllByRecursion (λ def. alert_limit def ≡ None) defs
      → AllByRecursion (λ def. bad_alert known metrics def ≡ None) defs
      → All (IsSoundAlert made) (map (linked_alert known metrics) defs)
  alerts_sound defs names within good =
      All-from_recursion (IsSoundAlert made) (map (linked_alert known metrics) defs) (alerts_by defs names within good)
