-- A metric is sound where its names are known, its numbers within their limits, and none of its reasons holds.
use Rattle.std.proofs.Common.{◌≡◌, ◌<◌, ◌≤◌, ◌*◌, Bool, true, false, not, ◌&&◌, ◌||◌, ◌==◌, List, [], ◌∷◌, map, length, Option, Some, None, is_none, All, refl, ap, arith}
use Rattle.std.specs.Prelude.{ℤ}
use Rattle.std.specs.Ordering.{int_eq}
use Rattle.std.specs.List.{AllByRecursion, list_all, flat_map}
use Rattle.std.proofs.lemmas.List.Elements.{All-from_recursion}
use Rattle.field_select.specs.declared.leaf.FieldSet.{FieldSet}
use Rattle.link_rules.specs.declared.entities.Metric.{Metric}
use Rattle.link_rules.specs.declared.entities.Kind.{Kind}
use Rattle.link_rules.specs.declared.entities.Kind.TheVariants.{Event, Count, Value, Gauge, Duration}
use Rattle.link_rules.specs.declared.entities.GaugeParts.{GaugeParts}
use Rattle.link_rules.specs.declared.entities.ValueParts.{ValueParts}
use Rattle.link_rules.specs.EntityIds.{place_in}
use Rattle.link_rules.specs.declared.limits.Limit.TheVariants.{MetricBound, Samples, BucketSamples}
use Rattle.link_rules.specs.EntityLimits.{bound_or_default, samples_of, number_limit, count_limit, samples_limit, activations_limit, metric_limit}
use Rattle.link_rules.specs.EntityNames.{first_unknown, matchers_of_activation, matchers_of_metric, predicates_of_metric, states_of_metric, link_condition}
use Rattle.link_rules.proofs.LinkFaultLemmas.{none_of}
use Rattle.config_links.specs.declared.linked.Linked.{Linked}
use Rattle.config_links.specs.declared.linked.LMetric.{LMetric}
use Rattle.config_links.specs.declared.linked.LAlert.{LAlert}
use Rattle.config_links.specs.declared.scope.Scope.{Scope}
use Rattle.config_links.specs.declared.sets.LinkSets.{LinkSets}
use Rattle.config_links.specs.declared.sets.StateLinkSets.{StateLinkSets}
use Rattle.config_links.specs.declared.reasons.Reason.{Reason}
use Rattle.config_links.specs.LinkReasons.{set_or_none, may_stand}
use Rattle.config_links.specs.LinkScopes.{names_pulled}
use Rattle.config_links.specs.MetricTrees.{metric_stands, metric_sets, own_tree, link_stands, sets_of_link}
use Rattle.config_links.specs.MetricLinks.{is_even, is_asked, are_asked, is_bound, linked_link, linked_links, link_reasons, bad_links}
use Rattle.config_links.specs.MetricSlices.{fit_states, fits_state, fit_slices, may_be_sliced, sliced_atoms, linked_slice, is_pulled_kind, time_reasons, bad_times, slice_reasons, bad_slices}
use Rattle.config_links.specs.MetricKinds.{kind_reasons, bad_kind, value_form, gauge_form, duration_form, linked_kind, timed_spec, first_leaf, trigger_place, sampled_fields, may_sample}
use Rattle.config_links.specs.MetricActivations.{activation_reasons, bad_activations}
use Rattle.config_links.specs.LinkMetrics.{what_id, metric_parts, what_place, bucket_size, bucket_bound, bad_rest, bad_metric, linked_metric}
use Rattle.config_links.specs.SoundConfig.{MayBeWithin, IsBound, IsSize, IsPulledAt, IsValueField, IsFilter, AreSamples, IsSoundDuration, IsSoundKind, IsSoundMetric}
use Rattle.config_links.proofs.SoundParts.{holds, left_holds, right_holds, no_test, set_is_sound, bound_fits}
use Rattle.config_links.proofs.SoundNames.{Known, MayBeKnown, may_known, may_be_within, place_below, names_known, is_zero, nothing_found}
use Rattle.config_links.proofs.SoundLinks.{links_sound, links_apart}
use Rattle.config_links.proofs.SoundSlices.{has_sets, slices_sound, slices_apart}
use Rattle.config_links.proofs.SoundActivations.{activations_sound, few_activations, may_be_active}
use Rattle.config_links.proofs.SoundKinds.{size_fits, value_field, filter_sound, samples_fit, product_fits, mode_fits, may_sample_parts, first_or, second_fails, pulled_at, duration_sound}

all_some_known : (known ids : List ℤ) → AllByRecursion (MayBeKnown known) (map Some ids)
    → AllByRecursion (Known known) ids
all_some_known known [] all = tt
all_some_known known (id ∷ ids) all = (all.0, all_some_known known ids all.1)

none_made : {A B : Type 0} (f : A → B) (xs : List A) → (length xs == 0) ≡ true → map f xs ≡ []
none_made f xs h = ap (map f) (is_zero xs h)

module _ (linked : Linked) (metric : LMetric) where
  value_by : (pulled : Bool) (value : ValueParts) (set : FieldSet) → metric.what < length linked.matchers
      → IsSize metric.size
      → IsPulledAt linked.matchers metric.what pulled → IsValueField set.atom_id (first_leaf set.leaves)
      → (pulled ≡ true → metric.links ≡ []) → (pulled ≡ true → metric.slices ≡ [])
      → IsSoundKind linked metric (value_form pulled value set)
  value_by true value set within size at leaf no_links no_slices =
      (within, size, at, leaf, no_links refl, no_slices refl)
  value_by false value set within size at leaf no_links no_slices = (within, size, at, leaf)

  gauge_by : (scope : Scope) (pulled : Bool) (gauge : GaugeParts) (set : FieldSet)
      → metric.what < length linked.matchers → IsSize metric.size
      → IsPulledAt linked.matchers metric.what pulled → IsFilter (sampled_fields gauge set)
      → AreSamples metric.bound (samples_of gauge)
      → MayBeWithin (length linked.matchers) (trigger_place scope gauge)
      → may_sample pulled gauge.sampling gauge.trigger ≡ true
      → (pulled ≡ true → metric.links ≡ []) → metric.slices ≡ []
      → IsSoundKind linked metric (gauge_form scope pulled gauge set)
  gauge_by scope true gauge set within size at fields samples trigger may no_links no_slices = (
    within,
    size,
    at,
    fields,
    samples,
    mode_fits gauge.sampling gauge.trigger (place_in scope.ids.matchers)
        (may_sample_parts gauge.sampling gauge.trigger may),
    trigger,
    no_links refl,
    no_slices,
  )
  gauge_by scope false gauge set within size at fields samples trigger may no_links no_slices =
      (within, size, at, fields, samples, no_slices)

  duration_by : (max_sparse : Bool) (spec : _) → IsSize metric.size → IsSoundDuration linked metric spec
      → (max_sparse ≡ true → metric.slices ≡ []) → IsSoundKind linked metric (duration_form max_sparse spec)
  duration_by true spec size timed no_slices = (size, timed, no_slices refl)
  duration_by false spec size timed no_slices = (size, timed)

module _ (scope : Scope) (metrics : List LMetric) (alerts : List LAlert)
    (some : length scope.ids.matchers ≤ length scope.matchers)
    (many : length scope.ids.predicates ≤ length scope.predicates)
    (several : length scope.ids.states ≤ length scope.states)
    (uid : ℤ) (no_report : List ℤ) where
  -- the configuration with these metrics
  abbrev pub whole : Linked
  whole = record {
    matchers = scope.matchers;
    predicates = scope.predicates;
    states = scope.states;
    metrics = metrics;
    alerts = alerts;
  }

  -- a metric of this kind
  abbrev of_kind : Metric → Kind → Metric
  of_kind def kind = record def { kind = kind }

  abbrev made : Metric → Kind → LMetric
  made def kind = linked_metric scope uid no_report (of_kind def kind)

  -- what a metric's activations name
  abbrev signals : Metric → List (Option ℤ)
  signals def = flat_map matchers_of_activation def.common.activations

  -- a metric of atoms counts what a matcher passes
  what_of_atoms : (def : Metric) → first_unknown scope.ids.matchers (def.common.what ∷ signals def) ≡ None
      → is_none def.common.what ≡ false → Known scope.ids.matchers (what_id def)
  what_of_atoms def starts has =
      may_known scope.ids.matchers def.common.what
      (names_known scope.ids.matchers (def.common.what ∷ signals def) starts).0 has

  -- the matchers that activations name are known
  signals_known : (def : Metric) (kind : Kind)
      → first_unknown scope.ids.matchers (matchers_of_metric (of_kind def kind)) ≡ None
      → AllByRecursion (MayBeKnown scope.ids.matchers) (signals def)
  signals_known def Event names = (names_known scope.ids.matchers (def.common.what ∷ signals def) names).1
  signals_known def (Count overflow) names = (names_known scope.ids.matchers (def.common.what ∷ signals def) names).1
  signals_known def (Value value) names = (names_known scope.ids.matchers (def.common.what ∷ signals def) names).1
  signals_known def (Gauge gauge) names =
      (names_known scope.ids.matchers (def.common.what ∷ gauge.trigger ∷ signals def) names).1.1
  signals_known def (Duration max_sparse) names = names_known scope.ids.matchers (signals def) names

  place_here : (what : ℤ) → Known scope.ids.matchers what → place_in scope.ids.matchers what < length scope.matchers
  place_here what known =
      let below : place_in scope.ids.matchers what < length scope.ids.matchers = place_below (int_eq what)
      scope.ids.matchers known in
      omega (arith, below, some)

  no_links : (def : Metric) (pulled : Bool) → (pulled && not (length def.common.links == 0)) ≡ false → pulled ≡ true
      → linked_links scope def ≡ []
  no_links def pulled test is =
      let none : def.common.links ≡ [] = is_zero def.common.links
      (second_fails pulled (length def.common.links == 0) test is) in
      ap (λ links. map (linked_link scope) (map sets_of_link links)) none

  no_slices : (links : List StateLinkSets) (slices : List ℤ) (may : Bool) → ((length slices == 0) || may) ≡ true → may
      ≡ false
      → map (linked_slice scope links) slices ≡ []
  no_slices links slices may fit is =
      ap (map (linked_slice scope links)) (is_zero slices (first_or (length slices == 0) may fit is))

  kind_sound : (def : Metric) (kind : Kind)
      → first_unknown scope.ids.matchers (matchers_of_metric (of_kind def kind)) ≡ None
      → first_unknown scope.ids.predicates (predicates_of_metric (of_kind def kind)) ≡ None
      → is_none def.common.what ≡ false
      → samples_limit (bound_or_default def.sliced.bound) kind ≡ None
      → may_stand (own_tree kind) ≡ true
      → AllByRecursion (λ (row : Reason × Bool). row.1
      ≡ false) (kind_reasons (is_pulled_kind scope kind (what_id def)) (length def.common.links) kind)
      → AllByRecursion (λ (row : Reason × Bool). row.1 ≡ false)
      (time_reasons scope kind (metric_parts scope def))
      → fit_slices scope kind (what_id def) def.sliced.slices ≡ true
      → IsSoundKind whole (made def kind) (linked_kind scope (what_id def) (bound_or_default def.sliced.bound) kind)
  unfolding linked_kind what_place bucket_size bucket_bound
  kind_sound def Event starts names has limit own tests times fit =
      (place_here (what_id def) (what_of_atoms def starts has), refl, refl, refl)
  kind_sound def (Count overflow) starts names has limit own tests times fit =
      (place_here (what_id def) (what_of_atoms def starts has), size_fits def.sliced.bucket uid)
  kind_sound def (Value value) starts names has limit own tests times fit =
      let known = what_of_atoms def starts has in
      let set = set_or_none value.field in
      value_by whole (made def (Value value)) (names_pulled scope (what_id def)) value set
      (place_here (what_id def) known) (size_fits def.sliced.bucket uid) (pulled_at scope (what_id def) known)
      (value_field set (set_is_sound value.field own) (holds _ tests.0))
      (λ is. no_links def (names_pulled scope (what_id def)) tests.1.1.0 is)
      (λ is. no_slices (metric_sets def).state_links def.sliced.slices (not (names_pulled scope (what_id def)))
      (left_holds ((length def.sliced.slices == 0) || not (names_pulled scope (what_id def))) _ fit) (ap not is))
  kind_sound def (Gauge gauge) starts names has limit own tests times fit =
      let each = names_known scope.ids.matchers (def.common.what ∷ gauge.trigger ∷ signals def) starts in
      let known = may_known scope.ids.matchers def.common.what each.0 has in
      let set = set_or_none gauge.fields in
      let limits = none_of
      (number_limit Samples gauge.max_samples
      ∷ count_limit BucketSamples (bound_or_default def.sliced.bound * samples_of gauge) ∷ []) limit in
      gauge_by whole (made def (Gauge gauge)) scope (names_pulled scope (what_id def)) gauge set
      (place_here (what_id def) known) (size_fits def.sliced.bucket uid) (pulled_at scope (what_id def) known)
      (filter_sound gauge.include_all set (set_is_sound gauge.fields own) (holds _ tests.1.1.1.0))
      (record { few = samples_fit gauge.sampling gauge.max_samples limits.0; product = product_fits _ limits.1.0 })
      (may_be_within scope.ids.matchers (length scope.matchers) some gauge.trigger each.1.0)
      (holds _ tests.1.1.1.1.0)
      (λ is. no_links def (names_pulled scope (what_id def)) tests.1.1.0 is) refl
  kind_sound def (Duration max_sparse) starts names has limit own tests times fit =
      let each = names_known scope.ids.predicates (predicates_of_metric (of_kind def (Duration max_sparse))) names in
      let known = may_known scope.ids.predicates def.common.what each.0 has in
      duration_by whole (made def (Duration max_sparse)) max_sparse
      (timed_spec scope (what_id def) (bound_or_default def.sliced.bound))
      (size_fits def.sliced.bucket uid)
      (duration_sound scope (what_id def) whole (made def (Duration max_sparse)) (bound_or_default def.sliced.bound)
      (metric_sets def).state_links def.sliced.slices known many refl refl refl refl
      (holds _ times.0) (holds _ times.1.0))
      (λ is. no_slices (metric_sets def).state_links def.sliced.slices (not max_sparse)
      (left_holds ((length def.sliced.slices == 0) || not max_sparse) _ fit) (ap not is))

  -- the conditions of a metric and of its links are known
  conditions_known : (def : Metric) (kind : Kind)
      → first_unknown scope.ids.predicates (predicates_of_metric (of_kind def kind)) ≡ None
      → AllByRecursion (MayBeKnown scope.ids.predicates) (def.common.condition ∷ map link_condition def.common.links)
  conditions_known def Event names = names_known scope.ids.predicates
      (def.common.condition ∷ map link_condition def.common.links) names
  conditions_known def (Count overflow) names = names_known scope.ids.predicates
      (def.common.condition ∷ map link_condition def.common.links) names
  conditions_known def (Value value) names = names_known scope.ids.predicates
      (def.common.condition ∷ map link_condition def.common.links) names
  conditions_known def (Gauge gauge) names = names_known scope.ids.predicates
      (def.common.condition ∷ map link_condition def.common.links) names
  conditions_known def (Duration max_sparse) names =
      (names_known scope.ids.predicates (def.common.what ∷ def.common.condition ∷ map link_condition def.common.links)
      names).1

  bound_by : (def : Metric) (kind : Kind) → number_limit MetricBound def.sliced.bound ≡ None
      → IsBound (bucket_bound kind def.sliced.bound)
  unfolding bucket_bound
  bound_by def Event within = (omega arith, omega arith)
  bound_by def (Count overflow) within = bound_fits MetricBound refl def.sliced.bound within
  bound_by def (Value value) within = bound_fits MetricBound refl def.sliced.bound within
  bound_by def (Gauge gauge) within = bound_fits MetricBound refl def.sliced.bound within
  bound_by def (Duration max_sparse) within = bound_fits MetricBound refl def.sliced.bound within

  link_tests : (def : Metric) → bad_links scope def ≡ None
      → AllByRecursion (λ (row : Reason × Bool). row.1 ≡ false) (link_reasons scope def)
  unfolding bad_links
  link_tests def none = no_test def.common.id (link_reasons scope def) none

  rest_parts : (def : Metric) → bad_rest scope def (metric_parts scope def) ≡ None
      → AllByRecursion (λ (row : Reason × Bool). row.1 ≡ false)
      (time_reasons scope def.kind (metric_parts scope def))
      × AllByRecursion (λ (row : Reason × Bool). row.1 ≡ false) (slice_reasons scope def (metric_parts scope def))
      × AllByRecursion (λ (row : Reason × Bool). row.1 ≡ false)
      (kind_reasons (is_pulled_kind scope def.kind (what_id def)) (length def.common.links) def.kind)
      × AllByRecursion (λ (row : Reason × Bool). row.1 ≡ false)
      (activation_reasons (is_pulled_kind scope def.kind (what_id def)) def.common.activations)
  unfolding bad_rest bad_times bad_slices bad_kind bad_activations
  rest_parts def none =
      let parts = none_of
      (bad_times scope def (metric_parts scope def)
      ∷ bad_slices scope def (metric_parts scope def)
      ∷ bad_kind def.common (is_pulled_kind scope def.kind (what_id def)) def.kind
      ∷ bad_activations def.common (is_pulled_kind scope def.kind (what_id def))
      ∷ []) none in (
        no_test def.common.id (time_reasons scope def.kind (metric_parts scope def)) parts.0,
        no_test def.common.id (slice_reasons scope def (metric_parts scope def)) parts.1.0,
        no_test def.common.id (kind_reasons (is_pulled_kind scope def.kind (what_id def)) (length def.common.links)
            def.kind) parts.1.1.0,
        no_test def.common.id (activation_reasons (is_pulled_kind scope def.kind (what_id def))
            def.common.activations) parts.1.1.1.0,
      )

  -- a metric whose names are known, whose numbers are within their limits, and of which no reason holds
  pub metric_sound : (def : Metric)
      → first_unknown scope.ids.matchers (matchers_of_metric def) ≡ None
      → first_unknown scope.ids.predicates (predicates_of_metric def) ≡ None
      → first_unknown scope.ids.states (states_of_metric def) ≡ None
      → metric_limit def ≡ None
      → bad_metric scope def ≡ None
      → IsSoundMetric whole (linked_metric scope uid no_report def)
  metric_sound def starts names states limit good =
      let parts = none_of (bad_links scope def ∷ bad_rest scope def (metric_parts scope def) ∷ []) good in
      let tests = link_tests def parts.0 in
      let rest = rest_parts def parts.1.0 in
      let limits = none_of
      (number_limit MetricBound def.sliced.bound ∷ samples_limit (bound_or_default def.sliced.bound) def.kind
      ∷ activations_limit def.common.activations ∷ [])
      limit in
      let matchers = scope.ids.matchers in
      let defs = def.common.activations in
      let sets = (metric_sets def).links in
      let state_sets = (metric_sets def).state_links in
      let stands : metric_stands def ≡ true = holds (metric_stands def) tests.0 in
      let dims_stand = left_holds (may_stand def.sliced.dims) _ stands in
      let stands_1 = right_holds (may_stand def.sliced.dims) _ stands in
      let own = left_holds (may_stand (own_tree def.kind)) _ stands_1 in
      let stands_2 = right_holds (may_stand (own_tree def.kind)) _ stands_1 in
      let links_stand = left_holds (list_all link_stands def.common.links) _ stands_2 in
      let states_stand = right_holds (list_all link_stands def.common.links) _ stands_2 in
      let even = holds (list_all is_even sets) tests.1.0 in
      let asked = holds (are_asked scope def.common.condition sets) tests.1.1.0 in
      let each_asked = left_holds (list_all (λ (s : LinkSets). is_asked scope def.common.condition s.condition) sets)
      _ asked in
      let once = right_holds (list_all (λ (s : LinkSets). is_asked scope def.common.condition s.condition) sets) _
      asked in
      let bound = holds (list_all (is_bound scope) sets) tests.1.1.1.0 in
      let conditions = conditions_known def def.kind names in
      let fit = holds (fit_states (sliced_atoms scope def.sliced.slices) state_sets) rest.1.0 in
      let slices = holds (fit_slices scope def.kind (what_id def) def.sliced.slices) rest.1.1.0 in
      let each_fits = left_holds (list_all (fits_state (sliced_atoms scope def.sliced.slices)) state_sets) _ fit in
      let no_two = right_holds ((length def.sliced.slices == 0) || may_be_sliced scope def.kind (what_id def)) _
      slices in
      let known_states = all_some_known scope.ids.states def.sliced.slices
      (names_known scope.ids.states (states_of_metric def) states) in
      let has_set = has_sets def.sliced.state_links (sliced_atoms scope def.sliced.slices) states_stand each_fits in
      record {
        condition = may_be_within scope.ids.predicates (length scope.predicates) many def.common.condition conditions.0;
        links = links_sound scope many def.common.condition def.common.links conditions.1 links_stand even each_asked
            bound;
        apart = links_apart scope many def.common.condition def.common.links conditions.1 each_asked
            (nothing_found _ once);
        dims = set_is_sound def.sliced.dims dims_stand;
        bound = bound_by def def.kind limits.0;
        slices = slices_sound scope several state_sets def.kind def.sliced.slices known_states has_set;
        atoms = slices_apart scope several state_sets def.kind def.sliced.slices known_states (nothing_found _ no_two);
        kind = kind_sound def def.kind starts names tests.1.1.1.1.0 limits.1.0 own rest.2 rest.0 slices;
        few_activations = few_activations matchers defs def.kind limits.1.1.0;
        activations = activations_sound matchers (length scope.matchers) some def.kind defs
            (signals_known def def.kind starts) rest.3.0 limits.1.1.0;
        active = may_be_active matchers defs scope def.kind (what_id def) (bound_or_default def.sliced.bound)
            rest.3.1.0;
      }

  metrics_by : (defs : List Metric)
      → AllByRecursion (λ def. first_unknown scope.ids.matchers (matchers_of_metric def) ≡ None) defs
      → AllByRecursion (λ def. first_unknown scope.ids.predicates (predicates_of_metric def) ≡ None) defs
      → AllByRecursion (λ def. first_unknown scope.ids.states (states_of_metric def) ≡ None) defs
      → AllByRecursion (λ def. metric_limit def ≡ None) defs
      → AllByRecursion (λ def. bad_metric scope def ≡ None) defs
      → AllByRecursion (IsSoundMetric whole) (map (linked_metric scope uid no_report) defs)
  metrics_by [] starts names states limit good = tt
  metrics_by (def ∷ defs) starts names states limit good = (
    metric_sound def starts.0 names.0 states.0 limit.0 good.0,
    metrics_by defs starts.1 names.1 states.1 limit.1
        good.1,
  )

  pub metrics_sound : (defs : List Metric)
      → AllByRecursion (λ def. first_unknown scope.ids.matchers (matchers_of_metric def) ≡ None) defs
      → AllByRecursion (λ def. first_unknown scope.ids.predicates (predicates_of_metric def) ≡ None) defs
      → AllByRecursion (λ def. first_unknown scope.ids.states (states_of_metric def) ≡ None) defs
      → AllByRecursion (λ def. metric_limit def ≡ None) defs
      → AllByRecursion (λ def. bad_metric scope def ≡ None) defs
      → All (IsSoundMetric whole) (map (linked_metric scope uid no_report) defs)
  metrics_sound defs starts names states limit good =
      All-from_recursion (IsSoundMetric whole) (map (linked_metric scope uid no_report) defs)
      (metrics_by defs starts names states limit good)
