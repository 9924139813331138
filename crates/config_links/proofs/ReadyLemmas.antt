-- What the rules that were judged before leave for metrics: their gauges take few samples, and predicates name
-- predicates that are there.
use Rattle.std.proofs.Common.{◌≡◌, ℕ, zero, suc, ◌<◌, ℤ, pos, negsuc, ◌*◌, ◌≤◌, ◌&&◌, lit≤, nat_lt, nat_le, Bool, true, false, cond, List, [], ◌∷◌, map, length, Option, Some, None, if◌then◌else◌, refl, sym, ap, ◌∙◌, subst, arith}
use Rattle.std.proofs.lemmas.Bool.{leb-true, ltb-true}
use Rattle.std.proofs.lemmas.List.{length-map, get_or_past}
use Rattle.std.proofs.lemmas.List.Elements.{All-from_recursion, All-contains}
use Rattle.std.specs.List.{All, AllByRecursion, Contains, list_any, position_or_len}
use Rattle.std.specs.Option.{option_map, unwrap_or}
use Rattle.std.specs.Ordering.{int_eq}
use Rattle.config_types.specs.declared.predicate.PredicateDef.{PredicateDef}
use Rattle.config_types.specs.declared.predicate.PredicateBody.{PredicateBody}
use Rattle.config_types.specs.declared.predicate.PredicateBody.TheVariants as predicate
use Rattle.config_types.specs.declared.metric.SamplingType.{SamplingType}
use Rattle.config_types.specs.declared.metric.SamplingType.TheVariants.{RandomOne, ChangeToTrue, FirstN}
use Rattle.distinct.specs.Places.{first_place}
use Rattle.link_graph.specs.Links.{children_at, AreInRange}
use Rattle.link_rules.specs.declared.entities.Entities.{Entities}
use Rattle.link_rules.specs.declared.entities.Metric.{Metric}
use Rattle.link_rules.specs.declared.entities.Kind.{Kind}
use Rattle.link_rules.specs.declared.entities.Kind.TheVariants.{Gauge}
use Rattle.link_rules.specs.declared.fault.LinkFault.{LinkFault}
use Rattle.link_rules.specs.declared.known.Ids.{Ids}
use Rattle.link_rules.specs.declared.limits.Limit.TheVariants.{MetricBound, Samples, BucketSamples}
use Rattle.link_rules.specs.EntityLimits.{limit_fault, limits, count_limit, number_limit, default_samples, number_or, samples_by, bound_or_default, samples_limit, samples_of, activations_limit, metric_limit}
use Rattle.link_rules.specs.EntityIds.{no_id_fault, duplicate_id_fault, set_ids, id_of_predicate, matcher_ids, predicate_ids, place_in}
use Rattle.link_rules.specs.EntityNames.{first_unknown, predicates_of_predicate, unknown_predicates, unknown_predicate_fault, unknown_matcher_fault, unknown_state_fault}
use Rattle.link_rules.specs.LinkFaults.{fault, unknown_predicate, predicate_kind}
use Rattle.link_rules.specs.Cycles.{cycle_fault}
use Rattle.link_rules.specs.LinkRules.{rule_fault, id_fault, reference_fault, name_fault, ids_in}
use Rattle.link_rules.proofs.LinkFaultLemmas.{none_of, none_in}
use Rattle.config_links.specs.declared.linked.LPredicate.{LPredicate}
use Rattle.config_links.specs.LinkedForm.{linked_predicate}
use Rattle.config_links.specs.LinkScopes.{named_predicates}
use Rattle.config_links.specs.MetricKinds.{TakesFew}
use Rattle.config_links.specs.Verdict.{predicates_linked}

-- the samples of a gauge within its limits
fits_by : (n : ℕ) (above below : Bool) (found : LinkFault) → nat_le n 100 ≡ below
    → (if above && below then None else Some found) ≡ None → n ≤ 100
fits_by n true true found is h = leb-true n 100 is
fits_by n false below found is h = absurd (cc)
fits_by n true false found is h = absurd (cc)

number_fits : (samples : Option ℤ) → number_limit Samples samples ≡ None
    → number_or default_samples samples ≤ 100
number_fits None h = lit≤ tt
number_fits (Some (negsuc n)) h = lit≤ tt
number_fits (Some (pos n)) h = fits_by n (nat_lt 0 n) (nat_le n 100) _ refl h

samples_fit : (sampling : SamplingType) (samples : Option ℤ) → number_limit Samples samples ≡ None
    → samples_by sampling samples ≤ 100
samples_fit RandomOne samples h = lit≤ tt
samples_fit ChangeToTrue samples h = number_fits samples h
samples_fit FirstN samples h = number_fits samples h

few_by_kind : (kind : Kind) (bound : ℕ) → samples_limit bound kind ≡ None → TakesFew kind
few_by_kind (Gauge gauge) bound h = samples_fit gauge.sampling gauge.max_samples
    (none_of
    (number_limit Samples gauge.max_samples ∷ count_limit BucketSamples (bound * samples_of gauge) ∷ [])
    h).0
few_by_kind _ bound h = tt

-- the limits of a metric, one by one
abbrev pub metric_limits : Metric → List (Option LinkFault)
metric_limits metric =
    number_limit MetricBound metric.sliced.bound
    ∷ samples_limit (bound_or_default metric.sliced.bound) metric.kind
    ∷ activations_limit metric.common.activations
    ∷ []

pub metric_parts : (metric : Metric) → metric_limit metric ≡ None
    → AllByRecursion (λ (limit : Option LinkFault). limit ≡ None) (metric_limits metric)
metric_parts metric h = none_of (metric_limits metric) h

few_of : (metric : Metric) → metric_limit metric ≡ None → TakesFew metric.kind
few_of metric h = few_by_kind metric.kind (bound_or_default metric.sliced.bound)
    (metric_parts metric h).1.0

all_few : (metrics : List Metric) → AllByRecursion (λ metric. metric_limit metric ≡ None) metrics
    → AllByRecursion (λ (metric : Metric). TakesFew metric.kind) metrics
all_few [] h = tt
all_few (metric ∷ metrics) h = (few_of metric h.0, all_few metrics h.1)

-- the limits have no fault
pub no_limit_fault : (entities : Entities) → rule_fault entities ≡ None → limit_fault entities ≡ None
unfolding rule_fault id_fault
no_limit_fault entities h =
    (none_of (limit_fault entities ∷ no_id_fault entities ∷ duplicate_id_fault entities ∷ [])
    (none_of (id_fault entities ∷ reference_fault entities ∷ []) h).0).0

metrics_few : (entities : Entities) → limit_fault entities ≡ None
    → All (λ (metric : Metric). TakesFew metric.kind) entities.metrics
unfolding limit_fault
metrics_few entities h = All-from_recursion (λ (metric : Metric). TakesFew metric.kind) entities.metrics
    (all_few entities.metrics (none_in metric_limit entities.metrics (none_of (limits entities) h).1.1.1.1.1.0))

-- where no rule is broken no gauge takes many samples of a key
pub few_samples : (entities : Entities) → rule_fault entities ≡ None
    → All (λ (metric : Metric). TakesFew metric.kind) entities.metrics
few_samples entities h = metrics_few entities (no_limit_fault entities h)

-- one that is known stands among some
some_known : (id : ℤ) (known : List ℤ) → list_any (int_eq id) known ≡ true → 0 < length known
some_known id [] h = absurd (cc)
some_known id (x ∷ xs) h = omega arith

chosen_within : (place count : ℕ) (found : Bool) → nat_lt place count ≡ found → 0 < count
    → unwrap_or (cond found (Some place) None) 0 < count
chosen_within place count true is some = ltb-true place count is
chosen_within place count false is some = some

-- the place of one that is known
pub place_within : (known : List ℤ) (id : ℤ) → list_any (int_eq id) known ≡ true → place_in known id < length known
unfolding first_place
place_within known id h =
    chosen_within (position_or_len (int_eq id) known) (length known) _ refl (some_known id known h)

module _ (known : List ℤ) (count : ℕ) (few : length known ≤ count) where
  one_within : (id : ℤ) (ids : List ℤ) (there : Bool) → list_any (int_eq id) known ≡ there
      → cond there (first_unknown known (map Some ids)) (Some id) ≡ None
      → (first_unknown known (map Some ids) ≡ None → AllByRecursion (λ place. place < count) (map (place_in known) ids))
      → AllByRecursion (λ place. place < count) (place_in known id ∷ map (place_in known) ids)
  one_within id ids true is h others =
      (let lt : place_in known id < length known = place_within known id is in omega (arith, lt, few), others h)
  one_within id ids false is h others = absurd (cc)

  -- the places of names that are all known
  pub all_within : (ids : List ℤ) → first_unknown known (map Some ids) ≡ None
      → AllByRecursion (λ place. place < count) (map (place_in known) ids)
  all_within [] h = tt
  all_within (id ∷ ids) h = one_within id ids (list_any (int_eq id) known) refl h (all_within ids)

  body_within : (matchers : List ℤ) (def : PredicateDef) (body : Option PredicateBody)
      → first_unknown known (predicates_of_predicate (record def { body = body })) ≡ None
      → AllByRecursion (λ place. place < count)
      (named_predicates (linked_predicate matchers known (record def { body = body })))
  body_within matchers def (Some (predicate.Simple simple)) names = tt
  body_within matchers def (Some (predicate.Combo combo)) names = all_within combo.children names
  body_within matchers def None names = tt

  -- the places that predicates name, where all names are known
  predicates_within : (matchers : List ℤ) (defs : List PredicateDef)
      → AllByRecursion (λ def. first_unknown known (predicates_of_predicate def) ≡ None) defs
      → AllByRecursion (λ (places : List ℕ). AllByRecursion (λ place. place < count) places)
      (map named_predicates (map (linked_predicate matchers known) defs))
  predicates_within matchers [] names = tt
  predicates_within matchers (def ∷ defs) names =
      (body_within matchers def def.body names.0, predicates_within matchers defs names.1)

-- where all that is named is there, so is what a place names
ranged : (links : List (List ℕ)) (count : ℕ)
    → AllByRecursion (λ (places : List ℕ). AllByRecursion (λ place. place < count) places) links
    → (x y : ℕ) → Contains (children_at links x) y → y < count
ranged [] count all x y named =
    All-contains (λ place. place < count) [] y (All-from_recursion (λ place. place < count) [] tt)
    (subst (λ (places : List ℕ). Contains places y) (get_or_past [] x [] (omega arith)) named)
ranged (places ∷ links) count all zero y named =
    All-contains (λ place. place < count) places y (All-from_recursion (λ place. place < count) places all.0) named
ranged (places ∷ links) count all (suc x) y named = ranged links count all.1 x y named

map_none : {A B : Type 0} (f : A → B) (found : Option A) → option_map f found ≡ None → found ≡ None
map_none f None h = refl
map_none f (Some x) h = absurd (cc)

-- there are no more ids than entities
few_ids : (ids : List (Option ℤ)) → length (set_ids ids) ≤ length ids
few_ids [] = omega arith
few_ids (Some id ∷ ids) = let rest = few_ids ids in omega (arith, rest)
few_ids (None ∷ ids) = let rest = few_ids ids in omega (arith, rest)

-- no name of a predicate leads nowhere
no_unknown_predicate : (entities : Entities) → rule_fault entities ≡ None → unknown_predicate_fault entities ≡ None
unfolding rule_fault reference_fault name_fault
no_unknown_predicate entities h =
    let references = (none_of (id_fault entities ∷ reference_fault entities ∷ []) h).1.0 in
    let names = (none_of (name_fault entities ∷ cycle_fault entities ∷ []) references).0 in
    (none_of
    (unknown_matcher_fault entities ∷ unknown_predicate_fault entities ∷ unknown_state_fault entities ∷ [])
    names).1.0

predicates_known : (entities : Entities) → unknown_predicate_fault entities ≡ None
    → AllByRecursion (λ def. first_unknown (predicate_ids entities) (predicates_of_predicate def) ≡ None)
    entities.predicates
unfolding unknown_predicate_fault
predicates_known entities h =
    let kinds = none_of (unknown_predicates (predicate_ids entities) entities) h in
    none_in (λ def. first_unknown (predicate_ids entities) (predicates_of_predicate def)) entities.predicates
    (map_none (fault unknown_predicate predicate_kind) _ kinds.0)

links_within : (entities : Entities) → length (predicate_ids entities) ≤ length (predicates_linked entities)
    → AllByRecursion (λ def. first_unknown (predicate_ids entities) (predicates_of_predicate def) ≡ None)
    entities.predicates
    → AreInRange (map named_predicates (predicates_linked entities))
unfolding predicates_linked
links_within entities few known x y named =
    let all = predicates_within (predicate_ids entities) _ few (matcher_ids entities) entities.predicates known in
    let within = ranged (map named_predicates (predicates_linked entities)) (length (predicates_linked entities)) all
    x y
    named in
    let same : length (map named_predicates (predicates_linked entities)) ≡ length (predicates_linked entities)
    = length-map (predicates_linked entities) named_predicates in
    omega (arith, within, same)

few_predicates : (entities : Entities) → length (predicate_ids entities) ≤ length (predicates_linked entities)
unfolding predicates_linked predicate_ids
few_predicates entities =
    let count = length-map entities.predicates (linked_predicate (matcher_ids entities) (predicate_ids entities)) in
    let few = few_ids (map id_of_predicate entities.predicates) in
    let same = length-map entities.predicates id_of_predicate in
    omega (arith, count, few, same)

-- where no rule is broken predicates name predicates that are there
pub in_range : (entities : Entities) → rule_fault entities ≡ None
    → AreInRange (map named_predicates (predicates_linked entities))
in_range entities h =
    links_within entities (few_predicates entities) (predicates_known entities (no_unknown_predicate entities h))

-- so it is of those that were linked by the ids of all kinds
pub in_range_by : (entities : Entities) (ids : Ids) (given : List LPredicate) → rule_fault entities ≡ None
    → ids ≡ ids_in entities → given ≡ map (linked_predicate ids.matchers ids.predicates) entities.predicates
    → AreInRange (map named_predicates given)
unfolding predicates_linked
in_range_by entities ids given h is same =
    subst (λ (predicates : List LPredicate). AreInRange (map named_predicates predicates))
    (sym (same ∙ ap (λ (all : Ids). map (linked_predicate all.matchers all.predicates) entities.predicates) is))
    (in_range entities h)
