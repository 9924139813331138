-- Which atoms touch a metric. After an atom that doesn't, its condition is as it was, and nothing arrives at it.
use Rattle.std.specs.Prelude.{◌≡◌, ℕ, Bool, false, ◌&&◌, ◌||◌, List, [], ◌∷◌, ◌++◌, length, slice_get, Option, Some, None}
use Rattle.std.specs.List.{list_any, range_with_len}
use Rattle.std.specs.Option.{option_map_or}
use Rattle.config_links.specs.declared.linked.LPredicate.{LPredicate}
use Rattle.config_links.specs.declared.linked.LPredBody.{LPredBody}
use Rattle.config_links.specs.declared.linked.LPredBody.TheVariants.{Simple, Combo}
use Rattle.config_links.specs.declared.linked.LMetric.{LMetric}
use Rattle.config_links.specs.declared.linked.LKind.{LKind}
use Rattle.config_links.specs.declared.linked.LKind.TheVariants.{PulledGauge, SumDuration, MaxSparse}
use Rattle.config_links.specs.MetricLinks.{is_reached}
use Rattle.metric_meaning.specs.Histories.{Step, Installation, truth_at}
use Rattle.metric_meaning.specs.PredicateSteps.{named_truth, tables_after}
use Rattle.metric_meaning.specs.Readings.{LeafReading}
use Rattle.metric_meaning.specs.MetricConditions.{condition_truth}

-- an atom with these truths acts on a simple predicate: a matcher that starts or stops it holds
abbrev pub acts_on : List Bool → LPredicate → Bool
acts_on truths predicate = of_body predicate.body where
  of_body : LPredBody → Bool
  of_body (Simple start stop stop_all dims spec) =
      named_truth stop_all truths || (named_truth stop truths || named_truth start truths)
  of_body (Combo op children) = false

-- it acts on the predicate at a place
abbrev pub acts_at : List LPredicate → List Bool → ℕ → Bool
acts_at predicates truths place = option_map_or (acts_on truths) (slice_get predicates place) false

-- it acts on one that is the predicate at a place, or is reached from it
abbrev pub acts_below : List LPredicate → List Bool → Option ℕ → Bool
acts_below predicates truths from =
    list_any (λ place. is_reached predicates from place && acts_at predicates truths place)
    (range_with_len 0 (length predicates))

-- a matcher holds that the metric itself names: what it counts, or its trigger
abbrev pub names_atom_itself : LMetric → List Bool → Bool
names_atom_itself metric truths = of_kind metric.kind where
  of_kind : LKind → Bool
  of_kind (PulledGauge fields samples mode trigger) = truth_at metric.what truths || named_truth trigger truths
  of_kind (SumDuration spec) = false
  of_kind (MaxSparse spec) = false
  of_kind _ = truth_at metric.what truths

-- the place of the predicate that a duration times
abbrev pub timed_predicate : LMetric → Option ℕ
timed_predicate metric = of_kind metric.kind where
  of_kind : LKind → Option ℕ
  of_kind (SumDuration spec) = Some metric.what
  of_kind (MaxSparse spec) = Some metric.what
  of_kind _ = None

-- an atom with these truths touches a metric: a matcher holds that it names itself, or that starts or stops a predicate
-- that its condition or the time of a duration hangs on
abbrev pub is_touched : List LPredicate → LMetric → List Bool → Bool
is_touched predicates metric truths =
    names_atom_itself metric truths
    || (acts_below predicates truths metric.condition || acts_below predicates truths (timed_predicate metric))

-- a step that doesn't touch a metric leaves the truth of its condition, for whatever is read
abbrev pub ConditionStays : Installation → LMetric → Type 0
ConditionStays installed metric =
    let predicates = installed.linked.predicates in
    (before : List Step) (step : Step) → is_touched predicates metric step.truths ≡ false → (reading : LeafReading)
    → condition_truth predicates (tables_after predicates (before ++ step ∷ [])) metric reading
    ≡ condition_truth predicates (tables_after predicates before) metric reading
