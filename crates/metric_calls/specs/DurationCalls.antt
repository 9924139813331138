-- What metrics of durations ask of their producers: those that sum them and those that show the longest, alike.
use Rattle.std.specs.Prelude.{◌≡◌, ℕ, ◌+◌, Bool, true, false, List, [], ◌∷◌, ◌++◌, length, Option, Some, None, slice_get, is_some, if◌then◌else◌}
use Rattle.std.specs.Map.{keys_of}
use Rattle.atom_record.specs.declared.atom.Atom.{Atom}
use Rattle.atom_record.specs.declared.value.MetricKey.{MetricKey}
use Rattle.bucket_meaning.specs.Ends.{Moment}
use Rattle.bucket_meaning.specs.Guard.{is_among}
use Rattle.config_types.specs.declared.parameters.PredSpec.{PredSpec}
use Rattle.config_links.specs.declared.linked.LMetric.{LMetric}
use Rattle.config_links.specs.declared.linked.LPredicate.{LPredicate}
use Rattle.predicate_state.specs.declared.truth.Truth.{Truth}
use Rattle.predicate_state.specs.declared.truth.Truth.TheVariants.{False, True}
use Rattle.predicate_state.specs.PredicateStates.{KeyEvent}
use Rattle.predicate_state.specs.PredicateTable.{LeafKey, same_leaves}
use Rattle.metric_producer.specs.Calls.{Call, Learned}
use Rattle.metric_producer.specs.LaneCalls.{LaneStep, coming}
use Rattle.metric_producer.specs.declared.row.Row.{Row}
use Rattle.metric_kinds.specs.Runs.{Active}
use Rattle.duration_metric.specs.declared.change.InnerEvent.{InnerEvent}
use Rattle.duration_metric.specs.declared.change.InnerChange.{InnerChange}
use Rattle.duration_metric.specs.declared.change.InnerDelta.{InnerDelta}
use Rattle.duration_metric.specs.declared.inner.Known.{Known}
use Rattle.duration_metric.specs.InnerKeys.{DurationParams, DurationCall, says}
use Rattle.metric_meaning.specs.Histories.{Step, Installation}
use Rattle.metric_meaning.specs.Arrivals.{metric_key, holds_in}
use Rattle.metric_meaning.specs.PredicateSteps.{atom_events}
use Rattle.metric_meaning.specs.Readings.{LeafReading, key_reading}
use Rattle.metric_meaning.specs.Scenes.{Scene, scene_after}
use Rattle.metric_meaning.specs.Ways.{Way}
use Rattle.metric_meaning.specs.DurationSteps.{inner_fields, measured, inner_events, inner_after, sum_way, longest_way}
use Rattle.metric_calls.specs.Askings.{Asking}

-- the event among these, of which there is at most one, as a producer gets it
abbrev pub first_event_of : List (KeyEvent LeafKey) → Option InnerEvent
first_event_of [] = None
first_event_of (event ∷ others) = Some (record { event = event.event; key = event.key })

-- what an atom does to the keys of a predicate, if that is there
abbrev pub event_in : Option LPredicate → List Bool → Atom → Option InnerEvent
event_in None truths atom = None
event_in (Some predicate) truths atom = first_event_of (atom_events predicate.body truths atom)

-- the truth that is told of a condition: that it is true, or that it isn't
abbrev pub told_as : Bool → Truth
told_as true = True
told_as false = False

-- what is so of an inner key in a scene: whether its condition is true, and the key for which it counts
abbrev pub known_in : Scene → LMetric → LeafKey → Known
known_in scene metric key =
    let reading : LeafReading = key_reading (inner_fields (slice_get scene.linked.predicates metric.what)) key in
    record { truth = told_as (holds_in scene metric reading); out = metric_key scene metric reading }

-- what is told of the inner key at a place, of which this was told last: what is so now, unless it was told
abbrev pub change_at : Option Known → ℕ → Known → List InnerChange
change_at was place now =
    if says was now then [] else record { place = place; truth = now.truth; out = now.out } ∷ []

-- what is told of inner keys that stand from a place on, by what was told of each and what is so of it now
abbrev pub changes_from : (LeafKey → Option Known) → (LeafKey → Known) → ℕ → List LeafKey → List InnerChange
changes_from was now place [] = []
changes_from was now place (key ∷ keys) = change_at (was key) place (now key) ++ changes_from was now (place + 1) keys

-- a condition is told with these changes; nothing without changes, where no event came
abbrev pub delta_with : Bool → List InnerChange → Option InnerDelta
delta_with false [] = None
delta_with false (change ∷ changes) = Some (record { changes = change ∷ changes })
delta_with true changes = Some (record { changes = changes })

-- the condition, if one is told
abbrev pub learning : {Event After : Type 0} → ℕ → Option After → List (Call Event After)
learning at None = []
learning at (Some now) = Learned at now ∷ []

-- What a frame brings to a metric of durations: what it does to an inner key, and what is told after it.
pub record InnerNews : Type 0 where
  pub event : Option InnerEvent
  pub delta : Option InnerDelta

-- a lane of durations gets the event, if one comes, and then what is told
abbrev pub inner_asks : List (LaneStep InnerNews) → Moment → InnerNews → List DurationCall
inner_asks before moment news = coming moment.at news.event ++ learning moment.at news.delta

-- what a producer of durations is made with
abbrev pub duration_params : ℕ → LMetric → PredSpec → DurationParams
duration_params base metric spec = record { base = base; size = metric.size; spec = spec }

module _ (installed : Installation) (metric : LMetric) where
  -- what is so of an inner key after these steps
  abbrev pub known_after : List Step → LeafKey → Known
  known_after steps key = known_in (scene_after installed steps) metric key

  -- the inner event of a step, if there is one
  abbrev pub inner_event_at : Step → Option InnerEvent
  inner_event_at step = first_event_of (inner_events (measured installed metric) step)

module _ (installed : Installation) (metric : LMetric) (spec : PredSpec) where
  -- the inner keys after these steps, in order
  abbrev pub listed_after : List Step → List LeafKey
  listed_after steps = keys_of (inner_after installed metric spec steps).counts

  -- what was told of a key by these steps: what is so of it, where it is listed
  abbrev pub told_after : List Step → LeafKey → Option Known
  told_after steps key =
      if is_among same_leaves key (listed_after steps) then Some (known_after installed metric steps key) else None

  -- what changes with a step after others: of each inner key that is new, and of each whose truth or output key isn't
  -- what it was
  abbrev pub inner_changes : List Step → Step → List InnerChange
  inner_changes before step =
      let steps = before ++ step ∷ [] in
      changes_from (told_after before) (known_after installed metric steps) 0 (listed_after steps)

  -- what a step after others brings to the metric
  abbrev pub inner_news : List Step → Step → InnerNews
  inner_news before step =
      let event = inner_event_at installed metric step in
      record { event = event; delta = delta_with (is_some event) (inner_changes before step) }

  -- what a metric of durations asks of its producer, which means this by its steps
  abbrev pub duration_asking : {X K C R : Type 0} → Way X K C R
      → Asking DurationParams InnerNews InnerEvent InnerDelta X K C R
  duration_asking way = record {
    way = way;
    params = duration_params installed.base metric spec;
    opens = [];
    news = inner_news;
    asks = inner_asks;
  }

  -- what it asks of one that sums durations
  abbrev pub sum_asking :
      Asking DurationParams InnerNews InnerEvent InnerDelta (Active MetricKey) MetricKey ℕ (Row ℕ)
  sum_asking = duration_asking (sum_way installed metric spec)

  -- what it asks of one that shows the longest
  abbrev pub longest_asking :
      Asking DurationParams InnerNews InnerEvent InnerDelta (MetricKey × ℕ) MetricKey ℕ (Row ℕ)
  longest_asking = duration_asking (longest_way installed metric spec)

  -- The metric is sound where it is installed: its inner keys have as many leaves as the predicate that it times has
  -- dimensions, and their table has the metric's bound.
  pub record IsTimedWell : Type 0 where
    pub leaves : spec.leaves ≡ length (inner_fields (measured installed metric)).leaves
    pub bound : spec.bound ≡ metric.bound
