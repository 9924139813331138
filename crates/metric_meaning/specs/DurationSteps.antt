-- What a metric of durations gets at each step. It measures how long the keys of a predicate are on while its condition
-- holds; these keys are its inner keys, and each counts for the key that its values make at the metric's dimensions.
use Rattle.std.specs.Prelude.{ℕ, ◌-◌, nat_lt, Bool, not, List, [], ◌∷◌, ◌++◌, map, filter, replicate, Option, Some, None, slice_get}
use Rattle.std.specs.List.{flat_map}
use Rattle.sd_base.specs.Outputs.{outputs}
use Rattle.atom_record.specs.declared.value.MetricKey.{MetricKey}
use Rattle.bucket_meaning.specs.Guard.{is_among, firsts}
use Rattle.bucket_meaning.specs.Kept.{Taken}
use Rattle.bucket_meaning.specs.Marks.{Mark, Came, Lost, no_edges}
use Rattle.config_types.specs.declared.parameters.PredSpec.{PredSpec}
use Rattle.field_select.specs.declared.leaf.FieldSet.{FieldSet}
use Rattle.config_links.specs.declared.linked.LMetric.{LMetric}
use Rattle.config_links.specs.declared.linked.LPredicate.{LPredicate}
use Rattle.config_links.specs.declared.linked.LPredBody.{LPredBody}
use Rattle.config_links.specs.declared.linked.LPredBody.TheVariants.{Simple, Combo}
use Rattle.predicate_state.specs.PredicateStates.{KeyEvent, PredicateState, predicate_after}
use Rattle.predicate_state.specs.PredicateTable.{LeafKey, same_leaves}
use Rattle.metric_producer.specs.declared.row.Row.{Row}
use Rattle.metric_kinds.specs.Keys.{is_same_key}
use Rattle.metric_kinds.specs.Runs.{Active}
use Rattle.metric_kinds.specs.Durations.{sum_kind, turned, active_edges, longest_kind, KeyMoment, time_since_off}
use Rattle.metric_meaning.specs.Histories.{Step, Installation}
use Rattle.metric_meaning.specs.PredicateSteps.{events_at}
use Rattle.metric_meaning.specs.Readings.{LeafReading, key_reading}
use Rattle.metric_meaning.specs.Scenes.{scene_after}
use Rattle.metric_meaning.specs.Arrivals.{metric_key, holds_in}
use Rattle.metric_meaning.specs.StepMarks.{StepNews}
use Rattle.metric_meaning.specs.Ways.{Way, shown_by_steps}

-- the fields that make the keys of a predicate; a combination has none
abbrev pub predicate_fields : LPredBody → FieldSet
predicate_fields (Simple start stop stop_all dims spec) = dims
predicate_fields (Combo op children) = record { atom_id = 0; leaves = [] }

-- the fields that make the inner keys
abbrev pub inner_fields : Option LPredicate → FieldSet
inner_fields None = record { atom_id = 0; leaves = [] }
inner_fields (Some predicate) = predicate_fields predicate.body

-- what a step does to the inner keys
abbrev pub inner_events : Option LPredicate → Step → List (KeyEvent LeafKey)
inner_events None step = []
inner_events (Some predicate) step = events_at predicate step

-- the keys that are on, in the order in which they are listed: those with a count above 0
abbrev pub keys_on : PredicateState LeafKey → List LeafKey
keys_on state = map (λ (entry : LeafKey × ℕ). entry.0) (filter (λ (entry : LeafKey × ℕ). nat_lt 0 entry.1) state.counts)

-- the predicate whose keys a metric measures, if it is there
abbrev pub measured : Installation → LMetric → Option LPredicate
measured installed metric = slice_get installed.linked.predicates metric.what

-- the values of an inner key
abbrev pub inner_reading : Installation → LMetric → LeafKey → LeafReading
inner_reading installed metric key = key_reading (inner_fields (measured installed metric)) key

-- the key for which an inner key counts after these steps
abbrev pub out_key : Installation → LMetric → List Step → LeafKey → MetricKey
out_key installed metric steps key =
    metric_key (scene_after installed steps) metric (inner_reading installed metric key)

-- whether the condition of an inner key is true after these steps
abbrev pub is_timed : Installation → LMetric → List Step → LeafKey → Bool
is_timed installed metric steps key =
    holds_in (scene_after installed steps) metric (inner_reading installed metric key)

module _ (installed : Installation) (metric : LMetric) (spec : PredSpec) where
  -- what is known of the inner keys after these steps, in a table of the metric's own, which has its own bound
  abbrev pub inner_after : List Step → PredicateState LeafKey
  inner_after steps = predicate_after same_leaves spec (flat_map (inner_events (measured installed metric)) steps)

  -- the keys that are active after these steps: those for which the inner keys count that are on and have a true
  -- condition, each once, where the first of these inner keys is listed
  abbrev pub active_keys : List Step → List MetricKey
  active_keys steps =
      firsts is_same_key []
      (map (out_key installed metric steps)
      (filter (is_timed installed metric steps) (keys_on (inner_after steps))))

  -- the inner keys that a step turned away, of which there is at most one
  abbrev pub inner_drops : {X : Type 0} → List Step → Step → List (Mark X)
  inner_drops before step = replicate ((inner_after (before ++ step ∷ [])).dropped - (inner_after before).dropped) Lost

  -- an inner key after these steps, the last of which is this one
  abbrev pub key_moment : LeafKey → List Step → Step → List KeyMoment
  key_moment key before step =
      let steps = before ++ step ∷ [] in
      record {
        at = step.at;
        is_on = is_among same_leaves key (keys_on (inner_after steps));
        holds = is_timed installed metric steps key;
      } ∷ []

  -- for how long an inner key that goes off at a time had a true condition since it went on
  abbrev pub time_on : List Step → ℕ → LeafKey → ℕ
  time_on steps end key = time_since_off (outputs (key_moment key) steps) end

  -- the inner keys that a step turns off, in the order in which they were listed before it
  abbrev pub gone_off : List Step → Step → List LeafKey
  gone_off before step =
      filter (λ key. not (is_among same_leaves key (keys_on (inner_after (before ++ step ∷ [])))))
      (keys_on (inner_after before))

  -- a sum of durations gets the active keys wherever they change, and again at each boundary
  abbrev pub sum_news : StepNews (Active MetricKey)
  sum_news = record {
    begins = [];
    edges = λ before. active_edges (active_keys before);
    comes = λ before step.
        inner_drops before step
        ++ turned step.at (active_keys before) (active_keys (before ++ step ∷ []));
  }

  -- a longest duration gets, wherever an inner key goes off, its time, for the key for which it counted
  abbrev pub longest_news : StepNews (MetricKey × ℕ)
  longest_news = record {
    begins = [];
    edges = λ before. no_edges;
    comes = λ before step.
        inner_drops before step
        ++ map (λ key. Came (out_key installed metric before key, time_on before step.at key)) (gone_off before step);
  }

  -- what a sum of durations is
  abbrev pub sum_way : Way (Active MetricKey) MetricKey ℕ (Row ℕ)
  sum_way = record {
    base = installed.base;
    size = metric.size;
    bound = metric.bound;
    kind = sum_kind;
    shown = sum_news;
  }

  -- what a longest duration is
  abbrev pub longest_way : Way (MetricKey × ℕ) MetricKey ℕ (Row ℕ)
  longest_way = record {
    base = installed.base;
    size = metric.size;
    bound = metric.bound;
    kind = longest_kind;
    shown = longest_news;
  }

  -- what a report shows of a sum of durations, which is made after these steps
  abbrev pub sums_shown : List Step → Bool → ℕ → Taken (Row ℕ)
  sums_shown = shown_by_steps sum_way

  -- what a report shows of a longest duration, which is made after these steps
  abbrev pub longest_shown : List Step → Bool → ℕ → Taken (Row ℕ)
  longest_shown = shown_by_steps longest_way
