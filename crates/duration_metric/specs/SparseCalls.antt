-- Longest durations by key: what a producer of them makes of its calls.
use Rattle.std.specs.Prelude.{ℕ, nat_lt, Bool, true, false, not, List, [], ◌∷◌, ◌++◌, map, filter, Option, Some, None}
use Rattle.std.specs.List.{flat_map}
use Rattle.sd_base.specs.Outputs.{outputs}
use Rattle.atom_record.specs.declared.value.MetricKey.{MetricKey}
use Rattle.bucket_meaning.specs.Guard.{is_among}
use Rattle.bucket_meaning.specs.Marks.{Mark, Came, no_edges}
use Rattle.config_types.specs.declared.parameters.PredSpec.{PredSpec}
use Rattle.predicate_state.specs.declared.truth.Truth.{Truth}
use Rattle.predicate_state.specs.declared.truth.Truth.TheVariants.{True}
use Rattle.predicate_state.specs.PredicateTable.{LeafKey, same_leaves}
use Rattle.metric_producer.specs.Calls.{Got, Learned}
use Rattle.metric_producer.specs.Collecting.{Collecting}
use Rattle.metric_producer.specs.declared.row.Row.{Row}
use Rattle.metric_kinds.specs.Durations.{longest_kind, KeyMoment, time_since_off}
use Rattle.duration_metric.specs.declared.change.InnerEvent.{InnerEvent}
use Rattle.duration_metric.specs.declared.change.InnerDelta.{InnerDelta}
use Rattle.duration_metric.specs.declared.inner.Known.{Known}
use Rattle.duration_metric.specs.InnerKeys.{DurationParams, DurationCall, duration_demands, inner_state, inner_lost, last_known}

-- when an inner key may go on or off, or its condition may change: at an event, and where a condition is told
abbrev pub turn_times : DurationCall → List ℕ
turn_times (Got at event) = at ∷ []
turn_times (Learned at delta) = at ∷ []
turn_times _ = []

-- a truth is True
abbrev pub is_surely_true : Truth → Bool
is_surely_true True = true
is_surely_true _ = false

-- the condition was told, and is true
abbrev pub is_told_timed : Option Known → Bool
is_told_timed None = false
is_told_timed (Some known) = is_surely_true known.truth

-- a time arrives for the key for which an inner key counts, if that was told
abbrev pub arrival_for : Option Known → ℕ → List (Mark (MetricKey × ℕ))
arrival_for None time = []
arrival_for (Some known) time = Came (known.out, time) ∷ []

module _ (spec : PredSpec) where
  -- the inner keys that are on after these calls, in order: those with a count above 0
  abbrev pub running_keys : List DurationCall → List LeafKey
  running_keys calls =
      map (λ (entry : LeafKey × ℕ). entry.0)
      (filter (λ (entry : LeafKey × ℕ). nat_lt 0 entry.1) (inner_state spec calls).counts)

  -- an inner key is on after these calls
  abbrev pub is_on : List DurationCall → LeafKey → Bool
  is_on calls key = is_among same_leaves key (running_keys calls)

  -- an inner key once a call has come after these: whether it is on, and whether its condition is true
  abbrev pub inner_moment : LeafKey → List DurationCall → DurationCall → List KeyMoment
  inner_moment key before call =
      let calls = before ++ call ∷ [] in
      map (λ at. record { at = at; is_on = is_on calls key; holds = is_told_timed (last_known spec calls key) })
      (turn_times call)

  -- for how long, up to a time, an inner key has had a true condition since it went on
  abbrev pub running_time : List DurationCall → ℕ → LeafKey → ℕ
  running_time calls end key = time_since_off (outputs (inner_moment key) calls) end

  -- the inner keys that a call turns off, in the order in which they were listed before it
  abbrev pub keys_gone : List DurationCall → DurationCall → List LeafKey
  keys_gone before call = filter (λ key. not (is_on (before ++ call ∷ []) key)) (running_keys before)

  -- what an event brings: an inner key that is turned away is lost, and each that goes off arrives with its time, for
  -- the key for which it counted
  abbrev pub sparse_comes : List DurationCall → ℕ → InnerEvent → List (Mark (MetricKey × ℕ))
  sparse_comes before at event =
      inner_lost spec before at event
      ++ flat_map (λ key. arrival_for (last_known spec before key) (running_time before at key))
      (keys_gone before (Got at event))

-- a condition brings nothing, and nothing more happens at a boundary: a key that is on arrives where it goes off
abbrev pub sparse_collecting : Collecting DurationParams InnerEvent InnerDelta (MetricKey × ℕ) MetricKey ℕ (Row ℕ)
sparse_collecting = record {
  demands = duration_demands;
  bound = λ params. params.spec.bound;
  kind = λ params. longest_kind;
  comes = λ params. sparse_comes params.spec;
  learns = λ params before at delta. [];
  edges = λ params before. no_edges;
}
