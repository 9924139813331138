-- Sums of durations: what a producer of them makes of its calls.
use Rattle.std.specs.Prelude.{ℕ, nat_lt, List, [], ◌∷◌, ◌++◌, Option, Some, None, if◌then◌else◌}
use Rattle.std.specs.List.{flat_map, last_or}
use Rattle.std.specs.Option.{unwrap_or}
use Rattle.sd_base.specs.Outputs.{outputs}
use Rattle.atom_record.specs.declared.value.MetricKey.{MetricKey}
use Rattle.bucket_meaning.specs.Guard.{firsts}
use Rattle.config_types.specs.declared.parameters.PredSpec.{PredSpec}
use Rattle.predicate_state.specs.declared.truth.Truth.{Truth}
use Rattle.predicate_state.specs.declared.truth.Truth.TheVariants.{False, Unknown, True}
use Rattle.predicate_state.specs.PredicateTable.{LeafKey}
use Rattle.metric_producer.specs.Calls.{Learned}
use Rattle.metric_producer.specs.Collecting.{Collecting}
use Rattle.metric_producer.specs.declared.row.Row.{Row}
use Rattle.metric_kinds.specs.Keys.{is_same_key}
use Rattle.metric_kinds.specs.Runs.{Active}
use Rattle.metric_kinds.specs.Durations.{sum_kind, turned, active_edges}
use Rattle.duration_metric.specs.declared.change.InnerEvent.{InnerEvent}
use Rattle.duration_metric.specs.declared.change.InnerDelta.{InnerDelta}
use Rattle.duration_metric.specs.declared.inner.Known.{Known}
use Rattle.duration_metric.specs.InnerKeys.{DurationParams, DurationCall, inner_state, last_known, inner_lost, duration_demands}

-- the key, while its condition is true; where that is false or unknown there is none
abbrev pub while_true : Truth → MetricKey → List MetricKey
while_true True out = out ∷ []
while_true Unknown out = []
while_true False out = []

-- the output key that was told last, while the condition that was told with it is true
abbrev pub known_out : Option Known → List MetricKey
known_out None = []
known_out (Some known) = while_true known.truth known.out

-- the output key for which an inner key counts: only one that is on, with a count above 0, counts
abbrev pub counted_out : (LeafKey → Option Known) → LeafKey × ℕ → List MetricKey
counted_out known entry = if nat_lt 0 entry.1 then known_out (known entry.0) else []

module _ (spec : PredSpec) where
  -- the active keys after these calls: those for which the inner keys count, each once, where the first of these inner
  -- keys is listed
  abbrev pub active_after : List DurationCall → List MetricKey
  active_after calls =
      firsts is_same_key [] (flat_map (counted_out (last_known spec calls)) (inner_state spec calls).counts)

  -- the active keys where a condition is told: an event alone changes none, since its condition is told with it
  abbrev pub active_told : List DurationCall → DurationCall → List (List MetricKey)
  active_told before (Learned at delta) = active_after (before ++ Learned at delta ∷ []) ∷ []
  active_told before _ = []

  -- the active keys since the last condition; none before the first
  abbrev pub active_since : List DurationCall → List MetricKey
  active_since calls = unwrap_or (last_or None (outputs active_told calls)) []

-- what a sum of durations makes of its calls: an event may turn an inner key away, a condition brings the active keys
-- where they changed, and each part begins with them
abbrev pub sum_collecting : Collecting DurationParams InnerEvent InnerDelta (Active MetricKey) MetricKey ℕ (Row ℕ)
sum_collecting = record {
  demands = duration_demands;
  bound = λ params. params.spec.bound;
  kind = λ params. sum_kind;
  comes = λ params before at event. inner_lost params.spec before at event;
  learns = λ params before at delta.
      turned at (active_since params.spec before) (active_after params.spec (before ++ Learned at delta ∷ []));
  edges = λ params before. active_edges (active_since params.spec before);
}
