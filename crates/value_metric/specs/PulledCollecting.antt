-- Pulled values by key: what a producer of them makes of its calls.
use Rattle.std.specs.Prelude.{ℤ, List, []}
use Rattle.std.specs.List.{flat_map}
use Rattle.atom_record.specs.declared.value.MetricKey.{MetricKey}
use Rattle.bucket_meaning.specs.Marks.{Edges}
use Rattle.predicate_state.specs.declared.truth.Truth.{Truth}
use Rattle.metric_producer.specs.Collecting.{Collecting}
use Rattle.metric_producer.specs.declared.row.Row.{Row}
use Rattle.metric_kinds.specs.Values.{value_kind}
use Rattle.metric_kinds.specs.Diffs.{interval_marks}
use Rattle.value_metric.specs.declared.keyed_int.SnapInts.{SnapInts}
use Rattle.value_metric.specs.PulledValues.{PulledValueParams, PulledValueCall, is_truth, last_found, pulled_value_demands}
use Rattle.value_metric.specs.CallIntervals.{ended_by_condition, ended_at_boundary, ended_at_next}

-- what stands at a boundary: the differences of the interval that ends there. Nothing stands where a part begins
abbrev pub pulled_edges : PulledValueParams → List PulledValueCall → Edges (MetricKey × ℤ)
pulled_edges params before = record {
  closing = λ at. flat_map (interval_marks params.spec) (ended_at_boundary before);
  closing_again = λ at. flat_map (interval_marks params.spec) (ended_at_next before);
  opening = λ at. [];
}

-- An interval gives its differences where it ends: where a condition is told, or at a boundary. A snapshot gives
-- nothing by itself. Rows of 0 are hidden where that is asked for.
abbrev pub pulled_collecting : Collecting PulledValueParams SnapInts Truth (MetricKey × ℤ) MetricKey ℤ (Row ℤ)
pulled_collecting = record {
  demands = pulled_value_demands;
  bound = λ params. params.bound;
  kind = λ params. value_kind params.spec.agg params.spec.skip_zero;
  comes = λ params before at event. [];
  learns = λ params before at now. flat_map (interval_marks params.spec)
      (ended_by_condition before (record { holds = is_truth now; found = last_found before }));
  edges = pulled_edges;
}
