-- Samples of snapshots: what a pulled gauge makes of its calls.
use Rattle.std.specs.Prelude.{ℕ, Bool, true, false, not, ◌&&◌, ◌||◌, List, [], ◌∷◌, map, Option, Some, None, if◌then◌else◌}
use Rattle.std.specs.List.{flat_map, last_or, list_any}
use Rattle.std.specs.Option.{option_map, unwrap_or}
use Rattle.atom_record.specs.declared.atom.Atom.{Atom}
use Rattle.atom_record.specs.declared.value.MetricKey.{MetricKey}
use Rattle.config_types.specs.declared.parameters.Sampling.{Sampling}
use Rattle.config_types.specs.declared.parameters.Sampling.TheVariants.{AtStart, AtChange, AtTrigger}
use Rattle.predicate_state.specs.declared.truth.Truth.{Truth}
use Rattle.predicate_state.specs.declared.truth.Truth.TheVariants.{True}
use Rattle.bucket_meaning.specs.Marks.{Mark, Edges}
use Rattle.metric_producer.specs.Calls.{Call, Got, Learned, Crossed, CutAt, Demands}
use Rattle.metric_producer.specs.Collecting.{Collecting}
use Rattle.metric_producer.specs.declared.row.Row.{Row}
use Rattle.metric_kinds.specs.Gauges.{gauge_kind}
use Rattle.metric_kinds.specs.PulledSamples.{KeyedAtoms, sample_marks}
use Rattle.gauge_metric.specs.declared.gauge.KeyedAtom.{KeyedAtom}
use Rattle.gauge_metric.specs.declared.snapshot.SnapAtoms.{SnapAtoms}
use Rattle.gauge_metric.specs.declared.snapshot.SnapAtoms.TheVariants.{Snapshot, Trigger}
use Rattle.gauge_metric.specs.declared.pulled.SampleSpec.{SampleSpec}

-- What a pulled gauge is made with: where its time begins, how long a bucket is, how many keys a part admits, and how
-- it takes samples.
pub record PulledGaugeParams : Type 0 where
  pub base : ℕ
  pub size : ℕ
  pub bound : ℕ
  pub spec : SampleSpec

-- a call of a pulled gauge
abbrev pub PulledGaugeCall : Type 0
PulledGaugeCall = Call SnapAtoms Truth

-- the snapshot that a call tells, or that there is none
abbrev pub snapshots_in : PulledGaugeCall → List (Option (List KeyedAtom))
snapshots_in (Got at (Snapshot found)) = found ∷ []
snapshots_in _ = []

-- the condition that a call tells
abbrev pub truths_in : PulledGaugeCall → List Truth
truths_in (Learned at now) = now ∷ []
truths_in _ = []

-- the snapshot that these calls told last; there is none where none was told
abbrev pub last_snapshot : List PulledGaugeCall → Option (List KeyedAtom)
last_snapshot calls = unwrap_or (last_or None (flat_map snapshots_in calls)) None

-- the condition that these calls told last, if they told one
abbrev pub last_condition : List PulledGaugeCall → Option Truth
last_condition calls = last_or None (flat_map truths_in calls)

-- a condition is true where it was told so last; not to know is not enough
abbrev pub is_told_held : Option Truth → Bool
is_told_held (Some True) = true
is_told_held _ = false

-- whether a part's beginning is a moment of sampling: in the mode for it, where the condition is true
abbrev pub is_start_moment : Sampling → Option Truth → Bool
is_start_moment AtStart told = is_told_held told
is_start_moment AtChange told = false
is_start_moment AtTrigger told = false

-- whether it is a moment of sampling that a condition is told, after what was told last: in the mode for starts an
-- interval begins where it is true and wasn't, also by the first that is told; that one is no change
abbrev pub is_told_moment : Sampling → Option Truth → Truth → Bool
is_told_moment AtStart told now = is_told_held (Some now) && not (is_told_held told)
is_told_moment AtChange None now = false
is_told_moment AtChange (Some last) now = is_told_held (Some now) && not (is_told_held (Some last))
is_told_moment AtTrigger told now = false

-- whether an atom of the trigger is a moment of sampling: in the mode for it, while the condition is true
abbrev pub is_trigger_moment : Sampling → Option Truth → Bool
is_trigger_moment AtStart told = false
is_trigger_moment AtChange told = false
is_trigger_moment AtTrigger told = is_told_held told

-- the samples of a snapshot, each with its atom's key
abbrev pub keyed : List KeyedAtom → KeyedAtoms
keyed samples = map (λ sample. (sample.key, sample.atom)) samples

-- what a moment gives: each sample of the last snapshot; where there is none, it was missed
abbrev pub moment_marks : Option (List KeyedAtom) → List (Mark (MetricKey × Atom))
moment_marks found = sample_marks (option_map keyed found)

-- the same, if it is a moment
abbrev pub marks_if : Bool → Option (List KeyedAtom) → List (Mark (MetricKey × Atom))
marks_if is_moment found = if is_moment then moment_marks found else []

-- what an event gives: a snapshot is no moment
abbrev pub snapshot_marks : Sampling → Option Truth → Option (List KeyedAtom) → SnapAtoms
    → List (Mark (MetricKey × Atom))
snapshot_marks mode told found (Snapshot next) = []
snapshot_marks mode told found Trigger = marks_if (is_trigger_moment mode told) found

-- where a part begins, samples may come; where it ends nothing does
abbrev pub part_edges : Sampling → Option Truth → Option (List KeyedAtom) → Edges (MetricKey × Atom)
part_edges mode told found = record {
  closing = λ at. [];
  closing_again = λ at. [];
  opening = λ at. marks_if (is_start_moment mode told) found;
}

-- whether a call tells a snapshot, or that there is none
abbrev pub is_snapshot_call : PulledGaugeCall → Bool
is_snapshot_call (Got at (Snapshot found)) = true
is_snapshot_call _ = false

-- whether a call tells the condition
abbrev pub tells_truth : PulledGaugeCall → Bool
tells_truth (Learned at now) = true
tells_truth _ = false

-- whether a call ends a part
abbrev pub ends_part : PulledGaugeCall → Bool
ends_part (Crossed crossings) = true
ends_part (CutAt at) = true
ends_part _ = false

-- The calls keep to buckets, and every event is taken. A condition is told once the last snapshot was, or that there is
-- none; the first says what stands at the beginning, so it is told before any part ends.
abbrev pub pulled_gauge_demands : PulledGaugeParams → Demands SnapAtoms Truth
pulled_gauge_demands params = record {
  base = params.base;
  size = params.size;
  is_paired = false;
  takes = λ event. true;
  tells = λ calls now.
      list_any is_snapshot_call calls && (list_any tells_truth calls || not (list_any ends_part calls));
}

-- at its moments each sample of the last snapshot arrives with its key
abbrev pub pulled_collecting
    : Collecting PulledGaugeParams SnapAtoms Truth (MetricKey × Atom) MetricKey Atom (Row (List Atom))
pulled_collecting = record {
  demands = pulled_gauge_demands;
  bound = λ params. params.bound;
  kind = λ params. gauge_kind params.spec.samples;
  comes = λ params before at event.
      snapshot_marks params.spec.mode (last_condition before) (last_snapshot before) event;
  learns = λ params before at now.
      marks_if (is_told_moment params.spec.mode (last_condition before) now) (last_snapshot before);
  edges = λ params before. part_edges params.spec.mode (last_condition before) (last_snapshot before);
}
