-- What a pulled gauge asks of its producer.
use Rattle.std.specs.Prelude.{ℕ, List, [], ◌∷◌, map, Option, if◌then◌else◌}
use Rattle.std.specs.Option.{option_map}
use Rattle.atom_record.specs.declared.atom.Atom.{Atom}
use Rattle.atom_record.specs.declared.value.MetricKey.{MetricKey}
use Rattle.field_select.specs.declared.leaf.FieldSet.{FieldSet}
use Rattle.config_types.specs.declared.parameters.Sampling.{Sampling}
use Rattle.config_links.specs.declared.linked.LMetric.{LMetric}
use Rattle.predicate_state.specs.declared.truth.Truth.{Truth}
use Rattle.metric_kinds.specs.PulledSamples.{KeyedAtoms}
use Rattle.metric_producer.specs.declared.row.Row.{Row}
use Rattle.gauge_metric.specs.declared.gauge.KeyedAtom.{KeyedAtom}
use Rattle.gauge_metric.specs.declared.pulled.SampleSpec.{SampleSpec}
use Rattle.gauge_metric.specs.declared.snapshot.SnapAtoms.{SnapAtoms}
use Rattle.gauge_metric.specs.declared.snapshot.SnapAtoms.TheVariants.{Snapshot, Trigger}
use Rattle.gauge_metric.specs.PulledSampling.{PulledGaugeParams, PulledGaugeCall}
use Rattle.metric_meaning.specs.Histories.{Installation}
use Rattle.metric_meaning.specs.PredicateSteps.{named_truth}
use Rattle.metric_meaning.specs.PulledGaugeSteps.{pulled_samples, pulled_gauge_way}
use Rattle.metric_calls.specs.Askings.{Asking}
use Rattle.metric_calls.specs.PushedGaugeCalls.{handed_sample}
use Rattle.metric_calls.specs.SnapshotCalls.{Telling, told_asking}

-- how a pulled gauge takes samples: so many of a key in a part, at these moments
abbrev pub sample_spec : ℕ → Sampling → SampleSpec
sample_spec samples mode = record { samples = samples; mode = mode }

-- what the producer of a pulled gauge is made with
abbrev pub pulled_gauge_params : ℕ → LMetric → SampleSpec → PulledGaugeParams
pulled_gauge_params base metric spec =
    record { base = base; size = metric.size; bound = metric.bound; spec = spec }

-- samples with their keys, as the producer gets them, or that there are none
abbrev pub handed_samples : Option KeyedAtoms → Option (List KeyedAtom)
handed_samples found = option_map (map handed_sample) found

-- a pulled gauge tells the samples of a snapshot's atoms; and of an atom, after the condition, that it matches the
-- trigger, where it does
abbrev pub gauge_telling : LMetric → Option FieldSet → Option ℕ → Telling SnapAtoms
gauge_telling metric fields trigger = record {
  snapshot = λ (found : Option (List Atom)).
      Snapshot (handed_samples (option_map (pulled_samples metric fields) found));
  atom = λ truths. if named_truth trigger truths then Trigger ∷ [] else [];
}

-- the producer of a pulled gauge is told snapshots, conditions and triggers
abbrev pub pulled_gauge_asking : Installation → LMetric → Option FieldSet → ℕ → Sampling → Option ℕ
    → Asking PulledGaugeParams (List PulledGaugeCall) SnapAtoms Truth (MetricKey × Atom) MetricKey Atom
    (Row (List Atom))
pulled_gauge_asking installed metric fields samples mode trigger =
    told_asking (pulled_gauge_way installed metric fields samples mode trigger)
    (pulled_gauge_params installed.base metric (sample_spec samples mode))
    (gauge_telling metric fields trigger) installed
    metric
