-- What a metric of pulled values asks of its producer.
use Rattle.std.specs.Prelude.{ℕ, ℤ, List, [], map, Option}
use Rattle.std.specs.Option.{option_map}
use Rattle.atom_record.specs.declared.atom.Atom.{Atom}
use Rattle.atom_record.specs.declared.value.MetricKey.{MetricKey}
use Rattle.config_types.specs.declared.parameters.DiffSpec.{DiffSpec}
use Rattle.config_links.specs.declared.linked.LMetric.{LMetric}
use Rattle.predicate_state.specs.declared.truth.Truth.{Truth}
use Rattle.metric_kinds.specs.Diffs.{KeyedInts}
use Rattle.metric_producer.specs.declared.row.Row.{Row}
use Rattle.value_metric.specs.declared.keyed_int.SnapInts.{SnapInts}
use Rattle.value_metric.specs.PulledValues.{PulledValueParams, PulledValueCall}
use Rattle.metric_meaning.specs.Histories.{Installation}
use Rattle.metric_meaning.specs.ValueLeaves.{ValueLeaf}
use Rattle.metric_meaning.specs.PulledValueSteps.{pulled_integers, pulled_value_way}
use Rattle.metric_calls.specs.Askings.{Asking}
use Rattle.metric_calls.specs.ValueCalls.{keyed_int}
use Rattle.metric_calls.specs.SnapshotCalls.{Telling, told_asking}

-- what the producer of a metric of pulled values is made with
abbrev pub pulled_value_params : ℕ → LMetric → DiffSpec → PulledValueParams
pulled_value_params base metric spec =
    record { base = base; size = metric.size; bound = metric.bound; spec = spec }

-- integers with their keys, as the producer gets them, or that there are none
abbrev pub snap_ints : Option KeyedInts → SnapInts
snap_ints found = record { found = option_map (map keyed_int) found }

-- such a metric tells the integers of a snapshot's atoms, and of an atom nothing but the condition after it
abbrev pub value_telling : LMetric → ValueLeaf → Telling SnapInts
value_telling metric source = record {
  snapshot = λ (found : Option (List Atom)). snap_ints (option_map (pulled_integers metric source) found);
  atom = λ truths. [];
}

-- the producer of a metric of pulled values is told snapshots and conditions
abbrev pub pulled_value_asking : Installation → LMetric → ValueLeaf → DiffSpec
    → Asking PulledValueParams (List PulledValueCall) SnapInts Truth (MetricKey × ℤ) MetricKey ℤ (Row ℤ)
pulled_value_asking installed metric source spec =
    told_asking (pulled_value_way installed metric source spec) (pulled_value_params installed.base metric spec)
    (value_telling metric source) installed metric
