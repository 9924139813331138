-- The lane of a metric of pulled values: what it stands for. A report shows what it hands out as it does of pushed
-- ones.
use Rattle.std.specs.Prelude.{◌≡◌, ℕ, ℤ, List, Option}
use Rattle.atom_record.specs.declared.atom.Atom.{Atom}
use Rattle.config_types.specs.declared.parameters.DiffSpec.{DiffSpec}
use Rattle.config_links.specs.declared.linked.LMatcher.{LMatcher}
use Rattle.config_links.specs.declared.linked.LMetric.{LMetric}
use Rattle.config_links.specs.declared.linked.LKind.{LKind}
use Rattle.config_links.specs.declared.linked.LKind.TheVariants as kinds
use Rattle.predicate_state.specs.declared.truth.Truth.{Truth}
use Rattle.value_metric.specs.declared.keyed_int.SnapInts.{SnapInts}
use Rattle.value_metric.specs.declared.pulled_value.PulledValue.{PulledValue}
use Rattle.value_metric.specs.PulledStands.{pulled_law}
use Rattle.metric_producer.specs.Calls.{Got}
use Rattle.metric_lane.specs.LaneStands.{GetsCall}
use Rattle.metric_lane.specs.declared.lane.Lane.{Lane}
use Rattle.metric_meaning.specs.Histories.{Step, Installation}
use Rattle.metric_meaning.specs.ValueLeaves.{ValueLeaf}
use Rattle.metric_calls.specs.PulledValueCalls.{value_telling, pulled_value_asking}
use Rattle.client_engine.specs.Along.{Along}
use Rattle.client_engine.specs.Finding.{found_among}

-- a lane of a producer of pulled values
abbrev pub PulledValueLane : Type 0
PulledValueLane = Lane PulledValue SnapInts Truth ℤ

-- the kind of a metric of the values at this leaf, of which it takes such differences
abbrev pub pulled_kind_at : ValueLeaf → DiffSpec → LKind
pulled_kind_at source spec = kinds.PulledValue source.atom_id source.leaf spec

-- The metric is of pulled values at a leaf, and the lane collects for it, after these steps of what was installed.
pub record PulledValuesAlong (metric : LMetric) (installed : Installation) (steps : List Step)
    (lane : PulledValueLane) : Type 0 where
  pub source : ValueLeaf
  pub spec : DiffSpec
  pub values : metric.kind ≡ pulled_kind_at source spec
  pub along : Along (pulled_value_asking installed metric source spec) pulled_law steps lane

-- whatever a lane had, the snapshot of a pull that may come is added, which gave these atoms, or none
abbrev pub GetsPull : LMetric → List LMatcher → PulledValueLane → PulledValueLane → ℕ → Option (List Atom) → Type 0
GetsPull metric matchers old new at atoms =
    (source : ValueLeaf) (spec : DiffSpec) → metric.kind ≡ pulled_kind_at source spec
    → GetsCall pulled_law old new (Got at ((value_telling metric source).snapshot (found_among matchers metric atoms)))
