-- The lane of a pulled gauge: what it stands for. A report shows what it hands out as it does of a pushed one.
use Rattle.std.specs.Prelude.{◌≡◌, ℕ, Bool, List, map, Option}
use Rattle.atom_record.specs.declared.atom.Atom.{Atom}
use Rattle.field_select.specs.declared.leaf.FieldSet.{FieldSet}
use Rattle.config_types.specs.declared.parameters.Sampling.{Sampling}
use Rattle.config_links.specs.declared.linked.LMatcher.{LMatcher}
use Rattle.config_links.specs.declared.linked.LMetric.{LMetric}
use Rattle.config_links.specs.declared.linked.LKind.TheVariants as kinds
use Rattle.predicate_state.specs.declared.truth.Truth.{Truth}
use Rattle.gauge_metric.specs.declared.snapshot.SnapAtoms.{SnapAtoms}
use Rattle.gauge_metric.specs.declared.pulled.PulledGauge.{PulledGauge}
use Rattle.gauge_metric.specs.PulledStands.{pulled_law}
use Rattle.metric_producer.specs.Calls.{Got}
use Rattle.metric_lane.specs.LaneStands.{GetsCall, GetsCalls}
use Rattle.metric_lane.specs.declared.lane.Lane.{Lane}
use Rattle.metric_meaning.specs.Histories.{Step, Installation}
use Rattle.metric_calls.specs.PulledGaugeCalls.{gauge_telling, pulled_gauge_asking}
use Rattle.client_engine.specs.Along.{Along}
use Rattle.client_engine.specs.Finding.{found_among}

-- a lane of a producer of samples of snapshots
abbrev pub PulledGaugeLane : Type 0
PulledGaugeLane = Lane PulledGauge SnapAtoms Truth (List Atom)

-- The metric is a pulled gauge, and the lane collects for it, after these steps of what was installed.
pub record PulledGaugesAlong (metric : LMetric) (installed : Installation) (steps : List Step)
    (lane : PulledGaugeLane) : Type 0 where
  pub fields : Option FieldSet
  pub samples : ℕ
  pub mode : Sampling
  pub trigger : Option ℕ
  pub gauge : metric.kind ≡ kinds.PulledGauge fields samples mode trigger
  pub along : Along (pulled_gauge_asking installed metric fields samples mode trigger) pulled_law steps lane

-- whatever a lane had, the snapshot of a pull that may come is added, which gave these atoms, or none
abbrev pub GetsSnapshot : LMetric → List LMatcher → PulledGaugeLane → PulledGaugeLane → ℕ → Option (List Atom) → Type 0
GetsSnapshot metric matchers old new at atoms =
    (fields : Option FieldSet) (samples : ℕ) (mode : Sampling) (trigger : Option ℕ)
    → metric.kind ≡ kinds.PulledGauge fields samples mode trigger
    → GetsCall pulled_law old new
    (Got at ((gauge_telling metric fields trigger).snapshot (found_among matchers metric atoms)))

-- whatever a lane had, an atom with these truths is added as one of the trigger, if it matches it and that may come
abbrev pub GetsTrigger : LMetric → PulledGaugeLane → PulledGaugeLane → ℕ → List Bool → Type 0
GetsTrigger metric old new at truths =
    (fields : Option FieldSet) (samples : ℕ) (mode : Sampling) (trigger : Option ℕ)
    → metric.kind ≡ kinds.PulledGauge fields samples mode trigger
    → GetsCalls pulled_law old new (map (λ event. Got at event) ((gauge_telling metric fields trigger).atom truths))
