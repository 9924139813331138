-- The lane of a pushed gauge: what it stands for, and how a report shows what it hands out.
use Rattle.std.specs.Prelude.{◌≡◌, ℕ, List, map, Option}
use Rattle.atom_record.specs.declared.atom.Atom.{Atom}
use Rattle.atom_record.specs.declared.value.MetricKey.{MetricKey}
use Rattle.atom_record.specs.declared.value.Slice.{Slice}
use Rattle.field_select.specs.declared.leaf.FieldSet.{FieldSet}
use Rattle.config_links.specs.declared.linked.LMetric.{LMetric}
use Rattle.config_links.specs.declared.linked.LKind.TheVariants as kinds
use Rattle.gauge_metric.specs.declared.gauge.KeyedAtom.{KeyedAtom}
use Rattle.gauge_metric.specs.declared.gauge.PushedGauge.{PushedGauge}
use Rattle.gauge_metric.specs.GaugeStands.{gauge_law}
use Rattle.metric_producer.specs.Calls.{Got}
use Rattle.metric_producer.specs.declared.row.Row.{Row}
use Rattle.bucket_meaning.specs.Kept.{Taken}
use Rattle.session_frames.specs.FrameReading.{log_time}
use Rattle.metric_lane.specs.LaneStands.{GetsCall}
use Rattle.metric_lane.specs.declared.lane.Lane.{Lane}
use Rattle.metric_meaning.specs.Histories.{Step, Installation}
use Rattle.metric_meaning.specs.Scenes.{Scene}
use Rattle.metric_meaning.specs.PushedGaugeSteps.{keyed_sample}
use Rattle.metric_meaning.specs.GaugeTrees.{gauge_body}
use Rattle.metric_calls.specs.PushedGaugeCalls.{handed_sample, pushed_gauge_asking}
use Rattle.report_writer.specs.AtomMessage.{message_of}
use Rattle.report_writer.specs.declared.tree.LeafTree.{LeafTree}
use Rattle.report_writer.specs.declared.tree.AtomBucket.{AtomBucket}
use Rattle.report_writer.specs.declared.tree.GaugeTree.{GaugeTree}
use Rattle.report_writer.specs.declared.tree.MetricTree.{MetricTree}
use Rattle.known_conditions.specs.Known.{Known}
use Rattle.client_engine.specs.Handed.{IsOfScene}
use Rattle.client_engine.specs.Bringing.{handed_with}
use Rattle.client_engine.specs.Along.{Along}
use Rattle.client_engine.specs.declared.brought.Brought.{Brought}

-- a lane of a producer of samples
abbrev pub GaugeLane : Type 0
GaugeLane = Lane PushedGauge KeyedAtom (Unit {0}) (List Atom)

-- The metric is a pushed gauge, and the lane collects for it, after these steps of what was installed.
pub record GaugesAlong (metric : LMetric) (installed : Installation) (steps : List Step) (lane : GaugeLane)
    : Type 0 where
  pub fields : Option FieldSet
  pub samples : ℕ
  pub gauge : metric.kind ≡ kinds.PushedGauge fields samples
  pub along : Along (pushed_gauge_asking installed metric fields samples) gauge_law steps lane

-- whatever a lane had, a sample that may come is added, with its key
abbrev pub GetsSample : GaugeLane → GaugeLane → ℕ → MetricKey × Atom → Type 0
GetsSample old new at arrival = GetsCall gauge_law old new (Got at (handed_sample arrival))

-- the lane of a pushed gauge got the sample of an atom of the frame that is brought, as its key is found
abbrev pub GetsSampleOf : LMetric → Brought → Atom → GaugeLane → GaugeLane → Type 0
GetsSampleOf metric brought atom old new =
    (known : Known) (scene : Scene) (fields : Option FieldSet) (samples : ℕ)
    → IsOfScene (handed_with known brought) scene → metric.kind ≡ kinds.PushedGauge fields samples
    → GetsSample old new (log_time brought.frame.now) (keyed_sample scene metric fields atom)

-- a part's samples, by their messages
abbrev pub sample_bucket : ℕ → ℕ → List Atom → AtomBucket
sample_bucket start end atoms = record { start = start; end = end; atoms = map message_of atoms }

-- a key with its samples, as a report shows it
abbrev pub gauge_entry : List LeafTree → List Slice → List AtomBucket → GaugeTree
gauge_entry leaves slices buckets = record { leaves = leaves; slices = slices; buckets = buckets }

-- a pushed gauge as a report shows it, of what its producer handed out
abbrev pub gauges_shown_by : ℕ → LMetric → Taken (Row (List Atom)) → MetricTree
gauges_shown_by base metric closed = record {
  id = metric.id;
  base = base;
  size = metric.size;
  dropped = closed.dropped;
  not_kept = closed.not_kept;
  missing = closed.missing;
  body = gauge_body closed.rows;
}
