-- The lane of a metric of pushed values: what it stands for, and how a report shows what it hands out.
use Rattle.std.specs.Prelude.{◌≡◌, ℕ, ℤ, false, List}
use Rattle.atom_record.specs.declared.value.Slice.{Slice}
use Rattle.config_types.specs.declared.metric.Aggregation.{Aggregation}
use Rattle.config_links.specs.declared.linked.LMetric.{LMetric}
use Rattle.config_links.specs.declared.linked.LKind.{LKind}
use Rattle.config_links.specs.declared.linked.LKind.TheVariants as kinds
use Rattle.value_metric.specs.declared.keyed_int.KeyedInt.{KeyedInt}
use Rattle.value_metric.specs.declared.pushed_value.PushedValue.{PushedValue}
use Rattle.value_metric.specs.PushedStands.{pushed_law}
use Rattle.metric_producer.specs.declared.row.Row.{Row}
use Rattle.bucket_meaning.specs.Kept.{Taken}
use Rattle.metric_lane.specs.declared.lane.Lane.{Lane}
use Rattle.metric_meaning.specs.Histories.{Step, Installation}
use Rattle.metric_meaning.specs.ValueLeaves.{ValueLeaf}
use Rattle.metric_meaning.specs.ValueTrees.{values_body}
use Rattle.metric_calls.specs.ValueCalls.{value_asking}
use Rattle.report_writer.specs.declared.tree.LeafTree.{LeafTree}
use Rattle.report_writer.specs.declared.tree.NumBucket.{NumBucket}
use Rattle.report_writer.specs.declared.tree.NumTree.{NumTree}
use Rattle.report_writer.specs.declared.tree.MetricTree.{MetricTree}
use Rattle.client_engine.specs.Along.{Along}

-- a lane of a producer of pushed values
abbrev pub ValueLane : Type 0
ValueLane = Lane PushedValue KeyedInt (Unit {0}) ℤ

-- the kind of a metric of the values at this leaf
abbrev pub value_kind_at : ValueLeaf → Aggregation → LKind
value_kind_at source aggregation = kinds.PushedValue source.atom_id source.leaf aggregation

-- The metric is of pushed values at a leaf, and the lane collects for it, after these steps of what was installed.
pub record ValuesAlong (metric : LMetric) (installed : Installation) (steps : List Step) (lane : ValueLane)
    : Type 0 where
  pub source : ValueLeaf
  pub aggregation : Aggregation
  pub values : metric.kind ≡ value_kind_at source aggregation
  pub along : Along (value_asking installed metric source aggregation) pushed_law steps lane

-- a value as a report shows it, with its part of time
abbrev pub shown_value : ℕ → ℕ → ℤ → NumBucket
shown_value start end value = record { start = start; end = end; value = value }

-- a key with its values, as a report shows it
abbrev pub value_entry : List LeafTree → List Slice → List NumBucket → NumTree
value_entry leaves slices buckets = record { leaves = leaves; slices = slices; overflow = false; buckets = buckets }

-- a metric of values as a report shows it, of what its producer handed out
abbrev pub values_shown_by : ℕ → LMetric → Taken (Row ℤ) → MetricTree
values_shown_by base metric closed = record {
  id = metric.id;
  base = base;
  size = metric.size;
  dropped = closed.dropped;
  not_kept = closed.not_kept;
  missing = closed.missing;
  body = values_body closed.rows;
}
