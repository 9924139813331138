-- How a report shows a metric of durations.
use Rattle.std.specs.Prelude.{ℕ, pos, ◌-◌, ◌^◌, min, false, List}
use Rattle.atom_record.specs.declared.value.Slice.{Slice}
use Rattle.config_links.specs.declared.linked.LMetric.{LMetric}
use Rattle.metric_producer.specs.declared.row.Row.{Row}
use Rattle.bucket_meaning.specs.Kept.{Taken}
use Rattle.metric_meaning.specs.Reports.{time_groups}
use Rattle.report_writer.specs.declared.tree.LeafTree.{LeafTree}
use Rattle.report_writer.specs.declared.tree.NumBucket.{NumBucket}
use Rattle.report_writer.specs.declared.tree.NumTree.{NumTree}
use Rattle.report_writer.specs.declared.tree.MetricTree.{MetricTree}
use Rattle.report_writer.specs.declared.tree.MetricBody.TheVariants as bodies

-- a time as a report shows it, with its part of time: it ends where a signed number of 64 bits does
abbrev pub shown_time : ℕ → ℕ → ℕ → NumBucket
shown_time start end time = record { start = start; end = end; value = pos (min time (2 ^ 63 - 1)) }

-- a key with its times, as a report shows it
abbrev pub time_entry : List LeafTree → List Slice → List NumBucket → NumTree
time_entry leaves slices buckets = record { leaves = leaves; slices = slices; overflow = false; buckets = buckets }

-- a metric of durations as a report shows it, of what its producer handed out
abbrev pub durations_shown_by : ℕ → LMetric → Taken (Row ℕ) → MetricTree
durations_shown_by base metric closed = record {
  id = metric.id;
  base = base;
  size = metric.size;
  dropped = closed.dropped;
  not_kept = closed.not_kept;
  missing = closed.missing;
  body = bodies.Durations (time_groups closed.rows);
}
