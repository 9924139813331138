-- The lane of a metric that counts: what it stands for, and how a report shows what it hands out.
use Rattle.std.specs.Prelude.{◌≡◌, ℕ, pos, ◌-◌, ◌^◌, min, Bool, List}
use Rattle.alert_watch.specs.Watches.{WatchContents}
use Rattle.atom_record.specs.declared.value.MetricKey.{MetricKey}
use Rattle.bucket_meaning.specs.Ends.{Moment}
use Rattle.config_links.specs.declared.linked.LMetric.{LMetric}
use Rattle.config_links.specs.declared.linked.LKind.TheVariants as kinds
use Rattle.count_metric.specs.declared.count.CountProducer.{CountProducer}
use Rattle.count_metric.specs.CountStands.{count_law}
use Rattle.metric_producer.specs.declared.row.Row.{Row}
use Rattle.metric_producer.specs.declared.row.CountCell.{CountCell}
use Rattle.bucket_meaning.specs.Kept.{Taken}
use Rattle.metric_lane.specs.LaneStands.{GetsFrame}
use Rattle.metric_lane.specs.declared.lane.Lane.{Lane}
use Rattle.metric_meaning.specs.Histories.{Step, Installation}
use Rattle.metric_calls.specs.CountCalls.{count_asking}
use Rattle.metric_meaning.specs.CountTrees.{CountGroup, counts_body}
use Rattle.report_writer.specs.declared.tree.NumBucket.{NumBucket}
use Rattle.report_writer.specs.declared.tree.MetricTree.{MetricTree}
use Rattle.client_engine.specs.Along.{Along}
use Rattle.client_engine.specs.Watches.{TakeEnds, WatchesAlong}

-- a lane of a producer of counts
abbrev pub CountLane : Type 0
CountLane = Lane CountProducer MetricKey (Unit {0}) CountCell

-- such a lane with the watches of its metric's alerts
pub record WatchedLane : Type 0 where
  pub lane : CountLane
  pub watches : List WatchContents

-- The metric counts, with overflow rows or without, the lane collects for it, and the watches are those of its alerts,
-- after these steps of what was installed.
pub record CountsAlong (metric : LMetric) (installed : Installation) (steps : List Step) (lane : WatchedLane)
    : Type 0 where
  pub overflow : Bool
  pub counts : metric.kind ≡ kinds.Count overflow
  pub along : Along (count_asking installed metric overflow) count_law steps lane.lane
  pub watches : WatchesAlong metric installed steps lane.watches

-- the lane got a frame, and its watches the ends that the frame crosses
abbrev pub CrossesWatched : Moment → WatchedLane → WatchedLane → Type 0
CrossesWatched moment old new =
    GetsFrame count_law old.lane new.lane moment × TakeEnds old.lane.clock moment old.watches new.watches

-- a count as a report shows it, with its part of time: it ends where a signed number of 64 bits does
abbrev pub shown_count : ℕ → ℕ → CountCell → NumBucket
shown_count start end cell = record { start = start; end = end; value = pos (min cell.number (2 ^ 63 - 1)) }

-- the group of a row with a key
abbrev pub shown_group : MetricKey → CountCell → CountGroup
shown_group key cell = (key, cell.overflow)

-- a metric of counts as a report shows it, of what its producer handed out
abbrev pub counts_shown_by : ℕ → LMetric → Taken (Row CountCell) → MetricTree
counts_shown_by base metric closed = record {
  id = metric.id;
  base = base;
  size = metric.size;
  dropped = closed.dropped;
  not_kept = closed.not_kept;
  missing = closed.missing;
  body = counts_body closed.rows;
}
