-- What a producer of longest durations stands for.
use Rattle.std.specs.Prelude.{ℕ, ◌<◌, ◌≤◌, List}
use Rattle.atom_record.specs.declared.value.MetricKey.{MetricKey}
use Rattle.bucket_meaning.specs.Marks.{Books}
use Rattle.bucket_meaning.specs.Meaning.{books_by}
use Rattle.metric_producer.specs.Calls.{standing_of}
use Rattle.metric_producer.specs.Collecting.{calls_mean, Law}
use Rattle.metric_producer.specs.declared.row.Row.{Row}
use Rattle.duration_metric.specs.declared.change.InnerEvent.{InnerEvent}
use Rattle.duration_metric.specs.declared.change.InnerDelta.{InnerDelta}
use Rattle.duration_metric.specs.declared.sparse.MaxProducer.{MaxProducer}
use Rattle.duration_metric.specs.InnerKeys.{DurationParams, DurationCall, duration_demands}
use Rattle.duration_metric.specs.SparseCalls.{sparse_collecting}
use Rattle.duration_metric.specs.SparseBooksStand.{HoldsTimes}
use Rattle.duration_metric.specs.SparseEntries.{KeysStand}

-- The producer holds these books after these calls, and its inner keys are those after them; buckets have a length, and
-- no call came after the end of the open one.
pub record HasSparse (it : MaxProducer) (params : DurationParams) (calls : List DurationCall)
    (books : Books (MetricKey × ℕ)) : Type 0 where
  pub held : HoldsTimes it.books params.spec.bound books
  pub keys : KeysStand it.keys params.spec calls (standing_of (duration_demands params) calls).last
  pub sized : 0 < params.size
  pub in_bucket : (standing_of (duration_demands params) calls).last
      ≤ (standing_of (duration_demands params) calls).next_end

-- what calls mean for longest durations
abbrev pub sparse_mean : DurationParams → List DurationCall → Books (MetricKey × ℕ)
sparse_mean = books_by (calls_mean sparse_collecting)

-- the producer was made with these, and has got these calls
abbrev pub SparseStandsFor : MaxProducer → DurationParams → List DurationCall → Type 0
SparseStandsFor it params calls = HasSparse it params calls (sparse_mean params calls)

-- the law of longest durations
abbrev pub sparse_law : Law MaxProducer DurationParams InnerEvent InnerDelta (MetricKey × ℕ) MetricKey ℕ (Row ℕ)
sparse_law = record { stands = SparseStandsFor; collecting = sparse_collecting }
