-- What contracts see of a producer of sums, and what holds of its tally.
use Rattle.std.specs.Prelude.{ℕ}
use Rattle.atom_record.specs.declared.value.MetricKey.{MetricKey}
use Rattle.dim_table.specs.Table.{Table, keys}
use Rattle.kept_rows.specs.KeptRows.{Keeping}
use Rattle.metric_producer.specs.declared.row.Row.{Row}
use Rattle.duration_metric.specs.declared.inner.InnerTable.{InnerTable}
use Rattle.duration_metric.specs.declared.sum.Span.{Span}
use Rattle.duration_metric.specs.declared.sum.Sums.{Sums}
use Rattle.duration_metric.specs.Tallies.{tally_at, CountsAll, ZerosAmong}

-- A producer of sums: where its open part began, its inner keys, the spans of the open part, the rows of closed parts,
-- and how many inner keys had found no room at the last report.
pub record Summing : Type 0 where
  pub start : ℕ
  pub inner : InnerTable
  pub table : Table MetricKey Span
  pub kept : Keeping (Row ℕ)
  pub reported : ℕ

-- what is seen of it: all but the tally, which says nothing of its own
abbrev pub seen : Sums → Summing
seen it =
    record { start = it.start; inner = it.inner; table = it.table; kept = it.kept; reported = it.reported }

-- The tally counts each inner key that is in it, and each that left it; and a key for which it counts none has a row in
-- the open part, or isn't there.
pub record HasRightTally (it : Sums) : Type 0 where
  pub all : CountsAll (tally_at it.tally) it.inner.keys.rows it.inner.gone
  pub zeros : ZerosAmong it.tally (keys it.table)
