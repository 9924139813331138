-- The buckets have come so far, where all of them end before the end of time, and each has so many rows.
use Rattle.std.proofs.Common.{◌+◌, ◌*◌, ◌<◌}
use Rattle.bucket_meaning.specs.Limits.{time_limit}
use Rattle.value_metric.proofs.RowsKept.{AreAlong, IsCount}
use Rattle.value_metric.proofs.value_books.keep_full.Given as goal

abbrev pub invariant-loop-turn : goal.invariant-loop-turn
invariant-loop-turn l =
    let buckets = l.buckets in
    (buckets.start + buckets.number * buckets.size < time_limit
    → AreAlong buckets.hides_zeros l.table.rows buckets.size buckets.start buckets.number l.fn.kept l.rows
    l.kept l.turn l.end)
    × IsCount buckets.hides_zeros l.table.rows buckets.size buckets.start buckets.number l.fn.kept l.rows
