-- The differences of the keys so far came.
use Rattle.std.proofs.Common.{map, take}
use Rattle.std.specs.List.{flat_map}
use Rattle.bucket_meaning.specs.Marks.{Came}
use Rattle.metric_kinds.specs.Diffs.{key_diff}
use Rattle.value_metric.specs.ValueBooksStand.{TakesValueMarks}
use Rattle.value_metric.proofs.pulled_value.arrive_all.Given as goal

abbrev pub invariant-loop-place : goal.invariant-loop-place
invariant-loop-place l =
    TakesValueMarks l.fn.books l.books (map Came (flat_map (key_diff l.spec l.starts) (take l.place l.ends)))
