-- The items of those that were seen were added.
use Rattle.std.proofs.Common.{◌≡◌, ◌++◌, take}
use Rattle.std.specs.List.{flat_map}
use Rattle.alert_watch.proofs.AddedLemmas.{table_part}
use Rattle.alert_watch.proofs.flat.flatten_tables.Given as goal

abbrev pub invariant-loop-table : goal.invariant-loop-table
invariant-loop-table l = l.out ≡ l.fn.out ++ flat_map table_part (take l.table-index l.tables)
