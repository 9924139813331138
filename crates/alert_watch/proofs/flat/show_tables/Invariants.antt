-- Those that were seen are such.
use Rattle.std.proofs.Common.{take, All}
use Rattle.alert_watch.specs.Watches.{KeyCounts}
use Rattle.alert_watch.specs.WatchItems.{FitsPartTable}
use Rattle.alert_watch.proofs.flat.show_tables.Given as goal

abbrev pub invariant-loop-table : goal.invariant-loop-table
invariant-loop-table l =
    All (λ (table : KeyCounts). FitsPartTable table.bound table.rows) (take l.table-index l.tables)
