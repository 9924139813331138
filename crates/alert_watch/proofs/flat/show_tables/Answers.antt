-- One more is such, and in the end all are.
use Rattle.atom_record.proofs.LoopLemmas.{holds_one, holds_all}
use Rattle.alert_watch.specs.Watches.{KeyCounts}
use Rattle.alert_watch.specs.WatchItems.{FitsPartTable}
use Rattle.alert_watch.proofs.flat.show_tables.Goals as goal

pub loop-table-preserved : goal.loop-table-preserved
loop-table-preserved c =
    holds_one c.args.tables.now c.loop-table.table-index c.table-item.result c.loop-table-test.true c.table-item.is
    (λ (table : KeyCounts). FitsPartTable table.bound table.rows) c.loop-table.invariant c.show_table.ensures

pub returns : goal.returns
returns c = holds_all c.args.tables.now c.loop-table.table-index c.loop-table-test.false
    (λ (table : KeyCounts). FitsPartTable table.bound table.rows) c.loop-table.invariant
