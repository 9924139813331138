-- One more is added, and in the end all are.
use Rattle.std.proofs.lemmas.Result.{err_from_is_err_and}
use Rattle.atom_record.proofs.LoopLemmas.{adds_one, adds_all}
use Rattle.dim_table.proofs.TableItemsLemmas.{front_more}
use Rattle.alert_watch.proofs.AddedLemmas.{table_part}
use Rattle.alert_watch.proofs.flat.flatten_tables.Goals as goal

pub loop-table-preserved : goal.loop-table-preserved
loop-table-preserved c =
    adds_one c.args.tables.now c.loop-table.table-index c.table-item.result c.loop-table-test.true c.table-item.is
    table_part _ _ _ c.loop-table.invariant c.in_ok-flatten_table.ensures.added

pub returns-clause-added : goal.returns-clause-added
returns-clause-added c =
    adds_all c.args.tables.now c.loop-table.table-index c.loop-table-test.false table_part _ _ c.loop-table.invariant

pub returns-in_err-flatten_table-clause-err : goal.returns-in_err-flatten_table-clause-err
returns-in_err-flatten_table-clause-err c =
    let p = err_from_is_err_and c.from_residual.result c.from_residual.ensures.1 in
    rw p.1 (front_more _ _ _ _ c.loop-table.invariant c.in_err-flatten_table.ensures.err)
