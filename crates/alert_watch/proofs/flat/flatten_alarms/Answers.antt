-- One more is added, and in the end all are.
use Rattle.std.proofs.lemmas.Result.{err_from_is_err_and}
use Rattle.atom_record.proofs.LoopLemmas.{adds_one, adds_all}
use Rattle.dim_table.proofs.TableItemsLemmas.{front_more}
use Rattle.alert_watch.specs.WatchItems.{alarm_items}
use Rattle.alert_watch.proofs.flat.flatten_alarms.Goals as goal

pub loop-alarm-preserved : goal.loop-alarm-preserved
loop-alarm-preserved c =
    adds_one c.args.alarms.now c.loop-alarm.alarm-index c.alarm-item.result c.loop-alarm-test.true c.alarm-item.is
    alarm_items _ _ _ c.loop-alarm.invariant c.in_ok-flatten.ensures.added

pub returns-clause-added : goal.returns-clause-added
returns-clause-added c =
    adds_all c.args.alarms.now c.loop-alarm.alarm-index c.loop-alarm-test.false alarm_items _ _ c.loop-alarm.invariant

pub returns-in_err-flatten-clause-err : goal.returns-in_err-flatten-clause-err
returns-in_err-flatten-clause-err c =
    let p = err_from_is_err_and c.from_residual.result c.from_residual.ensures.1 in
    rw p.1 (front_more _ _ _ _ c.loop-alarm.invariant c.in_err-flatten.ensures.err)
