-- No numbers and key stand there.
use Rattle.std.proofs.lemmas.Result.{err_from_is_err_and}
use Rattle.alert_watch.proofs.WatchItemsLemmas.{alarm_fails}
use Rattle.alert_watch.proofs.flat.AlarmFlat.build.Goals as goal

pub returns-in_err-form : goal.returns-in_err-form
returns-in_err-form c =
    let p = err_from_is_err_and c.from_residual.result c.from_residual.ensures.1 in
    rw (p.1, p.2) (alarm_fails c.args.items.now c.args.place c.in_err-form.field-0.0 c.in_err-form.ensures)
