-- A watch is built of what was saved of it.
use Rattle.std.proofs.lemmas.Result.{err_from_is_err_and}
use Rattle.alert_watch.proofs.WatchItemsLemmas.{watch_fails, no_watch, watch_built}
use Rattle.alert_watch.proofs.flat.AlertWatchFlat.build.Goals as goal

-- nothing of the kind stands there
pub returns-in_err-saved : goal.returns-in_err-saved
returns-in_err-saved c =
    let p = err_from_is_err_and c.from_residual.result c.from_residual.ensures.1 in
    rw (p.1, p.2) (watch_fails c.args.items.now c.args.place c.in_err-saved.field-0.0 c.in_err-saved.ensures)

-- it was saved of no watch
pub returns-in_err-watch : goal.returns-in_err-watch
returns-in_err-watch c =
    let p = err_from_is_err_and c.from_residual-in_err-watch.result
    c.from_residual-in_err-watch.ensures.1 in
    rw (p.1, p.2) (no_watch c.args.items.now c.args.place c.in_ok-saved.saved c.in_ok-saved.next c.in_ok-saved.ensures
    c.in_err-watch.field-0.0 c.in_err-watch.ensures)

-- it was saved of this one
pub returns : goal.returns
returns c =
    watch_built c.args.items.now c.args.place c.in_ok-saved.saved c.in_ok-saved.next c.in_ok-saved.ensures
    c.in_ok-watch.watch c.in_ok-watch.ensures
