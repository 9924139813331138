-- A lane of counts is built of its parts.
use Rattle.std.proofs.Common.{List, sym, subst}
use Rattle.std.proofs.lemmas.Result.{err_from_is_err_and}
use Rattle.flat_form.specs.Flat.{IsBuilt}
use Rattle.alert_watch.specs.Watches.{WatchContents}
use Rattle.client_engine.specs.SavedLanes.{watched_items, IsWatchedLane}
use Rattle.client_engine.proofs.SavedLanesLemmas.{watched_of, watched_fails, watched_built}
use Rattle.client_engine.proofs.kinds.counts.saved.CountLaneFlat.build.Goals as goal

-- no such parts stand there
pub returns-in_err-form : goal.returns-in_err-form
returns-in_err-form c =
    let p = err_from_is_err_and c.from_residual.result c.from_residual.ensures.1 in
    rw (p.1, p.2) (watched_fails c.args.items.now c.args.place c.in_err-form.field-0.0 c.in_err-form.ensures)

-- the lane of these parts
pub returns : goal.returns
returns c =
    subst (λ (watches : List WatchContents). IsBuilt IsWatchedLane watched_items c.args.items.now c.args.place
    (watched_of (c.in_ok-form.form.0, watches)) c.in_ok-form.next) (sym c.into_vec.ensures)
    (watched_built c.args.items.now c.args.place c.in_ok-form.form c.in_ok-form.next c.in_ok-form.ensures)
