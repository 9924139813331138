-- One more alert is shown.
use Rattle.std.proofs.Common.{◌<◌, length, rules}
use Rattle.client_engine.proofs.AlarmsLemmas.{one_shown}
use Rattle.client_engine.proofs.alarms.alarms_of.Goals as goal

pub loop-place-preserved : goal.loop-place-preserved
loop-place-preserved c =
    let inside : c.loop-place.place < length c.args.alerts.now = search rules in
    one_shown c.args.alerts.now c.args.tracks.now c.loop-place.place inside c.loop-place.shown c.loop-place.invariant
    c.show_at.new.shown c.in_ok-show_at.ensures
