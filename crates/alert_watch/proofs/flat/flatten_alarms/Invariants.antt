-- The items of those that were seen were added.
use Rattle.std.proofs.Common.{◌≡◌, ◌++◌, take}
use Rattle.std.specs.List.{flat_map}
use Rattle.alert_watch.specs.WatchItems.{alarm_items}
use Rattle.alert_watch.proofs.flat.flatten_alarms.Given as goal

abbrev pub invariant-loop-alarm : goal.invariant-loop-alarm
invariant-loop-alarm l = l.out ≡ l.fn.out ++ flat_map alarm_items (take l.alarm-index l.alarms)
