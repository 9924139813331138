-- Those so far are added.
use Rattle.std.proofs.Common.{◌≡◌, ◌++◌, map, take}
use Rattle.metric_meaning.specs.AlarmTrees.{alarm_tree}
use Rattle.client_engine.proofs.alarms.list.Given as goal

abbrev pub invariant-loop-place : goal.invariant-loop-place
invariant-loop-place l = l.trees ≡ l.fn.trees ++ map (alarm_tree l.alert.id) (take l.place l.alarms)
