use Rattle.std.proofs.Common.{◌≡◌, drop}
use Rattle.link_rules.specs.EntityNames.{unknown_watched}
use Rattle.link_rules.proofs.names.judge_watched.Given as goal

-- the first fault of what is left is that of all
abbrev pub invariant-loop-alert : goal.invariant-loop-alert
invariant-loop-alert l =
    unknown_watched l.known (drop l.alert-index l.alerts) ≡ unknown_watched l.known l.alerts
