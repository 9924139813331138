use Rattle.std.proofs.Common.{◌≡◌, ◌++◌, map, drop}
use Rattle.link_rules.specs.LinkFaults.{first_in}
use Rattle.config_links.specs.LinkAlerts.{bad_alert, linked_alert}
use Rattle.config_links.proofs.alerts.alerts_in.Given as goal

-- the first fault of what is left is that of all, and what was linked and what is left are all
abbrev pub invariant-loop-def : goal.invariant-loop-def
invariant-loop-def l = record {
  judged : first_in (bad_alert l.known l.metrics) (drop l.def-index l.defs)
      ≡ first_in (bad_alert l.known l.metrics) l.defs;
  linked : l.linked ++ map (linked_alert l.known l.metrics) (drop l.def-index l.defs)
      ≡ map (linked_alert l.known l.metrics) l.defs;
}
