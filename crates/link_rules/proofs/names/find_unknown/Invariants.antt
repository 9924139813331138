use Rattle.std.proofs.Common.{◌≡◌, drop}
use Rattle.link_rules.specs.EntityNames.{first_unknown}
use Rattle.link_rules.proofs.names.find_unknown.Given as goal

abbrev pub invariant-loop-name : goal.invariant-loop-name
invariant-loop-name l = first_unknown l.known (drop l.name-index l.names) ≡ first_unknown l.known l.names
