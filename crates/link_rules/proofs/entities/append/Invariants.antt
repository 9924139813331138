use Rattle.std.proofs.Common.{◌≡◌, ◌++◌, map}
use Rattle.link_rules.proofs.entities.append.Given as goal

abbrev pub invariant-loop-def : goal.invariant-loop-def
invariant-loop-def g l = l.metrics ≡ l.fn.metrics ++ map g.D.MetricDef.metric l.yielded
