use Rattle.std.proofs.Common.{◌≡◌, drop}
use Rattle.link_rules.specs.LinkFaults.{first_in}
use Rattle.link_rules.specs.EntityLimits.{lifetime_limit}
use Rattle.link_rules.proofs.limits.judge_lifetimes.Given as goal

-- the first fault of what is left is that of all
abbrev pub invariant-loop-def : goal.invariant-loop-def
invariant-loop-def l = first_in lifetime_limit (drop l.def-index l.defs) ≡ first_in lifetime_limit l.defs
