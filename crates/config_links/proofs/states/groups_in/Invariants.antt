use Rattle.std.proofs.Common.{◌≡◌, map}
use Rattle.config_links.specs.LinkedForm.{linked_group}
use Rattle.config_links.proofs.states.groups_in.Given as goal

-- the groups so far are those of the definitions so far
abbrev pub invariant-loop-def : goal.invariant-loop-def
invariant-loop-def l = l.groups ≡ map linked_group l.yielded
