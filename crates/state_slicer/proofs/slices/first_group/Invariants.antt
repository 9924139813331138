-- The first group of what is left that lists the value is the first of all.
use Rattle.std.proofs.Common.{◌≡◌, drop}
use Rattle.std.specs.List.{find}
use Rattle.state_slicer.specs.Slices.{lists_value}
use Rattle.state_slicer.proofs.slices.first_group.Given as goal

abbrev pub invariant-loop-group : goal.invariant-loop-group
invariant-loop-group l = find (lists_value l.value) (drop l.group-index l.groups) ≡ find (lists_value l.value) l.groups
