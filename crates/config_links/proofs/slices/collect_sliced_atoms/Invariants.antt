use Rattle.std.proofs.Common.{◌≡◌, take}
use Rattle.config_links.specs.MetricSlices.{sliced_atoms}
use Rattle.config_links.proofs.slices.collect_sliced_atoms.Given as goal

-- the atoms so far are those of the slices so far
abbrev pub invariant-loop-id : goal.invariant-loop-id
invariant-loop-id l = l.atoms ≡ sliced_atoms l.scope (take l.id-index l.slices)
