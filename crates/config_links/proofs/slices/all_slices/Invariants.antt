use Rattle.std.proofs.Common.{◌≡◌, map, take}
use Rattle.config_links.specs.MetricSlices.{linked_slice}
use Rattle.config_links.proofs.slices.all_slices.Given as goal

-- the slices so far are those of the ids so far
abbrev pub invariant-loop-id : goal.invariant-loop-id
invariant-loop-id l = l.slices ≡ map (linked_slice l.scope l.links) (take l.id-index l.ids)
