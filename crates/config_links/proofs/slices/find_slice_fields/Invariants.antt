use Rattle.std.proofs.Common.{◌≡◌, drop}
use Rattle.config_links.specs.MetricSlices.{slice_fields}
use Rattle.config_links.proofs.slices.find_slice_fields.Given as goal

-- the first link of what is left is that of all
abbrev pub invariant-loop-sets : goal.invariant-loop-sets
invariant-loop-sets l = slice_fields (drop l.sets-index l.links) l.atom ≡ slice_fields l.links l.atom
