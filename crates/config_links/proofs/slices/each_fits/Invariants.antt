use Rattle.std.proofs.Common.{◌≡◌, drop}
use Rattle.std.specs.List.{list_all}
use Rattle.config_links.specs.MetricSlices.{fits_state}
use Rattle.config_links.proofs.slices.each_fits.Given as goal

-- what is left fits exactly if all do
abbrev pub invariant-loop-sets : goal.invariant-loop-sets
invariant-loop-sets l =
    list_all (fits_state l.atoms) (drop l.sets-index l.links) ≡ list_all (fits_state l.atoms) l.links
