use Rattle.std.proofs.Common.{◌≡◌, drop}
use Rattle.std.specs.List.{list_any}
use Rattle.config_links.specs.MetricSlices.{is_atom}
use Rattle.config_links.proofs.slices.is_sliced.Given as goal

-- one that is left is the atom exactly if one of all is
abbrev pub invariant-loop-atom : goal.invariant-loop-atom
invariant-loop-atom l =
    list_any (λ atom. is_atom atom l.number) (drop l.atom-index l.atoms)
    ≡ list_any (λ atom. is_atom atom l.number) l.atoms
