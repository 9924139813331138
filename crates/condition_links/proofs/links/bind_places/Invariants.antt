-- The values so far are bound, and the others come after them.
use Rattle.std.proofs.Common.{◌≡◌, List, ◌++◌}
use Rattle.atom_record.specs.declared.value.Leaf.{Leaf}
use Rattle.condition_links.specs.LinkBinds.{binds_of}
use Rattle.condition_links.proofs.links.bind_places.Given as goal

abbrev pub invariant-loop-value : goal.invariant-loop-value
invariant-loop-value l = (done : List Leaf) ×
    ((l.binds ≡ binds_of l.places done) × (done ++ l.value-iterator ≡ l.fn.values))
