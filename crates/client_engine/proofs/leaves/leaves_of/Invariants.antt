-- The leaves so far were added, the place is the next one's, and the other leaves come after these.
use Rattle.std.proofs.Common.{◌≡◌, List, ◌++◌, length}
use Rattle.atom_record.specs.declared.value.Leaf.{Leaf}
use Rattle.metric_meaning.specs.KeyTrees.{shown_place, key_trees}
use Rattle.client_engine.proofs.leaves.leaves_of.Given as goal

abbrev pub invariant-loop-leaf : goal.invariant-loop-leaf
invariant-loop-leaf l = (done : List Leaf)
    × ((l.leaves ≡ key_trees 0 done) × (l.place ≡ shown_place (length done)) × (done ++ l.leaf-iterator ≡ l.fn.dims))
