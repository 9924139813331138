-- The values so far were added.
use Rattle.std.proofs.Common.{◌≡◌, ◌++◌, map}
use Rattle.client_engine.specs.Leaves.{value_tree}
use Rattle.client_engine.proofs.leaves.add_values.Given as goal

abbrev pub invariant-loop-value : goal.invariant-loop-value
invariant-loop-value l = l.leaves ≡ l.fn.leaves ++ map (value_tree l.place) l.yielded
