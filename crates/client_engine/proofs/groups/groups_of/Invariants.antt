-- The groups so far are shown, and the others are still to come.
use Rattle.std.proofs.Common.{◌≡◌, List, ◌++◌, map}
use Rattle.client_engine.specs.Groups.{group_tree}
use Rattle.client_engine.proofs.groups.groups_of.Given as goal

abbrev pub invariant-loop-group : goal.invariant-loop-group
invariant-loop-group g l =
    (done : List (_ × List _)) × (l.initial.group-iterator ≡ done ++ l.group-iterator)
    × (l.trees ≡ map (group_tree g.S.RowShape.tree) done)
