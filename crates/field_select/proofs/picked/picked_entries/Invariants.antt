use Rattle.std.proofs.Common.{◌≡◌, ◌++◌, drop, filter}
use Rattle.field_select.specs.LeafValues.{some_leaf_picks}
use Rattle.field_select.proofs.picked.picked_entries.Given as goal

-- the entries that were kept, and those that some leaf picks of what is left, are all that are picked
abbrev pub invariant-loop-entry : goal.invariant-loop-entry
invariant-loop-entry l =
    l.kept ++ filter (some_leaf_picks l.leaves l.entries) (drop l.entry-index l.entries) ≡ filter
    (some_leaf_picks l.leaves l.entries) l.entries
