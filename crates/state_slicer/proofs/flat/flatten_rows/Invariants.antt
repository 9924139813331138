-- What was added are the items of the rows that were seen, and each state is of 32 bits.
use Rattle.std.proofs.Common.{◌≡◌, ◌++◌, All, take}
use Rattle.std.specs.List.{flat_map}
use Rattle.state_slicer.specs.StateItems.{state_row_items, IsStateRow}
use Rattle.state_slicer.proofs.flat.flatten_rows.Given as goal

abbrev pub invariant-loop-place : goal.invariant-loop-place
invariant-loop-place l =
    (l.out ≡ l.fn.out ++ flat_map state_row_items (take l.place l.states.rows))
    × All IsStateRow (take l.place l.states.rows)
