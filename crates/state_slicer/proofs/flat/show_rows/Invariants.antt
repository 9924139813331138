-- The states that were seen are of 32 bits.
use Rattle.std.proofs.Common.{All, take}
use Rattle.state_slicer.specs.StateItems.{IsStateRow}
use Rattle.state_slicer.proofs.flat.show_rows.Given as goal

abbrev pub invariant-loop-place : goal.invariant-loop-place
invariant-loop-place l = All IsStateRow (take l.place l.states.rows)
