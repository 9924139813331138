-- The ids that were seen are of 32 bits.
use Rattle.std.proofs.Common.{All, take}
use Rattle.state_slicer.specs.StateItems.{HasNarrowId}
use Rattle.state_slicer.proofs.flat.have_narrow_ids.Given as goal

abbrev pub invariant-loop-place : goal.invariant-loop-place
invariant-loop-place l = All HasNarrowId (take l.place l.table.rows)
