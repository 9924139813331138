-- As many rows as turns are blank.
use Rattle.std.proofs.Common.{◌≡◌}
use Rattle.state_slicer.proofs.StampLemmas.{blank_front}
use Rattle.state_slicer.proofs.states.forget_all.Given as goal

abbrev pub invariant-loop-place : goal.invariant-loop-place
invariant-loop-place l = l.table ≡ record l.fn.table { rows = blank_front l.place l.fn.table.rows }
