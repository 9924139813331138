-- No bucket of those so far ends before the least end so far.
use Rattle.std.proofs.Common.{take}
use Rattle.client_engine.specs.Woken.{AllDue}
use Rattle.client_engine.proofs.tracks.least_end.Given as goal

abbrev pub invariant-loop-place : goal.invariant-loop-place
invariant-loop-place l = AllDue l.least (take l.place l.tracks)
