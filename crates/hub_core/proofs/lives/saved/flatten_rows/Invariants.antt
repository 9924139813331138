-- The items of the rows so far were added, and each is one that can be saved.
use Rattle.hub_core.proofs.SavedRowsLemmas.{AreAdded}
use Rattle.hub_core.proofs.lives.saved.flatten_rows.Given as goal

abbrev pub invariant-loop-place : goal.invariant-loop-place
invariant-loop-place l = AreAdded l.slots.entries l.place l.fn.out l.out
