-- Those so far are live, or they may not be.
use Rattle.hub_core.proofs.SavedRowsLemmas.{AreSoFar}
use Rattle.hub_core.proofs.lives.Lives.with_all.Given as goal

abbrev pub invariant-loop-carried : goal.invariant-loop-carried
invariant-loop-carried l = AreSoFar l.fits l.lives.slots.entries l.yielded
