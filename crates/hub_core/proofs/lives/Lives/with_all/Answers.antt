-- One more is live, or it may not be.
use Rattle.std.proofs.Common.{[], ◌∷◌, ◌++◌, sym, subst}
use Rattle.hub_core.proofs.SavedRowsLemmas.{AreSoFar, none_so_far, one_more}
use Rattle.hub_core.proofs.lives.Lives.with_all.Goals as goal

pub loop-carried-init : goal.loop-carried-init
loop-carried-init c = none_so_far c.new-lives.result.slots.entries c.new-lives.ensures.slots

pub loop-carried-preserved : goal.loop-carried-preserved
loop-carried-preserved c =
    subst (λ b. AreSoFar b c.in_ok-next.next.slots.entries (c.loop-carried.yielded ++ c.in-Some.carried ∷ []))
    (sym c.both-fits.ensures)
    (one_more c.loop-carried.fits c.in_ok-next.goes c.loop-carried.lives.slots.entries c.in_ok-next.next.slots.entries
    c.loop-carried.yielded c.in-Some.carried c.loop-carried.invariant c.in_ok-next.ensures)
