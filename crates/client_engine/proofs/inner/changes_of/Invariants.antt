-- What is told of the keys so far, predicates know what they knew, and few questions were asked.
use Rattle.std.proofs.Common.{◌≡◌}
use Rattle.client_engine.specs.InnerTold.{HasChanges}
use Rattle.client_engine.proofs.InnerAskedLemmas.{AsksSoFar}
use Rattle.client_engine.proofs.inner.changes_of.Given as goal

abbrev pub invariant-loop-place : goal.invariant-loop-place
invariant-loop-place g l =
    HasChanges g.K.Inners.stands l.keys l.metric l.fn.brought l.fn.stays l.fn.conditions l.place l.changes
    × (l.conditions ≡ l.fn.conditions)
    × AsksSoFar g.K.Inners.stands l.keys l.fn.stays l.place l.fn.asks l.asks
