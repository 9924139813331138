-- Those so far were told it.
use Rattle.metric_meaning.specs.AlertSteps.{ended_notices}
use Rattle.client_engine.proofs.WatchesLemmas.{TakenBelow}
use Rattle.client_engine.proofs.watches.close_all.Given as goal

abbrev pub invariant-loop-place : goal.invariant-loop-place
invariant-loop-place l = TakenBelow (ended_notices l.ended) l.fn.watches.items l.watches.items l.place
