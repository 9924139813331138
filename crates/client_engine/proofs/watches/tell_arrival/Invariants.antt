-- Those so far were told it.
use Rattle.std.proofs.Common.{[], ◌∷◌}
use Rattle.alert_watch.specs.Windows.{KeyArrived}
use Rattle.client_engine.proofs.WatchesLemmas.{TakenBelow}
use Rattle.client_engine.proofs.watches.tell_arrival.Given as goal

abbrev pub invariant-loop-place : goal.invariant-loop-place
invariant-loop-place l = TakenBelow (KeyArrived l.at l.key ∷ []) l.fn.watches.items l.watches.items l.place
