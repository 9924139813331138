-- The alerts so far are shown.
use Rattle.client_engine.proofs.AlarmsLemmas.{AreShown}
use Rattle.client_engine.proofs.alarms.alarms_of.Given as goal

abbrev pub invariant-loop-place : goal.invariant-loop-place
invariant-loop-place l = AreShown l.alerts l.tracks l.place l.shown
