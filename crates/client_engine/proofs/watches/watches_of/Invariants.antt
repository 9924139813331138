-- The alerts so far that are on the metric have their watches.
use Rattle.std.proofs.Common.{take}
use Rattle.client_engine.specs.Watches.{AreNewWatches}
use Rattle.client_engine.proofs.watches.watches_of.Given as goal

abbrev pub invariant-loop-alert : goal.invariant-loop-alert
invariant-loop-alert l = AreNewWatches (take l.alert-index l.alerts) l.metric l.watches.items
