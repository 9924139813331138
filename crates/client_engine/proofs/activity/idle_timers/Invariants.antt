-- The activations so far have their timers.
use Rattle.std.proofs.Common.{◌≡◌, take}
use Rattle.client_engine.specs.Activity.{timers_of}
use Rattle.client_engine.proofs.activity.idle_timers.Given as goal

abbrev pub invariant-loop-activation : goal.invariant-loop-activation
invariant-loop-activation l = l.timers ≡ timers_of (take l.activation-index l.activations)
