-- The matchers of the activations so far stand after what was there.
use Rattle.std.proofs.Common.{◌≡◌, ◌++◌, take}
use Rattle.std.specs.List.{flat_map}
use Rattle.config_links.specs.OwnMatchers.{activation_matchers}
use Rattle.config_links.proofs.own_matchers.add_starting.Given as goal

abbrev pub invariant-loop-activation : goal.invariant-loop-activation
invariant-loop-activation l =
    l.places ≡ l.fn.places ++ flat_map activation_matchers (take l.activation-index l.activations)
