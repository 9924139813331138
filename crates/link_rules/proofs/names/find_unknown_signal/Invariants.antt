use Rattle.std.proofs.Common.{◌≡◌, drop}
use Rattle.std.specs.List.{flat_map}
use Rattle.link_rules.specs.EntityNames.{first_unknown, matchers_of_activation}
use Rattle.link_rules.proofs.names.find_unknown_signal.Given as goal

abbrev pub invariant-loop-activation : goal.invariant-loop-activation
invariant-loop-activation l =
    first_unknown l.known (flat_map matchers_of_activation (drop l.activation-index l.activations))
    ≡ first_unknown l.known (flat_map matchers_of_activation l.activations)
