use Rattle.std.proofs.Common.{◌≡◌, ◌++◌, map, drop}
use Rattle.config_links.specs.MetricActivations.{linked_activation}
use Rattle.config_links.proofs.activations.all_activations.Given as goal

-- what was linked and what is left are all
abbrev pub invariant-loop-def : goal.invariant-loop-def
invariant-loop-def l =
    l.made ++ map (linked_activation l.matchers) (drop l.def-index l.defs)
    ≡ map (linked_activation l.matchers) l.defs
