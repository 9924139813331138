-- Its instance is linked as its bytes say.
use Rattle.std.proofs.Common.{Ok, sym, ap, ◌∙◌}
use Rattle.config_links.specs.declared.linked.Linked.{Linked}
use Rattle.hub_core.proofs.carried.Carried.new.Goals as goal

pub invariant_of-result : goal.invariant_of-result
invariant_of-result c =
    c.requires.accepted.read ∙ ap (λ (l : Linked). Ok l) (sym c.in_ok-instance.ensures.linked)
