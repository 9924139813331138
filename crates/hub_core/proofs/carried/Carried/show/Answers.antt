-- It is linked as it was, whatever comes.
use Rattle.std.proofs.Common.{Ok, refl, sym, ap, ◌∙◌}
use Rattle.config_links.specs.declared.linked.Linked.{Linked}
use Rattle.hub_core.proofs.carried.Carried.show.Goals as goal

pub invariant_of-self : goal.invariant_of-self
invariant_of-self c = c.self.invariant ∙ ap (λ (l : Linked). Ok l) (sym c.show.ensures.linked)

pub returns-clause-same : goal.returns-clause-same
returns-clause-same c =
    rw (← c.self.view_is) (record { name = refl; config = refl; linked = c.show.ensures.linked })
