-- It is caught up by the last frame, and linked as it was.
use Rattle.std.proofs.Common.{Ok, refl, sym, ap, ◌∙◌}
use Rattle.std.proofs.lemmas.Result.{on_ok_weaker}
use Rattle.config_links.specs.declared.linked.Linked.{Linked}
use Rattle.hub_core.specs.Sleeping.{moment_of_clock}
use Rattle.hub_core.proofs.SleepingLemmas.{wakes}
use Rattle.hub_core.proofs.carried.Carried.wake.Goals as goal

pub invariant_of-self : goal.invariant_of-self
invariant_of-self c = c.self.invariant ∙ ap (λ (l : Linked). Ok l) (sym c.catch_up.ensures.linked)

pub returns-clause-same : goal.returns-clause-same
returns-clause-same c =
    rw (← c.self.view_is) (record { name = refl; config = refl; linked = c.catch_up.ensures.linked })

pub returns-clause-caught : goal.returns-clause-caught
returns-clause-caught c =
    rw (← c.self.view_is) (on_ok_weaker c.catch_up.result
    (wakes c.self.inside.instance (moment_of_clock c.args.clock) c.catch_up.new.self c.args.clock.timely)
    c.catch_up.ensures.caught)
