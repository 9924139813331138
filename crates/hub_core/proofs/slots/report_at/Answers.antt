-- What was found was reported, and all keep what they hold.
use Rattle.std.proofs.Common.{Some, refl, ap, ◌∙◌, sym, subst}
use Rattle.std.specs.Prelude.{IsSome}
use Rattle.hub_core.specs.Sleeping.{moment_of_clock}
use Rattle.hub_core.proofs.KeptLemmas.{kept_written}
use Rattle.hub_core.proofs.ShownLemmas.{shows}
use Rattle.hub_core.proofs.slots.report_at.Goals as goal

pub returns-clause-reports : goal.returns-clause-reports
returns-clause-reports c =
    shows (moment_of_clock c.args.clock) c.args.request c.args.states.now c.args.slots.now.entries _ _
    c.in-Some.live.now c.show.new.self c.in_ok-tree.tree (sym c.in-Some.ensures.value)
    c.in_ok-tree.ensures.reports c.show.ensures.slots.carried.config
    ((c.get_mut.follows.holds c.show.new.self).3 (subst IsSome c.in-Some.ensures.value refl)).0
    (ap Some (c.from_vec.ensures ∙ c.in_ok-write.ensures))

pub returns-clause-same : goal.returns-clause-same
returns-clause-same c =
    kept_written c.args.request.name c.in-Some.live.now c.show.new.self c.show.ensures.slots
    c.args.slots.now.entries _ (sym c.in-Some.ensures.value) (c.get_mut.follows.holds c.show.new.self).0
