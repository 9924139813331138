-- What stands at the place woke up, under its name.
use Rattle.std.proofs.Common.{refl, sym, ◌∙◌}
use Rattle.std.proofs.lemmas.Result.{on_ok_weaker}
use Rattle.hub_core.specs.Sleeping.{moment_of_clock}
use Rattle.hub_core.proofs.KeptLemmas.{kept_same, kept_written}
use Rattle.hub_core.proofs.PlaceLemmas.{stands_there}
use Rattle.hub_core.proofs.SettledLemmas.{wakes_at, wakes_none, row_there}
use Rattle.hub_core.proofs.settling.wake_at.Goals as goal

pub returns-in-Some-clause-woken : goal.returns-in-Some-clause-woken
returns-in-Some-clause-woken c =
    on_ok_weaker c.wake.result
    (λ caught. wakes_at (moment_of_clock c.args.clock) c.args.place c.args.slots.now.entries _ c.in-Some.live.now
    c.wake.new.self (sym c.in-Some.ensures.value) refl caught) c.wake.ensures.caught

pub returns-in-Some-clause-kept : goal.returns-in-Some-clause-kept
returns-in-Some-clause-kept c =
    let rows = c.args.slots.now.entries in
    let live = c.in-Some.live.now in
    let row = row_there rows c.args.place live (sym c.in-Some.ensures.value) in
    let at = stands_there row.name live rows c.args.place c.in-Some.ensures.unique row.row in
    kept_written row.name live c.wake.new.self c.wake.ensures.same rows _
    (at.there ∙ sym c.in-Some.ensures.value) (at.written c.wake.new.self)

pub returns-in-None-clause-woken : goal.returns-in-None-clause-woken
returns-in-None-clause-woken c =
    wakes_none (moment_of_clock c.args.clock) c.args.place c.args.slots.now.entries (sym c.in-None.ensures.value)

pub returns-in-None-clause-kept : goal.returns-in-None-clause-kept
returns-in-None-clause-kept c = kept_same c.args.slots.now.entries
