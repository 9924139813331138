-- What stands under the name, if something does, took the frame.
use Rattle.std.proofs.Common.{[], ◌∷◌, refl, sym, ap, subst}
use Rattle.std.specs.Prelude.{IsSome}
use Rattle.std.proofs.lemmas.Result.{on_ok_weaker}
use Rattle.matcher_table.specs.Contents.{contents_of}
use Rattle.hub_core.specs.LoggedFrames.{logged_of}
use Rattle.hub_core.specs.SharedTable.{KeepsSlots}
use Rattle.hub_core.proofs.EvaluationLemmas.{held_are_live}
use Rattle.hub_core.proofs.KeptLemmas.{kept_same, kept_written}
use Rattle.hub_core.proofs.LogLemmas.{found_held}
use Rattle.hub_core.proofs.ShownNamesLemmas.{none_shown, shown_on, shown_past, asks_none, asks_on}
use Rattle.hub_core.proofs.logging.log_found.Goals as goal

pub log-requires-clause-live : goal.log-requires-clause-live
log-requires-clause-live g c =
    let table = contents_of c.args.logged.now.table.now in
    held_are_live table c.in-Some.live.now
    (found_held table c.args.name c.in-Some.live.now c.args.slots.now.entries c.requires.held
    (sym c.in-Some.ensures.value))

pub returns-in-Some-clause-shown : goal.returns-in-Some-clause-shown
returns-in-Some-clause-shown g c =
    let logged = logged_of c.args.logged.now in
    let rows = c.args.slots.now.entries in
    let written = c.get_mut.follows.holds c.log.new.self in
    on_ok_weaker c.log.result
    (λ shows. shown_on logged [] c.args.name rows rows _ refl (none_shown logged rows)
    c.in-Some.live.now c.log.new.self (sym c.in-Some.ensures.value) shows
    (written.3 (subst IsSome c.in-Some.ensures.value refl)).0)
    c.log.ensures.shown

pub returns-in-Some-clause-kept : goal.returns-in-Some-clause-kept
returns-in-Some-clause-kept g c =
    kept_written c.args.name c.in-Some.live.now c.log.new.self c.log.ensures.same c.args.slots.now.entries _
    (sym c.in-Some.ensures.value) (c.get_mut.follows.holds c.log.new.self).0

pub returns-in-Some-clause-asks : goal.returns-in-Some-clause-asks
returns-in-Some-clause-asks g c =
    let logged = logged_of c.args.logged.now in
    let rows = c.args.slots.now.entries in
    let asks = c.args.asks.now in
    asks_on logged [] c.args.name rows rows rows refl (none_shown logged rows)
    c.in-Some.live.now asks asks c.log.new.asks (sym c.in-Some.ensures.value)
    (asks_none logged [] rows asks) c.log.ensures.asks

pub returns-in-None-clause-shown : goal.returns-in-None-clause-shown
returns-in-None-clause-shown g c =
    let logged = logged_of c.args.logged.now in
    let rows = c.args.slots.now.entries in
    shown_past logged [] c.args.name rows rows _ refl (none_shown logged rows)
    (sym c.in-None.ensures.value) (ap (λ (slots : _). slots.entries) c.get_mut.follows.holds-at-none)

pub returns-in-None-clause-kept : goal.returns-in-None-clause-kept
returns-in-None-clause-kept g c =
    subst (λ (rows : _). KeepsSlots c.args.slots.now.entries rows)
    (sym (ap (λ (slots : _). slots.entries) c.get_mut.follows.holds-at-none)) (kept_same c.args.slots.now.entries)

pub returns-in-None-clause-asks : goal.returns-in-None-clause-asks
returns-in-None-clause-asks g c =
    asks_none (logged_of c.args.logged.now) (c.args.name ∷ []) c.args.slots.now.entries c.args.asks.now
