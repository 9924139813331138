-- What stands at the place stands under the name, and took the frame.
use Rattle.std.proofs.Common.{◌≡◌, ◌∙◌, [], ◌∷◌, Some, refl, sym, ap, subst}
use Rattle.std.specs.Prelude.{IsSome}
use Rattle.std.proofs.lemmas.Result.{on_ok_weaker}
use Rattle.matcher_table.specs.Contents.{contents_of}
use Rattle.hub_core.specs.LoggedFrames.{logged_of}
use Rattle.hub_core.specs.Slots.{slot_at}
use Rattle.hub_core.proofs.EvaluationLemmas.{held_are_live}
use Rattle.hub_core.proofs.KeptLemmas.{kept_same, kept_written}
use Rattle.hub_core.proofs.LogLemmas.{found_held}
use Rattle.hub_core.proofs.PlaceLemmas.{slots_written}
use Rattle.hub_core.proofs.ShownNamesLemmas.{none_shown, shown_on, shown_past, asks_none, asks_on}
use Rattle.hub_core.proofs.logging.log_one.Goals as goal

pub log-requires-clause-live : goal.log-requires-clause-live
log-requires-clause-live g c =
    let table = contents_of c.args.logged.now.table.now in
    let live = c.in-Some-get_index_mut.live.now in
    held_are_live table live
    (found_held table c.args.name live c.args.slots.now.entries c.requires.held
    (c.in-Some.ensures.there ∙ sym c.in-Some-get_index_mut.ensures.value))

pub returns-in-Some-get_index_mut-clause-shown : goal.returns-in-Some-get_index_mut-clause-shown
returns-in-Some-get_index_mut-clause-shown g c =
    let logged = logged_of c.args.logged.now in
    let name = c.args.name in
    let rows = c.args.slots.now.entries in
    let old = c.in-Some-get_index_mut.live.now in
    let new = c.log.new.self in
    let there : slot_at name rows ≡ Some old = c.in-Some.ensures.there ∙ sym c.in-Some-get_index_mut.ensures.value in
    on_ok_weaker c.log.result
    (λ shows. shown_on logged [] name rows rows _ refl (none_shown logged rows) old new there shows
    (λ other. ap (slot_at other) (c.in-Some.ensures.written new)
    ∙ slots_written name new rows (subst IsSome (sym there) refl) other))
    c.log.ensures.shown

pub returns-in-Some-get_index_mut-clause-kept : goal.returns-in-Some-get_index_mut-clause-kept
returns-in-Some-get_index_mut-clause-kept g c =
    kept_written c.args.name c.in-Some-get_index_mut.live.now c.log.new.self c.log.ensures.same c.args.slots.now.entries
    _ (c.in-Some.ensures.there ∙ sym c.in-Some-get_index_mut.ensures.value) (c.in-Some.ensures.written c.log.new.self)

pub returns-in-Some-get_index_mut-clause-asks : goal.returns-in-Some-get_index_mut-clause-asks
returns-in-Some-get_index_mut-clause-asks g c =
    let logged = logged_of c.args.logged.now in
    let rows = c.args.slots.now.entries in
    let asks = c.args.asks.now in
    asks_on logged [] c.args.name rows rows rows refl (none_shown logged rows)
    c.in-Some-get_index_mut.live.now asks asks
    c.log.new.asks (c.in-Some.ensures.there ∙ sym c.in-Some-get_index_mut.ensures.value) (asks_none logged [] rows asks)
    c.log.ensures.asks

-- nothing stands there
pub returns-in-None-get_index_mut-clause-shown : goal.returns-in-None-get_index_mut-clause-shown
returns-in-None-get_index_mut-clause-shown g c =
    let logged = logged_of c.args.logged.now in
    let rows = c.args.slots.now.entries in
    shown_past logged [] c.args.name rows rows rows refl (none_shown logged rows)
    (c.in-Some.ensures.there ∙ sym c.in-None-get_index_mut.ensures.value) refl

pub returns-in-None-get_index_mut-clause-kept : goal.returns-in-None-get_index_mut-clause-kept
returns-in-None-get_index_mut-clause-kept g c = kept_same c.args.slots.now.entries

pub returns-in-None-get_index_mut-clause-asks : goal.returns-in-None-get_index_mut-clause-asks
returns-in-None-get_index_mut-clause-asks g c =
    asks_none (logged_of c.args.logged.now) (c.args.name ∷ []) c.args.slots.now.entries c.args.asks.now
