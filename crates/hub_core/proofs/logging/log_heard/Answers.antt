-- The frame has an id: first the names of the id, then those of every id.
use Rattle.std.proofs.Common.{ℕ, List, [], ◌++◌, Option, sym, subst, ◌∙◌}
use Rattle.std.specs.Option.{option_map_or}
use Rattle.std.proofs.lemmas.Result.{on_ok_weaker}
use Rattle.matcher_table.specs.Contents.{contents_of}
use Rattle.id_notes.specs.declared.notes.Notes.{Notes}
use Rattle.id_notes.specs.Noted.{names_under, names_for_all}
use Rattle.client_engine.specs.declared.live_id.LiveId.{LiveId}
use Rattle.hub_core.specs.LiveQuestions.{NamesAsk}
use Rattle.hub_core.specs.LoggedFrames.{logged_of}
use Rattle.hub_core.specs.SlotLogs.{NamedShown}
use Rattle.hub_core.proofs.KeptLemmas.{kept_twice}
use Rattle.hub_core.proofs.ShownNamesLemmas.{shown_both, asks_more, asks_both}
use Rattle.hub_core.proofs.logging.log_heard.Goals as goal

-- the names that are noted for frames of an id, and none for those without one
abbrev noted : Notes LiveId → Option ℕ → List LiveId
noted notes id = option_map_or (λ (n : ℕ). names_under notes n ++ names_for_all notes) id []

pub log_named-requires-in-Some-clause-held : goal.log_named-requires-in-Some-clause-held
log_named-requires-in-Some-clause-held g c =
    c.log_named.ensures.kept.all (contents_of c.args.logged.now.table.now) c.requires.held

pub returns-in_ok-log_named-in-Some-clause-shown : goal.returns-in_ok-log_named-in-Some-clause-shown
returns-in_ok-log_named-in-Some-clause-shown g c =
    let logged = logged_of c.args.logged.now in
    let notes = c.args.notes.now in
    let first = c.args.slots.now.entries in
    let second = c.log_named.new.slots.entries in
    let third = c.log_named-in-Some.new.slots.entries in
    on_ok_weaker c.log_named-in-Some.result
    (λ others. subst (λ (id : Option ℕ). NamedShown logged (noted notes id) first third)
    (sym c.in-Some.is ∙ c.heard_id.ensures)
    (shown_both logged (names_under notes c.in-Some.id) (names_for_all notes) first second
    (c.requires.apart c.in-Some.id)
    (subst (λ (names : List LiveId). NamedShown logged names first second) c.under.ensures.names
    c.in_ok-log_named-in-Some.ensures.shown) third
    (subst (λ (names : List LiveId). NamedShown logged names second third) c.for_all.ensures.names others)))
    c.log_named-in-Some.ensures.shown

pub returns-in_ok-log_named-in-Some-clause-kept : goal.returns-in_ok-log_named-in-Some-clause-kept
returns-in_ok-log_named-in-Some-clause-kept g c =
    kept_twice c.args.slots.now.entries c.log_named.new.slots.entries c.log_named-in-Some.new.slots.entries
    c.log_named.ensures.kept c.log_named-in-Some.ensures.kept

pub returns-in_ok-log_named-in-Some-clause-asks : goal.returns-in_ok-log_named-in-Some-clause-asks
returns-in_ok-log_named-in-Some-clause-asks g c =
    let logged = logged_of c.args.logged.now in
    let notes = c.args.notes.now in
    let first = c.args.slots.now.entries in
    let second = c.log_named.new.slots.entries in
    let from = c.args.asks.now in
    let middle = c.log_named.new.asks in
    let to = c.log_named-in-Some.new.asks in
    subst (λ (id : Option ℕ). NamesAsk logged (noted notes id) first from to) (sym c.in-Some.is ∙ c.heard_id.ensures)
    (asks_both logged (names_under notes c.in-Some.id) (names_for_all notes) first second
    (c.requires.apart c.in-Some.id)
    (subst (λ (names : List LiveId). NamedShown logged names first second) c.under.ensures.names
    c.in_ok-log_named-in-Some.ensures.shown) from middle to c.log_named.ensures.kept.names
    (subst (λ (names : List LiveId). NamesAsk logged names first from middle) c.under.ensures.names
    c.log_named.ensures.asks)
    (subst (λ (names : List LiveId). NamesAsk logged names second middle to) c.for_all.ensures.names
    c.log_named-in-Some.ensures.asks))

-- where memory is wanting before the others, these asked no more than all
pub returns-in_err-log_named-in-Some-clause-asks : goal.returns-in_err-log_named-in-Some-clause-asks
returns-in_err-log_named-in-Some-clause-asks g c =
    let logged = logged_of c.args.logged.now in
    let notes = c.args.notes.now in
    let first = c.args.slots.now.entries in
    let from = c.args.asks.now in
    let middle = c.log_named.new.asks in
    subst (λ (id : Option ℕ). NamesAsk logged (noted notes id) first from middle)
    (sym c.in-Some.is ∙ c.heard_id.ensures)
    (asks_more logged (names_under notes c.in-Some.id) (names_for_all notes) first from middle
    (subst (λ (names : List LiveId). NamesAsk logged names first from middle) c.under.ensures.names
    c.log_named.ensures.asks))
