-- What stands under one name more took the frame.
use Rattle.std.proofs.Common.{◌+◌, List, [], ◌∷◌, ◌++◌, take, drop, get_or, sym, subst, arith}
use Rattle.std.proofs.lemmas.List.{take_all, take-append-drop}
use Rattle.matcher_table.specs.Contents.{contents_of}
use Rattle.client_engine.specs.declared.live_id.LiveId.{LiveId}
use Rattle.hub_core.specs.LiveQuestions.{NamesAsk}
use Rattle.hub_core.specs.LoggedFrames.{logged_of}
use Rattle.hub_core.specs.SlotLogs.{NamedShown}
use Rattle.hub_core.proofs.KeptLemmas.{kept_same, kept_twice}
use Rattle.hub_core.proofs.NamesLemmas.{some_name, next_name}
use Rattle.hub_core.proofs.PlaceLemmas.{apart_last}
use Rattle.hub_core.proofs.ShownNamesLemmas.{none_shown, shown_both, asks_none, asks_both, asks_more}
use Rattle.hub_core.proofs.logging.log_named.Goals as goal

pub loop-name-init : goal.loop-name-init
loop-name-init g c =
    let logged = logged_of c.args.logged.now in
    let olds = c.args.slots.now.entries in
    record {
      shown = none_shown logged olds;
      kept = kept_same olds;
      asks = asks_none logged [] olds c.args.asks.now;
    }

pub log_one-requires-clause-held : goal.log_one-requires-clause-held
log_one-requires-clause-held g c =
    c.loop-name.invariant.kept.all (contents_of c.args.logged.now.table.now) c.requires.held

pub loop-name-preserved : goal.loop-name-preserved
loop-name-preserved g c =
    let logged = logged_of c.args.logged.now in
    let names = c.args.names.now in
    let place = c.loop-name.name-index in
    let name = get_or names place some_name in
    let before = take place names in
    let olds = c.args.slots.now.entries in
    let news = c.loop-name.slots.entries in
    let next = c.log_one.new.slots.entries in
    let part = c.loop-name.invariant.shown in
    let here = next_name names place some_name c.requires.distinct (omega arith) in
    let apart = apart_last before name here.fresh in
    record {
      shown = subst (λ (so_far : List LiveId). NamedShown logged so_far olds next) (sym here.next)
          (shown_both logged before (name ∷ []) olds news apart part next
          c.in_ok-log_one.ensures.shown);
      kept = kept_twice olds news next c.loop-name.invariant.kept c.log_one.ensures.kept;
      asks = subst (λ (so_far : List LiveId). NamesAsk logged so_far olds c.args.asks.now
          c.log_one.new.asks) (sym here.next)
          (asks_both logged before (name ∷ []) olds news apart part c.args.asks.now c.loop-name.asks
          c.log_one.new.asks c.loop-name.invariant.kept.names c.loop-name.invariant.asks c.log_one.ensures.asks);
    }

pub returns-clause-shown : goal.returns-clause-shown
returns-clause-shown g c =
    subst (λ (names : List LiveId). NamedShown (logged_of c.args.logged.now) names c.args.slots.now.entries
    c.loop-name.slots.entries)
    (take_all c.loop-name.name-index c.args.names.now (omega arith)) c.loop-name.invariant.shown

pub returns-clause-kept : goal.returns-clause-kept
returns-clause-kept g c = c.loop-name.invariant.kept

pub returns-clause-asks : goal.returns-clause-asks
returns-clause-asks g c =
    subst (λ (names : List LiveId). NamesAsk (logged_of c.args.logged.now) names c.args.slots.now.entries
    c.args.asks.now c.loop-name.asks)
    (take_all c.loop-name.name-index c.args.names.now (omega arith)) c.loop-name.invariant.asks

-- also where memory is wanting
pub returns-in_err-log_one-clause-kept : goal.returns-in_err-log_one-clause-kept
returns-in_err-log_one-clause-kept g c =
    kept_twice c.args.slots.now.entries c.loop-name.slots.entries c.log_one.new.slots.entries c.loop-name.invariant.kept
    c.log_one.ensures.kept

pub returns-in_err-log_one-clause-asks : goal.returns-in_err-log_one-clause-asks
returns-in_err-log_one-clause-asks g c =
    let logged = logged_of c.args.logged.now in
    let names = c.args.names.now in
    let place = c.loop-name.name-index in
    let name = get_or names place some_name in
    let before = take place names in
    let olds = c.args.slots.now.entries in
    let news = c.loop-name.slots.entries in
    let here = next_name names place some_name c.requires.distinct (omega arith) in
    let asks : NamesAsk logged (before ++ name ∷ []) olds c.args.asks.now c.log_one.new.asks =
    asks_both logged before (name ∷ []) olds news (apart_last before name here.fresh)
    c.loop-name.invariant.shown c.args.asks.now c.loop-name.asks c.log_one.new.asks c.loop-name.invariant.kept.names
    c.loop-name.invariant.asks c.log_one.ensures.asks in
    subst (λ (all : List LiveId). NamesAsk logged all olds c.args.asks.now c.log_one.new.asks)
    (take-append-drop (place + 1) names)
    (asks_more logged (take (place + 1) names) (drop (place + 1) names) olds c.args.asks.now
    c.log_one.new.asks
    (subst (λ (so_far : List LiveId). NamesAsk logged so_far olds c.args.asks.now c.log_one.new.asks)
    (sym here.next) asks))
