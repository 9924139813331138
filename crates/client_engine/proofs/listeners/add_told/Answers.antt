use Rattle.std.proofs.Common.{◌∙◌, [], arith}
use Rattle.client_engine.specs.Waking.{is_told_at}
use Rattle.known_conditions.proofs.ListsLemmas.{places_more}
use Rattle.known_conditions.proofs.MarksLemmas.{get_or_any}
use Rattle.client_engine.proofs.listeners.add_told.Goals as goal

-- those under one state more, if it is told
pub loop-state-preserved : goal.loop-state-preserved
loop-state-preserved c =
    c.in_ok-add_if.ensures
    ∙ places_more c.args.lists.now (is_told_at c.args.states.now c.args.id) c.loop-state.state c.as_slice.result.now
    c.tells.result c.tells.ensures (c.as_slice.ensures ∙ c.index-lists-state.is
    ∙ get_or_any c.args.lists.now c.loop-state.state c.index-lists-state.result [] (omega arith)) c.args.woken.now.items
    c.loop-state.woken.items c.loop-state.invariant
