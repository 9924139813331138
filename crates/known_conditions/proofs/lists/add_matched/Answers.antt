use Rattle.std.proofs.Common.{◌∙◌, [], arith}
use Rattle.metric_meaning.specs.Histories.{truth_at}
use Rattle.known_conditions.proofs.ListsLemmas.{places_more}
use Rattle.known_conditions.proofs.MarksLemmas.{get_or_any}
use Rattle.known_conditions.proofs.lists.add_matched.Goals as goal

-- those under one matcher more, if it holds
pub loop-matcher-preserved : goal.loop-matcher-preserved
loop-matcher-preserved c =
    c.in_ok-add_if.ensures
    ∙ places_more c.args.lists.now (λ matcher. truth_at matcher c.args.matched.now) c.loop-matcher.matcher
    c.as_slice.result.now c.is_true_from-holds.result c.is_true_from-holds.ensures
    (c.as_slice.ensures ∙ c.index-lists-matcher.is
    ∙ get_or_any c.args.lists.now c.loop-matcher.matcher c.index-lists-matcher.result [] (omega arith))
    c.args.woken.now.items c.loop-matcher.woken.items
    c.loop-matcher.invariant
