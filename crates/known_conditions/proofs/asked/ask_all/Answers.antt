use Rattle.std.proofs.Common.{◌∙◌}
use Rattle.known_conditions.proofs.AskedLemmas.{asked_first, asked_one_more, asked_no_more}
use Rattle.known_conditions.proofs.asked.ask_all.Goals as goal

-- none of the links is asked yet
pub loop-at-init : goal.loop-at-init
loop-at-init g c =
    c.in_ok-ask_nothing.ensures ∙ asked_first c.args.links.now (g.A.Asked.reading c.args.asked.now) c.args.predicates

-- one more link, to one of the predicates
pub loop-at-preserved-in-Continue-branch-2 : goal.loop-at-preserved-in-Continue-branch-2
loop-at-preserved-in-Continue-branch-2 g c =
    asked_one_more c.args.links.now (g.A.Asked.reading c.args.asked.now) c.loop-at.at c.args.predicates
    c.index-links-at.result c.loop-at.binds.items c.bind_into.new.binds c.loop-at-test.true c.loop-at.auto.at
    c.index-links-at.is c.loop-at.invariant c.if-place-predicates.true c.in_ok-bind_into.ensures

-- or to none of them
pub loop-at-preserved : goal.loop-at-preserved
loop-at-preserved g c =
    asked_no_more c.args.links.now (g.A.Asked.reading c.args.asked.now) c.loop-at.at c.args.predicates
    c.index-links-at.result c.loop-at.binds.items c.loop-at-test.true c.loop-at.auto.at c.index-links-at.is
    c.loop-at.invariant c.if-place-predicates.false
