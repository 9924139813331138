use Rattle.std.proofs.Common.{map, refl, sym, ap, subst, ◌∙◌, arith}
use Rattle.std.proofs.lemmas.Result.{on_ok_weaker}
use Rattle.client_engine.specs.Handed.{handed}
use Rattle.known_conditions.specs.Known.{Known, KnowsStep}
use Rattle.client_engine.specs.NextSteps.{TakesFrame}
use Rattle.known_conditions.specs.Known.{logged_step}
use Rattle.client_engine.specs.Running.{linked_of}
use Rattle.client_engine.specs.Tracks.{metric_in, AllStandFor}
use Rattle.client_engine.specs.Waking.{OthersSleep, places_woken}
use Rattle.client_engine.proofs.ListeningLemmas.{others_sleep}
use Rattle.client_engine.proofs.InstanceLemmas.{TracksAsk, linked_stays, instance_asks, instance_logs}
use Rattle.client_engine.proofs.instance.Instance.apply.Goals as goal

-- the metrics that aren't found sleep through the frame
pub log-requires-2-clause-others : goal.log-requires-2-clause-others
log-requires-2-clause-others g c =
    let frame = c.args.frame.now in
    let truths = c.args.view.now.matched.now in
    let states = c.as_slice-2.result.now in
    let old = c.self.inside in
    let metrics = map metric_in old.tracks.list.items in
    subst (λ places. OthersSleep places c.log.new.self.predicates states frame truths metrics)
    (sym (c.woken.ensures ∙ c.in_ok-find.ensures.found))
    (subst (λ predicates. OthersSleep (places_woken old.listeners states frame truths) predicates states frame truths
    metrics) (sym c.log.ensures.predicates)
    (others_sleep old.listeners old.conditions.predicates states frame truths metrics c.self.invariant.2))

-- where memory is wanting for the predicates, the configuration is what it was
pub returns-in_err-log-clause-linked : goal.returns-in_err-log-clause-linked
returns-in_err-log-clause-linked g c =
    linked_stays _ _ _ _ _ _ _ c.log.ensures.predicates refl ∙ ap linked_of c.self.view_is

-- and after all metrics
pub returns-clause-linked : goal.returns-clause-linked
returns-clause-linked g c =
    linked_stays _ _ _ _ _ _ _
    (ap (λ (known : Known). known.predicates) c.log-2.ensures.known ∙ c.log.ensures.predicates)
    c.log-2.ensures.metrics
    ∙ ap linked_of c.self.view_is

-- the frame acted on predicates and came to each metric
pub returns-clause-logs : goal.returns-clause-logs
returns-clause-logs g c =
    let frame = c.args.frame.now in
    let truths = c.args.view.now.matched.now in
    let book = c.args.view.now.states.now in
    let old = c.self.inside in
    let timely = c.requires.faultless.timely in
    rw (← c.self.view_is) (on_ok_weaker c.log-2.result (λ logs.
    instance_logs _ _ frame truths book refl
    (linked_stays _ _ _ _ _ _ _
    (ap (λ (known : Known). known.predicates) c.log-2.ensures.known ∙ c.log.ensures.predicates)
    c.log-2.ensures.metrics)
    (subst (KnowsStep (logged_step frame truths) old.conditions) (sym c.log-2.ensures.known) c.in_ok-log.ensures.knows)
    (subst
    (λ known. TakesFrame AllStandFor (handed known old.matchers old.states book) frame truths old.tracks.list.items
    c.log-2.new.self.list.items)
    (sym c.log-2.ensures.known)
    (subst (λ states. TakesFrame AllStandFor (handed c.log.new.self old.matchers states book) frame truths
    old.tracks.list.items c.log-2.new.self.list.items) c.as_slice-2.ensures
    (subst (λ matchers. TakesFrame AllStandFor (handed c.log.new.self matchers c.as_slice-2.result.now book) frame
    truths old.tracks.list.items c.log-2.new.self.list.items) c.as_slice.ensures logs)))
    (omega (arith, timely)))
    c.log-2.ensures.logs)

-- the metrics asked no more than they may, also where memory is wanting
pub returns-clause-asks : goal.returns-clause-asks
returns-clause-asks g c =
    let frame = c.args.frame.now in
    let truths = c.args.view.now.matched.now in
    let book = c.args.view.now.states.now in
    let old = c.self.inside in
    let known = c.log.new.self in
    let before = c.args.asks.now in
    let after = c.log-2.new.asks in
    let timely = c.requires.faultless.timely in
    rw (← c.self.view_is)
    (instance_asks _ known frame truths book before after c.log.ensures.predicates c.in_ok-log.ensures.knows
    (omega (arith, timely))
    (subst (λ states. TracksAsk old.tracks.list.items (handed known old.matchers states book) frame truths before after)
    c.as_slice-2.ensures
    (subst (λ matchers. TracksAsk old.tracks.list.items
    (handed known matchers c.as_slice-2.result.now book) frame truths
    before after) c.as_slice.ensures c.log-2.ensures.asks)))

-- where memory is wanting for the predicates, nothing is asked
pub returns-in_err-log-clause-asks : goal.returns-in_err-log-clause-asks
returns-in_err-log-clause-asks g c = λ history frame has later view shown_is book_is. omega arith
