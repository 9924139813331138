use Rattle.std.proofs.Common.{List, Err, ap, subst, rules}
use Rattle.std.proofs.lemmas.Result.{err_from_is_err_and}
use Rattle.link_rules.specs.LinkFaults.{Links}
use Rattle.link_rules.proofs.LinkFaultLemmas.{breaks_second}
use Rattle.config_links.specs.declared.linked.LMatcher.{LMatcher}
use Rattle.config_links.specs.declared.linked.LPredicate.{LPredicate}
use Rattle.config_links.specs.declared.linked.LState.{LState}
use Rattle.config_links.specs.declared.scope.Scope.{Scope}
use Rattle.config_links.specs.Verdict.{scoped_fault, late_fault, matchers_linked, predicates_linked, states_linked, metrics_linked, alerts_linked}
use Rattle.config_links.proofs.JudgedLemmas.{any_given, scope_made}
use Rattle.config_links.proofs.ReadyLemmas.{in_range_by}
use Rattle.config_links.proofs.linker.entities_in.Goals as goal

-- predicates name predicates that are there, since no rule is broken
pub scoped_in-requires-clause-in_range : goal.scoped_in-requires-clause-in_range
scoped_in-requires-clause-in_range c =
    in_range_by c.args.entities c.args.ids c.in_ok-matchers.predicates c.requires.ready c.requires.ids
    (ap (λ (parts : List LMatcher × List LPredicate × List LState). parts.1) c.in_ok-matchers.ensures.1)

-- a metric or an alert has a reason, a hidden metric isn't there, or an alert is on no metric
pub returns-in_err-metrics : goal.returns-in_err-metrics
unfolding late_fault
returns-in_err-metrics c =
    let p = err_from_is_err_and c.from_residual-in_err-metrics.result
    c.from_residual-in_err-metrics.ensures.1 in
    let e = c.args.entities in
    let error = c.in_err-metrics.field-0.0 in
    let made = scope_made e c.args.ids
    (c.in_ok-matchers.matchers, c.in_ok-matchers.predicates, c.in_ok-matchers.states) c.requires.ids
    c.in_ok-matchers.ensures.1 in
    let found = subst (λ (scope : Scope).
    Links {T = Unit {0}} (Err error) (scoped_fault scope e.metrics e.alerts e.no_report) tt) made
    (any_given error _ _ tt c.in_err-metrics.ensures) in
    rw (p.1, p.2) (breaks_second _ _ error _ c.in_ok-matchers.ensures.0 found)

-- nothing has a reason
pub returns : goal.returns
unfolding late_fault matchers_linked predicates_linked states_linked metrics_linked alerts_linked
returns c = search rules
