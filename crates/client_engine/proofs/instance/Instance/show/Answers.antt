use Rattle.std.proofs.Common.{refl, subst}
use Rattle.client_engine.specs.Alarms.{AreAlarmsOf}
use Rattle.client_engine.proofs.InstanceLemmas.{linked_stays, instance_reports}
use Rattle.client_engine.proofs.instance.Instance.show.Goals as goal

-- each metric was reported
pub returns-clause-reports : goal.returns-clause-reports
returns-clause-reports c =
    rw (← c.self.view_is)
    (instance_reports _ _ c.args.request c.args.states.now c.tree_of.result c.in_ok-metrics.metrics c.in_ok-drops.drops
    c.in_ok-alarms.alarms refl
    (linked_stays _ _ _ _ _ _ _ refl c.report.ensures.metrics) c.tree_of.ensures c.in_ok-drops.ensures.of_predicates
    c.in_ok-drops.ensures.of_states
    (subst (λ tracks. AreAlarmsOf c.self.inside.alerts tracks c.in_ok-alarms.alarms) c.as_slice-2.ensures.value
    (subst (λ alerts. AreAlarmsOf alerts c.as_slice-2.result.now c.in_ok-alarms.alarms) c.as_slice.ensures
    c.in_ok-alarms.ensures))
    c.in_ok-metrics.ensures.reports)
