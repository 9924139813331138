-- A condition was told.
use Rattle.std.proofs.Common.{sym, subst, ◌∙◌}
use Rattle.metric_producer.specs.Calls.{Learned}
use Rattle.metric_producer.specs.Moves.{Moves}
use Rattle.value_metric.specs.PulledStands.{pulled_law}
use Rattle.value_metric.proofs.PulledLemmas.{learned_true, learned_other}
use Rattle.value_metric.proofs.pulled_value.PulledValueProducer.condition.Goals as goal

-- it is true
pub returns-then-is_true : goal.returns-then-is_true
returns-then-is_true c =
    subst (λ new. Moves pulled_law c.args.self.now new (Learned c.args.at c.args.now)) (sym c.begin_interval.ensures)
    (learned_true c.args.self.now c.args.at c.args.now (sym c.is_true.ensures ∙ c.if-is_true.true))

-- it isn't
pub returns : goal.returns
returns c =
    learned_other c.args.self.now c.end_interval.new.self c.args.at c.args.now
    (sym c.is_true.ensures ∙ c.if-is_true.false) c.in_ok-end_interval.ensures.others
    c.in_ok-end_interval.ensures.marks
