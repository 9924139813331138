-- The condition was told, and samples were taken where that is a moment.
use Rattle.std.proofs.Common.{Some, sym, subst, ◌∙◌}
use Rattle.gauge_metric.specs.PulledSampling.{marks_if}
use Rattle.gauge_metric.specs.PulledStands.{TakesSampleMarks}
use Rattle.gauge_metric.proofs.PulledLemmas.{nothing_taken}
use Rattle.gauge_metric.proofs.PulledCallsLemmas.{condition_told}
use Rattle.gauge_metric.proofs.pulled.PulledGaugeProducer.condition.Goals as goal

pub returns-in_ok-_brought : goal.returns-in_ok-_brought
returns-in_ok-_brought c =
    let old = c.args.self.now in
    condition_told old c.sample.new.self c.args.at c.args.now
    (subst (λ b. TakesSampleMarks (record old { told = Some c.args.now }) c.sample.new.self (marks_if b old.snapshot))
    (sym c.if-is_moment.true ∙ c.samples_told-is_moment.ensures) c.in_ok-_brought.ensures.takes)

pub returns-else-is_moment : goal.returns-else-is_moment
returns-else-is_moment c =
    let old = c.args.self.now in
    let now = record old { told = Some c.args.now } in
    condition_told old now c.args.at c.args.now
    (subst (λ b. TakesSampleMarks now now (marks_if b old.snapshot))
    (sym c.if-is_moment.false ∙ c.samples_told-is_moment.ensures) (nothing_taken now).takes)
