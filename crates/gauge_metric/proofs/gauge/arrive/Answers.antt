-- One more sample of a key.
use Rattle.std.proofs.Common.{subst}
use Rattle.dim_table.specs.declared.answer.Admit.TheVariants.{At, Full}
use Rattle.dim_table.specs.Table.{Admits}
use Rattle.gauge_metric.proofs.SampledLemmas.{sampled_at, sampled_none}
use Rattle.gauge_metric.proofs.gauge.arrive.Goals as goal

pub returns-in_ok-sample-in-At : goal.returns-in_ok-sample-in-At
returns-in_ok-sample-in-At c =
    sampled_at c.args.samples c.args.table.now c.admit.new.self c.args.event c.in-At.place c.sample.new.table
    (subst (λ fresh. Admits c.args.table.now c.admit.new.self c.args.event.key fresh (At c.in-At.place)) c.new.ensures
    (subst (Admits c.args.table.now c.admit.new.self c.args.event.key c.new.result) c.in-At.is
    c.in_ok-place.ensures.answer))
    c.in_ok-sample-in-At.ensures.bound c.in_ok-sample-in-At.ensures.added

pub returns-in-Full : goal.returns-in-Full
returns-in-Full c =
    sampled_none c.args.samples c.args.table.now c.admit.new.self c.args.event
    (subst (λ fresh. Admits c.args.table.now c.admit.new.self c.args.event.key fresh Full) c.new.ensures
    (subst (Admits c.args.table.now c.admit.new.self c.args.event.key c.new.result) c.in-Full.is
    c.in_ok-place.ensures.answer))
