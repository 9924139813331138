-- One more sample of a key.
use Rattle.std.proofs.Common.{subst}
use Rattle.dim_table.specs.declared.answer.Admit.TheVariants.{At, Full}
use Rattle.dim_table.specs.Table.{Admits}
use Rattle.gauge_metric.proofs.SampledLemmas.{sampled_at, sampled_none}
use Rattle.gauge_metric.proofs.snapshot.sample_one.Goals as goal

pub returns-in_ok-sample_copy-in-At : goal.returns-in_ok-sample_copy-in-At
returns-in_ok-sample_copy-in-At c =
    let key = c.args.sample.now.key in
    sampled_at c.args.samples c.args.table.now c.admit_copy.new.self c.args.sample.now c.in-At.place
    c.sample_copy.new.table
    (subst (λ fresh. Admits c.args.table.now c.admit_copy.new.self key fresh (At c.in-At.place)) c.new.ensures
    (subst (Admits c.args.table.now c.admit_copy.new.self key c.new.result) c.in-At.is
    c.in_ok-place.ensures.answer))
    c.in_ok-sample_copy-in-At.ensures.bound c.in_ok-sample_copy-in-At.ensures.added

pub returns-in-Full : goal.returns-in-Full
returns-in-Full c =
    let key = c.args.sample.now.key in
    sampled_none c.args.samples c.args.table.now c.admit_copy.new.self c.args.sample.now
    (subst (λ fresh. Admits c.args.table.now c.admit_copy.new.self key fresh Full) c.new.ensures
    (subst (Admits c.args.table.now c.admit_copy.new.self key c.new.result) c.in-Full.is
    c.in_ok-place.ensures.answer))
