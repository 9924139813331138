-- The samples came, and what was dropped of them is handed over.
use Rattle.std.proofs.Common.{Some, sym, subst, ◌∙◌, ap}
use Rattle.gauge_metric.specs.PulledStands.{Brings}
use Rattle.gauge_metric.proofs.MomentLemmas.{brings_some}
use Rattle.gauge_metric.proofs.pulled.bring.Goals as goal

pub returns : goal.returns
returns c =
    subst (λ found. Brings c.args.samples c.args.table.now c.take_dropped-lost.new.self found
    (record { lost = c.take_dropped-lost.result; missed = 0 }))
    (ap Some c.as_slice.ensures ∙ sym c.in-Some.is)
    (brings_some c.args.samples c.args.table.now c.sample_all.new.table c.take_dropped-lost.new.self
    c.as_slice.result.now c.take_dropped-lost.result c.in_ok-sample_all.ensures c.take_dropped-lost.ensures.left
    c.take_dropped-lost.ensures.given)
