-- The tally counts as before, and has no key for which it counts none.
use Rattle.std.proofs.Common.{refl, ap}
use Rattle.std.proofs.lemmas.Result.{on_ok_weaker}
use Rattle.atom_record.specs.declared.value.MetricKey.{MetricKey}
use Rattle.dim_table.specs.Table.{Table}
use Rattle.duration_metric.specs.declared.sum.Span.{Span}
use Rattle.duration_metric.proofs.SumTallyLemmas.{tally_closes}
use Rattle.duration_metric.proofs.sum.Sums.close.Goals as goal

pub returns-clause-tally : goal.returns-clause-tally
returns-clause-tally c = on_ok_weaker c.keep_all.result
    (λ adds. tally_closes c.args.self.now _ refl (ap (λ (t : Table MetricKey Span). t.rows) c.move_out.ensures.left)
    c.forget_rows.ensures.counts c.forget_rows.ensures.zeros)
    c.keep_all.ensures
