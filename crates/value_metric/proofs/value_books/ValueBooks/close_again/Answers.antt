-- The rows of all the buckets were kept or counted, and the counts rose as often.
use Rattle.std.proofs.Common.{ℤ, Option, refl, ap, ◌∙◌, arith}
use Rattle.atom_record.specs.declared.value.MetricKey.{MetricKey}
use Rattle.dim_table.specs.Table.{Table}
use Rattle.value_metric.proofs.JumpsLemmas.{closes_again}
use Rattle.value_metric.proofs.value_books.ValueBooks.close_again.Goals as goal

pub returns : goal.returns
returns c =
    closes_again c.args.self.now _ c.args.since c.args.size c.args.number
    (λ fits. omega (arith, fits, c.saturating_mul-full.ensures, c.saturating_add-self.ensures))
    refl refl (ap (λ (t : Table MetricKey (Option ℤ)). t.bound) c.restore.ensures ∙ c.bound.ensures.value)
    (ap (λ (t : Table MetricKey (Option ℤ)). t.rows) c.restore.ensures)
    (λ count more first last. ap (λ (t : Table MetricKey (Option ℤ)). t.dropped) c.restore.ensures
    ∙ c.as_often-dropped.ensures count more first (c.dropped.ensures ∙ last))
    c.as_often-self.ensures c.in_ok-keep_full.ensures
