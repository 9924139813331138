-- The parts of which a producer of sums is built. Only a private clause cites this.
use Rattle.std.specs.Prelude.{◌≡◌, ℕ, List, Result, Ok, Err}
use Rattle.atom_record.specs.declared.value.MetricKey.{MetricKey}
use Rattle.dim_table.specs.Table.{Table}
use Rattle.flat_form.specs.declared.flat_error.FlatError.{FlatError}
use Rattle.flat_form.specs.declared.flat_error.FlatError.TheVariants.{Bad, Memory}
use Rattle.kept_rows.specs.KeptRows.{Keeping}
use Rattle.metric_producer.specs.declared.row.Row.{Row}
use Rattle.predicate_state.specs.PredicateTable.{LeafKey}
use Rattle.predicate_state.specs.PredicateItems.{flag_number}
use Rattle.duration_metric.specs.declared.inner.Inner.{Inner}
use Rattle.duration_metric.specs.declared.sum.Span.{Span}
use Rattle.duration_metric.specs.SumParts.{Summing}

-- Four numbers, the inner keys, what an event made of them, the spans and the kept rows.
abbrev pub SumForm : Type 0
SumForm = ℕ × (ℕ × (ℕ × (ℕ × (Table LeafKey Inner
    × (List ℕ × (List MetricKey × (Table MetricKey Span × Keeping (Row ℕ))))))))

-- the parts of a sum
abbrev pub sum_form : Summing → SumForm
sum_form it = (
  it.start,
  (
    it.reported,
    (
      flag_number it.inner.nesting,
      (
        flag_number it.inner.unknown,
        (it.inner.keys, (it.inner.touched, (it.inner.gone, (it.table, it.kept)))),
      ),
    ),
  ),
)

-- a sum with these parts, or that none has them
abbrev pub RestoresSum : SumForm → Result Summing FlatError → Type 0
RestoresSum form (Ok it) = sum_form it ≡ form
RestoresSum form (Err Bad) = (it : Summing) → ¬ (sum_form it ≡ form)
RestoresSum form (Err Memory) = Unit {0}
