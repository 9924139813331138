-- The parts of which a producer of longest durations is built. Only a private clause cites this.
use Rattle.std.specs.Prelude.{◌≡◌, ℕ, ◌<◌, ◌^◌, Option, Some, None}
use Rattle.atom_record.specs.declared.value.MetricKey.{MetricKey}
use Rattle.dim_table.specs.Table.{Table}
use Rattle.kept_rows.specs.KeptRows.{Keeping}
use Rattle.metric_producer.specs.declared.row.Row.{Row}
use Rattle.predicate_state.specs.PredicateTable.{LeafKey}
use Rattle.predicate_state.specs.PredicateItems.{flag_number}
use Rattle.duration_metric.specs.declared.sparse_keys.SparseEntry.{SparseEntry}
use Rattle.duration_metric.specs.declared.sparse.MaxProducer.{MaxProducer}
use Rattle.duration_metric.specs.SparseItems.{IsLongest}

-- Seven numbers, the inner keys, the longest times and the kept rows.
abbrev pub LongestForm : Type 0
LongestForm = ((ℕ × ℕ) × (ℕ × ℕ)) × (ℕ × (ℕ × (ℕ × (Table LeafKey SparseEntry
    × (Table MetricKey ℕ × Keeping (Row ℕ))))))

-- the parts of a longest duration
abbrev pub longest_form : MaxProducer → LongestForm
longest_form it = (
  ((flag_number it.keys.spec.nesting, flag_number it.keys.spec.unknown), (it.keys.spec.bound, it.keys.spec.leaves)),
  (
    flag_number it.keys.unknown,
    (it.books.start, (it.books.lost, (it.keys.table, (it.books.table, it.books.kept)))),
  ),
)

-- the producer has these parts, and its numbers fit
pub record HasLongestForm (form : LongestForm) (it : MaxProducer) : Type 0 where
  pub is : longest_form it ≡ form
  pub bound_fits : it.keys.spec.bound < 2 ^ 32
  pub leaves_fit : it.keys.spec.leaves < 2 ^ 32

-- a producer with these parts, or that none has them
abbrev pub RestoresLongest : LongestForm → Option MaxProducer → Type 0
RestoresLongest form (Some it) = HasLongestForm form it
RestoresLongest form None = (it : MaxProducer) → IsLongest it → ¬ (longest_form it ≡ form)
