-- For the build of a producer of counts: it is saved as pairs of its parts.
use Rattle.std.specs.Global.{Global}
use Rattle.std.proofs.Common.{ℕ, List, Err, refl, ap}
use Rattle.atom_record.specs.declared.value.MetricKey.{MetricKey}
use Rattle.flat_form.specs.declared.item.Item.{Item}
use Rattle.flat_form.specs.declared.flat_error.FlatError.{FlatError}
use Rattle.flat_form.specs.Flat.{Anything, IsValidPair, IsBuilt, Builds, number_items, key_items, pair_items}
use Rattle.flat_form.proofs.FlatLaws as laws
use Rattle.dim_table.specs.Table.{Table}
use Rattle.dim_table.specs.TableItems.{table_items, IsTable}
use Rattle.kept_rows.specs.KeptRows.{Keeping}
use Rattle.kept_rows.specs.KeptItems.{kept_items, IsKeeping}
use Rattle.metric_producer.specs.declared.row.CountCell.{CountCell}
use Rattle.metric_producer.specs.declared.row.Row.{Row}
use Rattle.metric_producer.specs.CellItems.{cell_items}
use Rattle.count_metric.specs.declared.count.CountProducer.{CountProducer}
use Rattle.metric_producer.specs.RowItems.{IsRow}
use Rattle.metric_kinds.specs.Counts.{row_weight}
use Rattle.count_metric.specs.CountItems.{count_row_items, spilled_cell, count_items, HasBounds}

-- a producer of counts by its parts
abbrev pub CountForm : Type 0
CountForm = ℕ × (CountCell × (Table MetricKey ℕ × Keeping (Row CountCell)))

-- their items
abbrev pub count_form_items : CountForm → List Item
count_form_items =
    pair_items number_items
    (pair_items cell_items (pair_items (table_items key_items number_items) (kept_items count_row_items)))

-- any time and number, a table, and kept rows
abbrev pub IsCountForm : CountForm → Type 0
IsCountForm =
    IsValidPair Anything
    (IsValidPair Anything (IsValidPair (IsTable Anything Anything) (IsKeeping row_weight (IsRow Anything))))

-- the parts of a producer
abbrev count_form : CountProducer → CountForm
count_form it = (it.start, (spilled_cell it, (it.table, it.kept)))

-- no such parts stand there, so no producer does
pub count_fails : (items : List Item) (place : ℕ) (e : FlatError)
    → Builds IsCountForm count_form_items items place (Err e) → Builds HasBounds count_items items place (Err e)
count_fails items place e fails = laws.form_fails IsCountForm count_form_items HasBounds count_items count_form
    (λ it. refl) (λ it is. (tt, (tt, (is.table, is.kept)))) items place e fails

-- the producer of some parts
abbrev pub count_with : Global → CountForm → CountProducer
count_with alloc form = record {
  start = form.0;
  overflow = form.1.0.overflow;
  spilled = form.1.0.number;
  table = form.1.1.0;
  kept = form.1.1.1;
  alloc = alloc;
}

-- the producer of the parts that stand there
pub count_built : (alloc : Global) (items : List Item) (place : ℕ) (form : CountForm) (next : ℕ)
    → IsBuilt IsCountForm count_form_items items place form next
    → IsBuilt HasBounds count_items items place (count_with alloc form) next
count_built alloc items place form next one = record {
  is_valid = record { table = one.is_valid.1.1.0; kept = one.is_valid.1.1.1 };
  stands = one.stands;
  ends = one.ends;
  only = λ other other_valid there.
      ap (count_with alloc) (one.only (count_form other) (tt, (tt, (other_valid.table, other_valid.kept))) there);
}
