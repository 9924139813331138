-- For the build of a row: it is saved as pairs of its parts.
use Rattle.std.proofs.Common.{ℕ, List, Err, refl, ap}
use Rattle.atom_record.specs.declared.value.MetricKey.{MetricKey}
use Rattle.flat_form.specs.declared.item.Item.{Item}
use Rattle.flat_form.specs.declared.flat_error.FlatError.{FlatError}
use Rattle.flat_form.specs.Flat.{Anything, IsValidPair, IsBuilt, Builds, number_items, key_items, pair_items}
use Rattle.flat_form.proofs.FlatLaws as laws
use Rattle.metric_producer.specs.declared.row.Row.{Row}
use Rattle.metric_producer.specs.RowItems.{row_items, IsRow}

module _ {V : Type 0} (valid : V → Type 0) (flat : V → List Item) where
  -- a row by its parts: the key and the times, and the value
  abbrev pub RowForm : Type 0
  RowForm = (MetricKey × (ℕ × ℕ)) × V

  -- their items
  abbrev pub row_form_items : RowForm → List Item
  row_form_items = pair_items (pair_items key_items (pair_items number_items number_items)) flat

  -- any key and times, and a valid value
  abbrev pub IsRowForm : RowForm → Type 0
  IsRowForm = IsValidPair (IsValidPair Anything (IsValidPair Anything Anything)) valid

  -- the parts of a row
  abbrev row_form : Row V → RowForm
  row_form row = ((row.key, (row.start, row.end)), row.value)

  -- no such parts stand there, so no row does
  pub row_fails : (items : List Item) (place : ℕ) (e : FlatError)
      → Builds IsRowForm row_form_items items place (Err e) → Builds (IsRow valid) (row_items flat) items place (Err e)
  row_fails items place e fails = laws.form_fails IsRowForm row_form_items (IsRow valid) (row_items flat) row_form
      (λ row. refl) (λ row is. ((tt, (tt, tt)), is)) items place e fails

  -- the row of the parts that stand there
  pub row_built : (items : List Item) (place : ℕ) (form : RowForm) (next : ℕ)
      → IsBuilt IsRowForm row_form_items items place form next
      → IsBuilt (IsRow valid) (row_items flat) items place
      (record { key = form.0.0; start = form.0.1.0; end = form.0.1.1; value = form.1 }) next
  row_built items place form next one = record {
    is_valid = one.is_valid.1;
    stands = one.stands;
    ends = one.ends;
    only = λ other other_valid there.
        ap (λ (f : RowForm). record { key = f.0.0; start = f.0.1.0; end = f.0.1.1; value = f.1 })
        (one.only (row_form other) ((tt, (tt, tt)), other_valid) there);
  }
