-- For the builds of these producers: each is saved as its parts.
use Rattle.std.proofs.Common.{ℕ, List, All, Err, refl, ap}
use Rattle.atom_record.specs.declared.atom.Atom.{Atom}
use Rattle.atom_record.specs.declared.value.MetricKey.{MetricKey}
use Rattle.flat_form.specs.declared.item.Item.{Item}
use Rattle.flat_form.specs.declared.flat_error.FlatError.{FlatError}
use Rattle.flat_form.specs.Flat.{Anything, IsValidPair, IsBuilt, Builds, number_items, key_items, atom_items, list_items, pair_items}
use Rattle.flat_form.proofs.FlatLaws as laws
use Rattle.dim_table.specs.Table.{Table}
use Rattle.dim_table.specs.TableItems.{table_items, IsTable}
use Rattle.kept_rows.specs.KeptRows.{Keeping}
use Rattle.kept_rows.specs.KeptItems.{kept_items, IsKeeping}
use Rattle.metric_producer.specs.declared.row.Row.{Row}
use Rattle.gauge_metric.specs.declared.events.EventProducer.{EventProducer}
use Rattle.gauge_metric.specs.declared.gauge.PushedGauge.{PushedGauge}
use Rattle.gauge_metric.specs.EventItems.{atom_row_items, atom_row_weight, IsAtomRow, events_items, IsEvents}
use Rattle.gauge_metric.specs.GaugeItems.{gauge_items, IsGauge}

-- no such kept rows stand there, so no events do
pub events_fail : (items : List Item) (place : ℕ) (e : FlatError)
    → Builds (IsKeeping atom_row_weight IsAtomRow) (kept_items atom_row_items) items place (Err e)
    → Builds IsEvents events_items items place (Err e)
events_fail items place e fails =
    laws.form_fails (IsKeeping atom_row_weight IsAtomRow) (kept_items atom_row_items) IsEvents events_items
    (λ (it : EventProducer). it.kept) (λ it. refl) (λ it is. is) items place e fails

-- the events whose kept rows stand there
pub events_built : (items : List Item) (place : ℕ) (kept : Keeping (Row (List Atom))) (next : ℕ)
    → IsBuilt (IsKeeping atom_row_weight IsAtomRow) (kept_items atom_row_items) items place kept next
    → IsBuilt IsEvents events_items items place (record { kept = kept; memory = tt }) next
events_built items place kept next one = record {
  is_valid = one.is_valid;
  stands = one.stands;
  ends = one.ends;
  only = λ other other_valid there.
      ap (λ (k : Keeping (Row (List Atom))). record { kept = k; memory = tt }) (one.only other.kept other_valid there);
}

-- a gauge by its parts
abbrev pub GaugeForm : Type 0
GaugeForm = ℕ × (ℕ × (Table MetricKey (List Atom) × Keeping (Row (List Atom))))

-- their items
abbrev pub gauge_form_items : GaugeForm → List Item
gauge_form_items = pair_items number_items (pair_items number_items
    (pair_items (table_items key_items (list_items atom_items)) (kept_items atom_row_items)))

-- any two numbers, a table, and kept rows
abbrev pub IsGaugeForm : GaugeForm → Type 0
IsGaugeForm = IsValidPair Anything (IsValidPair Anything
    (IsValidPair (IsTable Anything (All Anything)) (IsKeeping atom_row_weight IsAtomRow)))

-- the parts of a gauge
abbrev gauge_form : PushedGauge → GaugeForm
gauge_form it = (it.start, (it.samples, (it.table, it.kept)))

-- no such parts stand there, so no gauge does
pub gauge_fails : (items : List Item) (place : ℕ) (e : FlatError)
    → Builds IsGaugeForm gauge_form_items items place (Err e) → Builds IsGauge gauge_items items place (Err e)
gauge_fails items place e fails = laws.form_fails IsGaugeForm gauge_form_items IsGauge gauge_items gauge_form
    (λ it. refl) (λ it is. (tt, (tt, (is.table, is.kept)))) items place e fails

-- the gauge of the parts that stand there
pub gauge_built : (items : List Item) (place : ℕ) (form : GaugeForm) (next : ℕ)
    → IsBuilt IsGaugeForm gauge_form_items items place form next
    → IsBuilt IsGauge gauge_items items place
    (record { start = form.0; samples = form.1.0; table = form.1.1.0; kept = form.1.1.1; memory = tt }) next
gauge_built items place form next one = record {
  is_valid = record { table = one.is_valid.1.1.0; kept = one.is_valid.1.1.1 };
  stands = one.stands;
  ends = one.ends;
  only = λ other other_valid there.
      ap (λ (f : GaugeForm). record { start = f.0; samples = f.1.0; table = f.1.1.0; kept = f.1.1.1; memory = tt })
      (one.only (gauge_form other) (tt, (tt, (other_valid.table, other_valid.kept))) there);
}
