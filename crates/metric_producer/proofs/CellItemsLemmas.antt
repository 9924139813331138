-- For the build of what a row of counts holds: it is saved as a pair of numbers.
use Rattle.std.proofs.Common.{◌≡◌, ℕ, Bool, true, false, Err, List, refl, sym, ap, subst, arith}
use Rattle.flat_form.specs.declared.item.Item.{Item}
use Rattle.flat_form.specs.declared.flat_error.FlatError.{FlatError}
use Rattle.flat_form.specs.declared.flat_error.FlatError.TheVariants.{Bad}
use Rattle.flat_form.specs.Flat.{Anything, IsValidPair, IsBuilt, Builds, number_items, pair_items}
use Rattle.flat_form.proofs.FlatLaws as laws
use Rattle.metric_producer.specs.declared.row.CountCell.{CountCell}
use Rattle.metric_producer.specs.CellItems.{overflow_number, cell_items}

same_overflow : (one other : Bool) → overflow_number one ≡ overflow_number other → one ≡ other
same_overflow true true e = refl
same_overflow true false e = absurd (omega arith)
same_overflow false true e = absurd (omega arith)
same_overflow false false e = refl

-- what it holds, by its parts
abbrev pub CellForm : Type 0
CellForm = ℕ × ℕ

abbrev cell_form : CountCell → CellForm
cell_form cell = (cell.number, overflow_number cell.overflow)

abbrev pub cell_form_items : CellForm → List Item
cell_form_items = pair_items number_items number_items

abbrev pub IsCellForm : CellForm → Type 0
IsCellForm = IsValidPair Anything Anything

module _ (items : List Item) (place : ℕ) where
  -- no such parts stand there, so no such pair does
  pub cell_fails : (e : FlatError) → Builds IsCellForm cell_form_items items place (Err e)
      → Builds Anything cell_items items place (Err e)
  cell_fails e fails = laws.form_fails IsCellForm cell_form_items Anything cell_items cell_form (λ cell. refl)
      (λ cell is. (tt, tt)) items place e fails

  module _ (form : CellForm) (next : ℕ) (one : IsBuilt IsCellForm cell_form_items items place form next) where
    -- the number that stands there doesn't say whether it is an overflow row
    pub cell_none : ((overflow : Bool) → ¬ (overflow_number overflow ≡ form.1))
        → Builds Anything cell_items items place (Err Bad)
    cell_none never cell valid there =
        never cell.overflow (ap (λ (f : CellForm). f.1) (one.only (cell_form cell) (tt, tt) there))

    -- what the parts that stand there make
    pub cell_built : (overflow : Bool) → overflow_number overflow ≡ form.1
        → IsBuilt Anything cell_items items place (record { number = form.0; overflow = overflow }) next
    cell_built overflow is =
        let same : form ≡ (form.0, overflow_number overflow) = ap (λ (n : ℕ). (form.0, n)) (sym is) in
        let mine = subst (λ f. IsBuilt IsCellForm cell_form_items items place f next) same one in
        record {
          is_valid = tt;
          stands = mine.stands;
          ends = mine.ends;
          only = λ other valid there.
              let e = mine.only (cell_form other) (tt, tt) there in
              let flags = same_overflow other.overflow overflow (ap (λ (f : CellForm). f.1) e) in
              λ i. record { number = (e i).0; overflow = flags i };
        }
