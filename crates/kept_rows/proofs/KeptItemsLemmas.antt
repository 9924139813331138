-- For the build of kept rows: they are saved as a pair of numbers and a list.
use Rattle.std.proofs.Common.{◌≡◌, ℕ, List, All, Err, refl, ap, subst}
use Rattle.flat_form.specs.declared.item.Item.{Item}
use Rattle.flat_form.specs.declared.flat_error.FlatError.{FlatError}
use Rattle.flat_form.specs.declared.flat_error.FlatError.TheVariants.{Bad}
use Rattle.flat_form.specs.Flat.{Anything, IsValidPair, IsBuilt, Builds, number_items, pair_items, list_items}
use Rattle.flat_form.proofs.FlatLaws as laws
use Rattle.kept_rows.specs.KeptRows.{Keeping, IsWithinWeight}
use Rattle.kept_rows.specs.KeptItems.{kept_items, IsKeeping}

module _ {R : Type 0} (weigh : R → ℕ) (valid : R → Type 0) (flat : R → List Item) where
  -- the two numbers and the rows
  abbrev pub KeptForm : Type 0
  KeptForm = (ℕ × ℕ) × List R

  -- their items
  abbrev pub kept_form_items : KeptForm → List Item
  kept_form_items = pair_items (pair_items number_items number_items) (list_items flat)

  -- any two numbers and valid rows may stand there
  abbrev pub IsKeptForm : KeptForm → Type 0
  IsKeptForm = IsValidPair (IsValidPair Anything Anything) (All valid)

  -- the form of kept rows
  abbrev kept_form : Keeping R → KeptForm
  kept_form it = ((it.used, it.others), it.rows)

  module _ (items : List Item) (place : ℕ) where
    -- no such form stands there, so no kept rows do
    pub kept_fails : (e : FlatError) → Builds IsKeptForm kept_form_items items place (Err e)
        → Builds (IsKeeping weigh valid) (kept_items flat) items place (Err e)
    kept_fails e fails = laws.form_fails IsKeptForm kept_form_items (IsKeeping weigh valid) (kept_items flat) kept_form
        (λ it. refl) (λ it is. ((tt, tt), is.rows_valid)) items place e fails

    module _ (form : KeptForm) (next : ℕ) (one : IsBuilt IsKeptForm kept_form_items items place form next) where
      -- the form that stands there is that of kept rows
      pub kept_built : IsWithinWeight weigh form.1 form.0.0 → (it : Keeping R)
          → it ≡ record { rows = form.1; used = form.0.0; others = form.0.1 }
          → IsBuilt (IsKeeping weigh valid) (kept_items flat) items place it next
      kept_built within it is = rw is (record {
        is_valid = record { within = within; rows_valid = one.is_valid.1 };
        stands = one.stands;
        ends = one.ends;
        only = λ other other_valid there.
            ap (λ (f : KeptForm). record { rows = f.1; used = f.0.0; others = f.0.1 })
            (one.only (kept_form other) ((tt, tt), other_valid.rows_valid) there);
      })

      -- the form that stands there is that of none
      pub no_kept : ¬ (IsWithinWeight weigh form.1 form.0.0)
          → Builds (IsKeeping weigh valid) (kept_items flat) items place (Err Bad)
      no_kept beyond = λ other other_valid there.
          let same = one.only (kept_form other) ((tt, tt), other_valid.rows_valid) there in
          beyond (subst (λ (f : KeptForm). IsWithinWeight weigh f.1 f.0.0) same other_valid.within)
