-- For the build of tables: a table is saved as its parts.
use Rattle.std.proofs.Common.{◌≡◌, ℕ, ◌+◌, length, Bool, true, false, None, Err, List, refl, sym, ap, subst, ◌∙◌, arith}
use Rattle.flat_form.specs.declared.item.Item.{Item}
use Rattle.flat_form.specs.declared.flat_error.FlatError.{FlatError}
use Rattle.flat_form.specs.declared.flat_error.FlatError.TheVariants.{Bad}
use Rattle.flat_form.specs.Flat.{Anything, IsValidPair, StandsAt, IsBuilt, Builds, number_items, dims_items, pair_items}
use Rattle.flat_form.proofs.FlatLaws as laws
use Rattle.dim_table.specs.TableItems.{table_items, IsTable}
use Rattle.predicate_state.specs.PredicateTable.{PredicateTable}
use Rattle.predicate_state.specs.PredicateItems.{flag_number, predicate_items, IsPredicateTable}
use Rattle.predicate_state.specs.PredicateForm.{Form, form_of, HasForm, IsMadeOf}

-- their items
abbrev pub form_items : Form → List Item
form_items = pair_items (pair_items (pair_items number_items number_items) (pair_items number_items number_items))
    (table_items dims_items number_items)

-- which parts may stand there
abbrev pub IsForm : Form → Type 0
IsForm = IsValidPair (IsValidPair (IsValidPair Anything Anything) (IsValidPair Anything Anything))
    (IsTable Anything Anything)

-- a table has the items of its parts
as_form : (table : PredicateTable) → predicate_items table ≡ form_items (form_of table)
as_form table = refl

-- the parts of a table may stand there
form_valid : (table : PredicateTable) → IsPredicateTable table → IsForm (form_of table)
form_valid table valid = (((tt, tt), (tt, tt)), valid.keys_fit)

same_flag : (one other : Bool) → flag_number one ≡ flag_number other → one ≡ other
same_flag true true e = refl
same_flag true false e = absurd (omega arith)
same_flag false true e = absurd (omega arith)
same_flag false false e = refl

-- two tables with the same parts are the same
one_form : (one other : PredicateTable) → form_of one ≡ form_of other → one ≡ other
one_form one other e =
    let nesting = same_flag one.spec.nesting other.spec.nesting (ap (λ (f : Form). f.0.0.0) e) in
    let at_first = same_flag one.spec.unknown other.spec.unknown (ap (λ (f : Form). f.0.0.1) e) in
    let now = same_flag one.state.unknown other.state.unknown (ap (λ (f : Form). f.0.1.1) e) in
    λ i. record {
      spec = record { nesting = nesting i; unknown = at_first i; bound = (e i).1.bound; leaves = (e i).0.1.0 };
      state = record { unknown = now i; counts = (e i).1.rows; dropped = (e i).1.dropped };
    }

module _ (items : List Item) (place : ℕ) where
  -- where no parts stand, no table does
  pub parts_fail : (e : FlatError) → Builds IsForm form_items items place (Err e)
      → Builds IsPredicateTable predicate_items items place (Err e)
  parts_fail e fails = laws.form_fails IsForm form_items IsPredicateTable predicate_items form_of as_form form_valid
      items place e fails

  module _ (form : Form) (next : ℕ) (built : IsBuilt IsForm form_items items place form next) where
    parts_are : (table : PredicateTable) → IsPredicateTable table → StandsAt items place (predicate_items table)
        → form_of table ≡ form
    parts_are table valid there = built.only (form_of table) (form_valid table valid) there

    -- a table is built from its parts
    pub table_made : (table : PredicateTable) → HasForm form table
        → IsBuilt IsPredicateTable predicate_items items place table next
    table_made table has = record {
      is_valid = record {
        leaves = has.leaves;
        keys_fit = subst (λ (f : Form). IsTable Anything Anything f.1) (sym has.is) built.is_valid.1;
        have_leaves = has.have_leaves;
      };
      stands = subst (λ (f : Form). StandsAt items place (form_items f)) (sym has.is) built.stands;
      ends = built.ends ∙ ap (λ (f : Form). place + length (form_items f)) (sym has.is);
      only = λ other valid there. one_form other table (parts_are other valid there ∙ sym has.is);
    }

    -- parts that no table has aren't a table
    pub none_made : IsMadeOf form None → Builds IsPredicateTable predicate_items items place (Err Bad)
    none_made never table valid there = never table valid (parts_are table valid there)
