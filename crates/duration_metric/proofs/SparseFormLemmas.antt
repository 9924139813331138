-- For the build of longest durations: each is saved as its parts.
use Rattle.std.proofs.Common.{◌≡◌, ℕ, None, Err, List, ◌++◌, refl, sym, ap, subst, ◌∙◌, append_assoc}
use Rattle.flat_form.specs.declared.item.Item.{Item}
use Rattle.flat_form.specs.declared.flat_error.FlatError.{FlatError}
use Rattle.flat_form.specs.declared.flat_error.FlatError.TheVariants.{Bad}
use Rattle.flat_form.specs.Flat.{Anything, IsValidPair, StandsAt, IsBuilt, Builds, number_items, dims_items, key_items, pair_items}
use Rattle.flat_form.proofs.FlatLaws as laws
use Rattle.dim_table.specs.TableItems.{table_items, IsTable}
use Rattle.kept_rows.specs.KeptItems.{kept_items, IsKeeping}
use Rattle.metric_producer.specs.RowItems.{IsRow}
use Rattle.metric_kinds.specs.Counts.{row_weight}
use Rattle.duration_metric.specs.declared.sparse.MaxProducer.{MaxProducer}
use Rattle.duration_metric.specs.InnerItems.{entry_items}
use Rattle.duration_metric.specs.SumItems.{time_row_items}
use Rattle.duration_metric.specs.SparseItems.{longest_items, IsLongest}
use Rattle.duration_metric.specs.SparseForm.{LongestForm, longest_form, HasLongestForm, RestoresLongest}
use Rattle.duration_metric.proofs.SumFormLemmas.{one_flag}

-- their items
abbrev pub longest_form_items : LongestForm → List Item
longest_form_items =
    pair_items (pair_items (pair_items number_items number_items) (pair_items number_items number_items))
    (pair_items number_items (pair_items number_items (pair_items number_items
    (pair_items (table_items dims_items entry_items)
    (pair_items (table_items key_items number_items) (kept_items time_row_items))))))

-- which parts may stand there
abbrev pub IsLongestForm : LongestForm → Type 0
IsLongestForm = IsValidPair (IsValidPair (IsValidPair Anything Anything) (IsValidPair Anything Anything))
    (IsValidPair Anything (IsValidPair Anything (IsValidPair Anything
    (IsValidPair (IsTable Anything Anything) (IsValidPair (IsTable Anything Anything)
    (IsKeeping row_weight (IsRow Anything)))))))

-- the parts of a longest duration may
form_valid : (it : MaxProducer) → IsLongest it → IsLongestForm (longest_form it)
form_valid it is = (((tt, tt), (tt, tt)), (tt, (tt, (tt, (is.keys, (is.table, is.kept))))))

-- two with the same parts are the same
one_form : (one other : MaxProducer) → longest_form one ≡ longest_form other → one ≡ other
one_form one other e =
    let nesting = one_flag one.keys.spec.nesting other.keys.spec.nesting (ap (λ (f : LongestForm). f.0.0.0) e) in
    let at_first = one_flag one.keys.spec.unknown other.keys.spec.unknown (ap (λ (f : LongestForm). f.0.0.1) e) in
    let now = one_flag one.keys.unknown other.keys.unknown (ap (λ (f : LongestForm). f.1.0) e) in
    λ i. record {
      keys = record {
        spec = record { nesting = nesting i; unknown = at_first i; bound = (e i).0.1.0; leaves = (e i).0.1.1 };
        unknown = now i;
        table = (e i).1.1.1.1.0;
      };
      books = record {
        start = (e i).1.1.0;
        table = (e i).1.1.1.1.1.0;
        lost = (e i).1.1.1.0;
        kept = (e i).1.1.1.1.1.1;
      };
    }

module _ (items : List Item) (place : ℕ) where
  -- where no such parts stand, no longest duration does
  pub longest_parts_fail : (e : FlatError) → Builds IsLongestForm longest_form_items items place (Err e)
      → Builds IsLongest longest_items items place (Err e)
  longest_parts_fail e fails = laws.form_fails IsLongestForm longest_form_items IsLongest longest_items longest_form
      (λ it. refl) form_valid items place e fails

  module _ (form : LongestForm) (next : ℕ) (one : IsBuilt IsLongestForm longest_form_items items place form next) where
    parts_are : (it : MaxProducer) → IsLongest it → StandsAt items place (longest_items it) → longest_form it ≡ form
    parts_are it valid there = one.only (longest_form it) (form_valid it valid) there

    -- a longest duration is built from its parts
    pub longest_made : (it : MaxProducer) → HasLongestForm form it
        → IsBuilt IsLongest longest_items items place it next
    longest_made it has =
        let mine = subst (λ f. IsBuilt IsLongestForm longest_form_items items place f next) (sym has.is) one in
        record {
          is_valid = record {
            bound_fits = has.bound_fits;
            leaves_fit = has.leaves_fit;
            keys = mine.is_valid.1.1.1.1.0;
            table = mine.is_valid.1.1.1.1.1.0;
            kept = mine.is_valid.1.1.1.1.1.1;
          };
          stands = mine.stands;
          ends = mine.ends;
          only = λ other valid there. one_form other it (parts_are other valid there ∙ sym has.is);
        }

    -- parts that none has aren't one
    pub longest_unmade : RestoresLongest form None → Builds IsLongest longest_items items place (Err Bad)
    longest_unmade never it valid there = never it valid (parts_are it valid there)

-- two parts that are added, one after the other
pub then_added : (old middle new first second : List Item) → middle ≡ old ++ first → new ≡ middle ++ second
    → new ≡ old ++ (first ++ second)
then_added old middle new first second one other =
    other ∙ ap (λ l. l ++ second) one ∙ append_assoc old first second
