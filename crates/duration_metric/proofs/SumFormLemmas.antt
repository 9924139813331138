-- For the build of sums: a sum is saved as its parts.
use Rattle.std.proofs.Common.{◌≡◌, ℕ, Bool, true, false, Err, List, ◌++◌, All, refl, sym, ap, subst, ◌∙◌, append_assoc, arith}
use Rattle.flat_form.specs.declared.item.Item.{Item}
use Rattle.flat_form.specs.declared.flat_error.FlatError.{FlatError}
use Rattle.flat_form.specs.declared.flat_error.FlatError.TheVariants.{Bad, Memory}
use Rattle.flat_form.specs.Flat.{Anything, IsFront, IsValidPair, StandsAt, IsBuilt, Builds, number_items, dims_items, key_items, list_items, pair_items}
use Rattle.flat_form.proofs.FlatLaws as laws
use Rattle.dim_table.specs.TableItems.{table_items, IsTable}
use Rattle.kept_rows.specs.KeptItems.{kept_items, IsKeeping}
use Rattle.metric_producer.specs.RowItems.{IsRow}
use Rattle.metric_kinds.specs.Counts.{row_weight}
use Rattle.predicate_state.specs.PredicateItems.{flag_number}
use Rattle.duration_metric.specs.SumParts.{Summing}
use Rattle.duration_metric.specs.InnerItems.{inner_items, span_items}
use Rattle.duration_metric.specs.SumItems.{time_row_items, sum_producer_items, IsSumProducer, any_keys}
use Rattle.duration_metric.specs.SumForm.{SumForm, sum_form, RestoresSum}

-- their items
abbrev pub sum_form_items : SumForm → List Item
sum_form_items = pair_items number_items (pair_items number_items (pair_items number_items (pair_items number_items
    (pair_items (table_items dims_items inner_items) (pair_items (list_items number_items)
    (pair_items (list_items key_items)
    (pair_items (table_items key_items span_items) (kept_items time_row_items))))))))

-- which parts may stand there
abbrev pub IsSumForm : SumForm → Type 0
IsSumForm = IsValidPair Anything (IsValidPair Anything (IsValidPair Anything (IsValidPair Anything
    (IsValidPair (IsTable Anything Anything) (IsValidPair (All Anything) (IsValidPair (All Anything)
    (IsValidPair (IsTable Anything Anything) (IsKeeping row_weight (IsRow Anything)))))))))

-- the parts of a sum may
form_valid : (it : Summing) → IsSumProducer it → IsSumForm (sum_form it)
form_valid it is = (
  tt,
  (
    tt,
    (
      tt,
      (
        tt,
        (is.inner, (any_keys it.inner.touched, (any_keys it.inner.gone, (is.table, is.kept)))),
      ),
    ),
  ),
)

-- a flag has a number of its own
pub one_flag : (one other : Bool) → flag_number one ≡ flag_number other → one ≡ other
one_flag true true e = refl
one_flag true false e = absurd (omega arith)
one_flag false true e = absurd (omega arith)
one_flag false false e = refl

-- two sums with the same parts are the same
one_form : (one other : Summing) → sum_form one ≡ sum_form other → one ≡ other
one_form one other e =
    let nesting = one_flag one.inner.nesting other.inner.nesting (ap (λ (f : SumForm). f.1.1.0) e) in
    let unknown = one_flag one.inner.unknown other.inner.unknown (ap (λ (f : SumForm). f.1.1.1.0) e) in
    λ i. record {
      start = (e i).0;
      inner = record {
        nesting = nesting i;
        unknown = unknown i;
        keys = (e i).1.1.1.1.0;
        touched = (e i).1.1.1.1.1.0;
        gone = (e i).1.1.1.1.1.1.0;
      };
      table = (e i).1.1.1.1.1.1.1.0;
      kept = (e i).1.1.1.1.1.1.1.1;
      reported = (e i).1.0;
    }

module _ (items : List Item) (place : ℕ) where
  -- where no such parts stand, no sum does
  pub sum_parts_fail : (e : FlatError) → Builds IsSumForm sum_form_items items place (Err e)
      → Builds IsSumProducer sum_producer_items items place (Err e)
  sum_parts_fail e fails = laws.form_fails IsSumForm sum_form_items IsSumProducer sum_producer_items sum_form
      (λ it. refl) form_valid
      items place e fails

  module _ (form : SumForm) (next : ℕ) (one : IsBuilt IsSumForm sum_form_items items place form next) where
    parts_are : (it : Summing) → IsSumProducer it → StandsAt items place (sum_producer_items it) → sum_form it ≡ form
    parts_are it valid there = one.only (sum_form it) (form_valid it valid) there

    -- a sum is built from its parts
    pub sum_made : (it : Summing) → sum_form it ≡ form → IsBuilt IsSumProducer sum_producer_items items place it next
    sum_made it is =
        let mine = subst (λ f. IsBuilt IsSumForm sum_form_items items place f next) (sym is) one in
        record {
          is_valid = record {
            inner = mine.is_valid.1.1.1.1.0;
            table = mine.is_valid.1.1.1.1.1.1.1.0;
            kept = mine.is_valid.1.1.1.1.1.1.1.1;
          };
          stands = mine.stands;
          ends = mine.ends;
          only = λ other valid there. one_form other it (parts_are other valid there ∙ sym is);
        }

    -- parts that no sum has aren't a sum
    pub sum_unmade : (e : FlatError) → RestoresSum form (Err e)
        → Builds IsSumProducer sum_producer_items items place (Err e)
    sum_unmade Bad never = λ it valid there. never it (parts_are it valid there)
    sum_unmade Memory none = tt

-- what stood before some items stands before them with more
pub front_before : (old middle new x : List Item) → middle ≡ old ++ x → IsFront middle new → IsFront old new
front_before old middle new x first front = record {
  more = x ++ front.more;
  parts = front.parts ∙ ap (λ l. l ++ front.more) first ∙ append_assoc old x front.more;
}
