-- For the builds of what is kept of inner keys and of spans: each is saved as its parts.
use Rattle.std.proofs.Common.{◌≡◌, ℕ, Bool, true, false, Option, Err, List, refl, sym, ap, subst, arith}
use Rattle.atom_record.specs.declared.value.MetricKey.{MetricKey}
use Rattle.flat_form.specs.declared.item.Item.{Item}
use Rattle.flat_form.specs.declared.flat_error.FlatError.{FlatError}
use Rattle.flat_form.specs.declared.flat_error.FlatError.TheVariants.{Bad}
use Rattle.flat_form.specs.Flat.{Anything, IsValidPair, IsMissingOr, IsBuilt, Builds, number_items, key_items, pair_items, option_items}
use Rattle.flat_form.proofs.FlatLaws as laws
use Rattle.predicate_state.specs.PredicateItems.{flag_number}
use Rattle.predicate_state.specs.declared.truth.Truth.{Truth}
use Rattle.predicate_state.specs.declared.truth.Truth.TheVariants.{False, Unknown, True}
use Rattle.duration_metric.specs.declared.inner.Known.{Known}
use Rattle.duration_metric.specs.declared.inner.Inner.{Inner}
use Rattle.duration_metric.specs.declared.sparse_keys.SparseEntry.{SparseEntry}
use Rattle.duration_metric.specs.declared.sum.Span.{Span}
use Rattle.duration_metric.specs.InnerItems.{known_truth_number, known_items, missing_or_any, inner_items, entry_items, span_items}

same_truth : (one other : Truth) → known_truth_number one ≡ known_truth_number other → one ≡ other
same_truth False False e = refl
same_truth False Unknown e = absurd (omega arith)
same_truth False True e = absurd (omega arith)
same_truth Unknown False e = absurd (omega arith)
same_truth Unknown Unknown e = refl
same_truth Unknown True e = absurd (omega arith)
same_truth True False e = absurd (omega arith)
same_truth True Unknown e = absurd (omega arith)
same_truth True True e = refl

-- a flag has a number of its own
pub same_flag : (one other : Bool) → flag_number one ≡ flag_number other → one ≡ other
same_flag true true e = refl
same_flag true false e = absurd (omega arith)
same_flag false true e = absurd (omega arith)
same_flag false false e = refl

-- what was told, by its parts
abbrev known_form : Known → ℕ × MetricKey
known_form known = (known_truth_number known.truth, known.out)

abbrev pub known_form_items : ℕ × MetricKey → List Item
known_form_items = pair_items number_items key_items

abbrev pub IsKnownForm : ℕ × MetricKey → Type 0
IsKnownForm = IsValidPair Anything Anything

module _ (items : List Item) (place : ℕ) where
  -- no such parts stand there, so nothing that was told does
  pub known_fails : (e : FlatError) → Builds IsKnownForm known_form_items items place (Err e)
      → Builds Anything known_items items place (Err e)
  known_fails e fails = laws.form_fails IsKnownForm known_form_items Anything known_items known_form (λ known. refl)
      (λ known is. (tt, tt)) items place e fails

  module _ (form : ℕ × MetricKey) (next : ℕ) (one : IsBuilt IsKnownForm known_form_items items place form next) where
    -- the number that stands there is no truth's
    pub known_none : ((truth : Truth) → ¬ (known_truth_number truth ≡ form.0))
        → Builds Anything known_items items place (Err Bad)
    known_none never known valid there =
        never known.truth (ap (λ (f : ℕ × MetricKey). f.0) (one.only (known_form known) (tt, tt) there))

    -- what was told with the truth and the key that stand there
    pub known_built : (truth : Truth) → known_truth_number truth ≡ form.0
        → IsBuilt Anything known_items items place (record { truth = truth; out = form.1 }) next
    known_built truth is =
        let same : form ≡ (known_truth_number truth, form.1) = ap (λ (n : ℕ). (n, form.1)) (sym is) in
        let mine = subst (λ f. IsBuilt IsKnownForm known_form_items items place f next) same one in
        record {
          is_valid = tt;
          stands = mine.stands;
          ends = mine.ends;
          only = λ other valid there.
              let e = mine.only (known_form other) (tt, tt) there in
              let truths = same_truth other.truth truth (ap (λ (f : ℕ × MetricKey). f.0) e) in
              λ i. record { truth = truths i; out = (e i).1 };
        }

-- an inner key by its parts
abbrev pub InnerForm : Type 0
InnerForm = ℕ × (ℕ × Option Known)

abbrev inner_form : Inner → InnerForm
inner_form inner = (inner.count, (flag_number inner.tallied, inner.known))

abbrev pub inner_form_items : InnerForm → List Item
inner_form_items = pair_items number_items (pair_items number_items (option_items known_items))

abbrev pub IsInnerForm : InnerForm → Type 0
IsInnerForm = IsValidPair Anything (IsValidPair Anything (IsMissingOr Anything))

-- a timed inner key by its parts
abbrev pub EntryForm : Type 0
EntryForm = ℕ × (ℕ × (ℕ × Option Known))

abbrev entry_form : SparseEntry → EntryForm
entry_form entry = (entry.count, (entry.time, (entry.since, entry.known)))

abbrev pub entry_form_items : EntryForm → List Item
entry_form_items =
    pair_items number_items (pair_items number_items (pair_items number_items (option_items known_items)))

abbrev pub IsEntryForm : EntryForm → Type 0
IsEntryForm = IsValidPair Anything (IsValidPair Anything (IsValidPair Anything (IsMissingOr Anything)))

-- a span by its parts
abbrev pub SpanForm : Type 0
SpanForm = ℕ × Option ℕ

abbrev span_form : Span → SpanForm
span_form span = (span.sum, span.since)

abbrev pub span_form_items : SpanForm → List Item
span_form_items = pair_items number_items (option_items number_items)

abbrev pub IsSpanForm : SpanForm → Type 0
IsSpanForm = IsValidPair Anything (IsMissingOr Anything)

module _ (items : List Item) (place : ℕ) where
  -- no such parts stand there, so no inner key does
  pub inner_fails : (e : FlatError) → Builds IsInnerForm inner_form_items items place (Err e)
      → Builds Anything inner_items items place (Err e)
  inner_fails e fails = laws.form_fails IsInnerForm inner_form_items Anything inner_items inner_form (λ inner. refl)
      (λ inner is. (tt, (tt, missing_or_any inner.known))) items place e fails

  module _ (form : InnerForm) (next : ℕ) (one : IsBuilt IsInnerForm inner_form_items items place form next) where
    -- the number that stands there is no flag's
    pub inner_none : ((flag : Bool) → ¬ (flag_number flag ≡ form.1.0))
        → Builds Anything inner_items items place (Err Bad)
    inner_none never inner valid there =
        never inner.tallied
        (ap (λ (f : InnerForm). f.1.0) (one.only (inner_form inner) (tt, (tt, missing_or_any inner.known)) there))

    -- the inner key of the parts that stand there
    pub inner_built : (tallied : Bool) → flag_number tallied ≡ form.1.0
        → IsBuilt Anything inner_items items place (record { count = form.0; known = form.1.1; tallied = tallied }) next
    inner_built tallied is =
        let same : form ≡ (form.0, (flag_number tallied, form.1.1)) =
        ap (λ (n : ℕ). (form.0, (n, form.1.1))) (sym is) in
        let mine = subst (λ f. IsBuilt IsInnerForm inner_form_items items place f next) same one in
        record {
          is_valid = tt;
          stands = mine.stands;
          ends = mine.ends;
          only = λ other valid there.
              let e = mine.only (inner_form other) (tt, (tt, missing_or_any other.known)) there in
              let flags = same_flag other.tallied tallied (ap (λ (f : InnerForm). f.1.0) e) in
              λ i. record { count = (e i).0; known = (e i).1.1; tallied = flags i };
        }

  -- no such parts stand there, so no timed inner key does
  pub entry_fails : (e : FlatError) → Builds IsEntryForm entry_form_items items place (Err e)
      → Builds Anything entry_items items place (Err e)
  entry_fails e fails = laws.form_fails IsEntryForm entry_form_items Anything entry_items entry_form (λ entry. refl)
      (λ entry is. (tt, (tt, (tt, missing_or_any entry.known)))) items place e fails

  -- the timed inner key of the parts that stand there
  pub entry_built : (form : EntryForm) (next : ℕ) → IsBuilt IsEntryForm entry_form_items items place form next
      → IsBuilt Anything entry_items items place
      (record { count = form.0; known = form.1.1.1; time = form.1.0; since = form.1.1.0 }) next
  entry_built form next one = record {
    is_valid = tt;
    stands = one.stands;
    ends = one.ends;
    only = λ other valid there.
        ap (λ (f : EntryForm). record { count = f.0; known = f.1.1.1; time = f.1.0; since = f.1.1.0 })
        (one.only (entry_form other) (tt, (tt, (tt, missing_or_any other.known))) there);
  }

  -- no such parts stand there, so no span does
  pub span_fails : (e : FlatError) → Builds IsSpanForm span_form_items items place (Err e)
      → Builds Anything span_items items place (Err e)
  span_fails e fails = laws.form_fails IsSpanForm span_form_items Anything span_items span_form (λ span. refl)
      (λ span is. (tt, missing_or_any span.since)) items place e fails

  -- the span of the parts that stand there
  pub span_built : (form : SpanForm) (next : ℕ) → IsBuilt IsSpanForm span_form_items items place form next
      → IsBuilt Anything span_items items place (record { sum = form.0; since = form.1 }) next
  span_built form next one = record {
    is_valid = tt;
    stands = one.stands;
    ends = one.ends;
    only = λ other valid there. ap (λ (f : SpanForm). record { sum = f.0; since = f.1 })
        (one.only (span_form other) (tt, missing_or_any other.since) there);
  }
