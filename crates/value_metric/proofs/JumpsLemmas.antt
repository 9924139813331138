-- Full buckets in which the same comes, closed at once, are those closed one after the other.
use Rattle.std.proofs.Common.{◌≡◌, ℕ, ℤ, zero, suc, ◌+◌, ◌*◌, ◌<◌, List, [], ◌∷◌, ◌++◌, map, Option, Some, None, refl, sym, ap, subst, ◌∙◌, append-nil}
use Rattle.std.specs.List.{flat_map}
use Rattle.std.proofs.lemmas.Grind.{flat_map-append}
use Rattle.atom_record.specs.Equal.{metric_key_exact}
use Rattle.atom_record.specs.declared.value.MetricKey.{MetricKey}
use Rattle.bucket_meaning.specs.Kept.{count_in_u64}
use Rattle.bucket_meaning.specs.Limits.{time_limit}
use Rattle.bucket_meaning.specs.Marks.{Mark, Came, Part, Books, books_from}
use Rattle.bucket_meaning.specs.Rows.{drops, row_of, rows_of, closed_rows}
use Rattle.bucket_meaning.specs.Guard.{admitted, arrival_key}
use Rattle.config_types.specs.declared.parameters.DiffSpec.{DiffSpec}
use Rattle.kept_rows.specs.KeptRows.{IsKept, AddsRows}
use Rattle.metric_kinds.specs.Diffs.{KeyedInts, key_diff}
use Rattle.metric_kinds.specs.Keys.{is_same_key}
use Rattle.metric_kinds.proofs.ArrivalsLemmas.{dropped_of}
use Rattle.metric_kinds.proofs.JumpLemmas.{books_at, parts_again, BringAgain, closed_again, missed_again, came_again}
use Rattle.value_metric.specs.declared.value_books.Counts.{Counts}
use Rattle.value_metric.specs.declared.value_books.ValueBooks.{ValueBooks}
use Rattle.value_metric.specs.Totals.{totals, total_rows, bucket_rows, row_weighs}
use Rattle.value_metric.specs.ValueBooksStand.{ValueForm, form_kind, HoldsBooks, TakesValueMarks, Since, same_parts, ClosesAgain}
use Rattle.value_metric.specs.Sums.{sums_marks, opened_marks}
use Rattle.value_metric.specs.PulledSteps.{marks_again, TakesAgain}
use Rattle.value_metric.proofs.BooksLemmas.{rows_by_totals, totals_none}

-- parts in which the same came are those of a jump
same_parts-again : (size : ℕ) (came : List (MetricKey × ℤ)) (start n : ℕ)
    → parts_again start size came n ≡ same_parts size came start n
same_parts-again size came start zero = refl
same_parts-again size came start (suc n) =
    ap (λ parts. record { start = start; end = start + size; came = came } ∷ parts)
    (same_parts-again size came (start + size) n)

-- the rows of those parts are those of the same totals
rows_of_parts : (form : ValueForm) (size : ℕ) (came : List (MetricKey × ℤ)) (start n : ℕ)
    → flat_map (rows_of (form_kind form) form.bound) (same_parts size came start n)
    ≡ bucket_rows form.hides_zeros (totals form.aggregation form.bound came) size start n
rows_of_parts form size came start zero = refl
rows_of_parts form size came start (suc n) =
    let part : Part (MetricKey × ℤ) = record { start = start; end = start + size; came = came } in
    let keys = admitted is_same_key form.bound (map arrival_key came) in
    ap (λ rows. rows ++ flat_map (rows_of (form_kind form) form.bound) (same_parts size came (start + size) n))
    (append-nil (flat_map (row_of (form_kind form) form.bound part) keys) ∙ rows_by_totals form part keys)
    ∙ ap (λ rows. flat_map (total_rows form.hides_zeros start (start + size)) (totals form.aggregation form.bound came)
    ++ rows) (rows_of_parts form size came (start + size) n)

-- so many full buckets were closed at once
pub closes_again : (old new : ValueBooks) (since : Counts) (size number : ℕ)
    → (old.start + number * size < time_limit → new.start ≡ old.start + number * size)
    → new.aggregation ≡ old.aggregation → new.hides_zeros ≡ old.hides_zeros
    → new.table.bound ≡ old.table.bound → new.table.rows ≡ []
    → ((count more : ℕ) → since.dropped ≡ count_in_u64 count → old.table.dropped ≡ count_in_u64 (count + more)
    → new.table.dropped ≡ count_in_u64 (count + number * more))
    → ((count more : ℕ) → since.missing ≡ count_in_u64 count → old.missing ≡ count_in_u64 (count + more)
    → new.missing ≡ count_in_u64 (count + number * more))
    → (old.start + number * size < time_limit → AddsRows row_weighs old.kept new.kept
    (bucket_rows old.hides_zeros old.table.rows size old.start number))
    → ClosesAgain old new since size number
closes_again old new since size number start aggregation hides_zeros bound rows dropped missing adds
    form books lost missed at fits has =
    let came = books.came in
    let own_fits : old.start + number * size < time_limit =
    subst (λ s. s + number * size < time_limit) (sym has.start) fits in
    let all = closed_rows (form_kind form) form.bound books in
    let rows_are : bucket_rows old.hides_zeros old.table.rows size old.start number
    ≡ flat_map (rows_of (form_kind form) form.bound) (same_parts size came books.start number) =
    ap (λ hides. bucket_rows hides old.table.rows size old.start number) has.hides_zeros
    ∙ ap (λ rows. bucket_rows form.hides_zeros rows size old.start number)
    (has.table.rows ∙ ap (λ n. totals form.aggregation n came) has.bound)
    ∙ ap (λ s. bucket_rows form.hides_zeros (totals form.aggregation form.bound came) size s number) has.start
    ∙ sym (rows_of_parts form size came books.start number) in
    record {
      bound = bound ∙ has.bound;
      aggregation = aggregation ∙ has.aggregation;
      hides_zeros = hides_zeros ∙ has.hides_zeros;
      start = start own_fits ∙ ap (λ s. s + number * size) has.start;
      table = record {
        rows = rows ∙ sym (totals_none form.aggregation new.table.bound);
        dropped_are = dropped books.dropped lost at.dropped_are has.table.dropped_are;
      };
      kept = subst (λ rows. IsKept row_weighs rows new.kept)
          (sym (flat_map-append (rows_of (form_kind form) form.bound) books.closed
          (same_parts size came books.start number)))
          (subst (λ rows. IsKept row_weighs (all ++ rows) new.kept) rows_are (adds own_fits all has.kept));
      missing = missing books.missing missed at.missing_are has.missing;
    }

module _ (old mid new : ValueBooks) (since : Counts) (size number : ℕ)
    (dropped_are : since.dropped ≡ old.table.dropped) (missing_are : since.missing ≡ old.missing)
    (closes : ClosesAgain mid new since size number) where
  -- the marks of an interval that is open in all of a full bucket come in each, and so does all that they bring
  takes_by : (marks : List (Mark (MetricKey × ℤ))) → TakesValueMarks old mid marks
      → ((form : ValueForm) → (came : List (MetricKey × ℤ)) × (lost : ℕ) × (missed : ℕ)
      × BringAgain (drops (form_kind form) form.bound) marks came lost missed)
      → TakesAgain old new marks size number
  takes_by marks takes brings form books none fits has =
      let drop = drops (form_kind form) form.bound in
      let brought = brings form in
      let came = brought.0 in
      let lost = brought.1 in
      let missed = brought.2 in
      let bring : BringAgain drop marks came lost missed = brought.3 in
      let empty : Books (MetricKey × ℤ) = books_at books.start [] books.closed books.dropped books.missing in
      let is_empty : books ≡ empty =
      ap (λ l. books_at books.start l books.closed books.dropped books.missing) none in
      let has_mid : HoldsBooks mid form
      (books_at books.start came books.closed (books.dropped + lost) (books.missing + missed)) =
      subst (HoldsBooks mid form)
      (ap (λ b. books_from drop b marks) is_empty ∙ bring books.start books.closed books.dropped books.missing)
      (takes form books has) in
      let at : Since since books.dropped books.missing = record {
        dropped_are = dropped_are ∙ has.table.dropped_are;
        missing_are = missing_are ∙ has.missing;
      } in
      subst (HoldsBooks new form)
      (ap (λ parts. books_at (books.start + number * size) [] (books.closed ++ parts)
      (books.dropped + number * lost) (books.missing + number * missed))
      (sym (same_parts-again size came books.start number))
      ∙ sym (closed_again drop marks came lost missed size bring number books.start books.closed books.dropped
      books.missing)
      ∙ ap (λ b. books_from drop b (marks_again marks size (books.start + size) number)) (sym is_empty))
      (closes form (books_at books.start came books.closed books.dropped books.missing) lost missed at fits has_mid)

  -- a difference of each key comes in each full bucket, nothing does, or each misses a snapshot
  pub takes_again : (spec : DiffSpec) (begun : Option (Option KeyedInts)) (ends : Option KeyedInts)
      → TakesValueMarks old mid (opened_marks spec begun ends)
      → TakesAgain old new (opened_marks spec begun ends) size number
  takes_again spec None ends takes =
      takes_by [] takes (λ form. (
        [],
        dropped_of (form_kind form) form.bound [],
        0,
        came_again (form_kind form) form.bound metric_key_exact (λ came. refl) [],
      ))
  takes_again spec (Some (Some starts)) (Some ends) takes =
      let came : List (MetricKey × ℤ) = flat_map (key_diff spec starts) ends in
      takes_by (map Came came) takes (λ form. (
        came,
        dropped_of (form_kind form) form.bound came,
        0,
        came_again (form_kind form) form.bound metric_key_exact (λ came. refl) came,
      ))
  takes_again spec (Some None) ends takes =
      takes_by (sums_marks spec None ends) takes (λ form. ([], 0, 1, missed_again (drops (form_kind form) form.bound)))
  takes_again spec (Some (Some starts)) None takes =
      takes_by (sums_marks spec (Some starts) None) takes
      (λ form. ([], 0, 1, missed_again (drops (form_kind form) form.bound)))
