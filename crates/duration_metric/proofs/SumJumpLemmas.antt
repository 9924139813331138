-- What a closed part, and the full buckets after it, make of the rows and of the books.
use Rattle.std.proofs.Common.{◌≡◌, ℕ, zero, suc, ◌+◌, ◌*◌, ◌^◌, ◌<◌, ◌≤◌, List, [], ◌∷◌, ◌++◌, map, take, length, refl, sym, ap, subst, ◌∙◌, arith, append-nil}
use Rattle.std.specs.List.{flat_map, IsDistinct}
use Rattle.std.specs.Map.{keys_of}
use Rattle.std.proofs.lemmas.Grind.{flat_map-append}
use Rattle.std.proofs.lemmas.List.{take_all}
use Rattle.std.proofs.Math.Seq.{take-nil}
use Rattle.atom_record.specs.Equal.{metric_key_exact}
use Rattle.atom_record.specs.declared.value.MetricKey.{MetricKey}
use Rattle.bucket_meaning.specs.Ends.{ends_from}
use Rattle.bucket_meaning.specs.Guard.{is_among, firsts, admitted, dropped}
use Rattle.bucket_meaning.specs.Kept.{count_in_u64}
use Rattle.bucket_meaning.specs.Marks.{Mark, Part, Books, books_from, boundary_marks}
use Rattle.bucket_meaning.specs.Rows.{drops, rows_of, closed_rows}
use Rattle.bucket_meaning.proofs.GuardLemmas.{is_among-firsts, none_dropped_all}
use Rattle.dim_table.specs.Table.{Table}
use Rattle.kept_rows.specs.KeptRows.{Keeping, IsKept, AddsRows}
use Rattle.metric_producer.specs.declared.row.Row.{Row}
use Rattle.metric_kinds.specs.Keys.{is_same_key}
use Rattle.metric_kinds.specs.Counts.{row_weight}
use Rattle.metric_kinds.specs.Runs.{Active, newly}
use Rattle.metric_kinds.specs.Durations.{sum_kind, active_edges}
use Rattle.metric_kinds.proofs.FullBuckets.{active_from, full_parts, after_full, none_dropped_first, full_books, full_rows}
use Rattle.duration_metric.specs.declared.sum.Span.{Span}
use Rattle.duration_metric.specs.SumParts.{Summing}
use Rattle.duration_metric.specs.SumStands.{span_of, span_row, whole_row, whole_rows, HoldsSums}
use Rattle.duration_metric.specs.SumSteps.{HasSpans, HasBegun, BeginsAll, ClosesRows}
use Rattle.duration_metric.proofs.ActiveLemmas.{firsts_stable}
use Rattle.duration_metric.proofs.BeginLemmas.{keys_of-spans, newly-none}
use Rattle.duration_metric.proofs.SpanLemmas.{part_rows, spans_fresh}

-- the rows of all closed parts, with one part more
closed_with : (bound : ℕ) (closed : List (Part (Active MetricKey))) (part : Part (Active MetricKey))
    → flat_map (rows_of sum_kind bound) (closed ++ part ∷ [])
    ≡ flat_map (rows_of sum_kind bound) closed ++ rows_of sum_kind bound part
closed_with bound closed part =
    flat_map-append (rows_of sum_kind bound) closed (part ∷ [])
    ∙ ap (λ rows. flat_map (rows_of sum_kind bound) closed ++ rows) (append-nil (rows_of sum_kind bound part))

-- where the last of some full buckets ends
after_full-is : (start size n : ℕ) → after_full start size n ≡ start + n * size
after_full-is start size zero = omega arith
after_full-is start size (suc n) = after_full-is (start + size) size n ∙ omega arith

-- the rows of full buckets
parts_whole : (bound : ℕ) (keys : List MetricKey) (few : length keys ≤ bound) (once : IsDistinct is_same_key keys)
    (start size : ℕ) (sized : 0 < size) (n : ℕ)
    → flat_map (rows_of sum_kind bound) (full_parts keys start size n) ≡ whole_rows start size n keys
parts_whole bound keys few once start size sized zero = refl
parts_whole bound keys few once start size sized (suc n) =
    ap (λ rows. rows ++ flat_map (rows_of sum_kind bound) (full_parts keys (start + size) size n))
    (full_rows bound keys few once size sized start)
    ∙ ap (λ rows. map (whole_row start size) keys ++ rows) (parts_whole bound keys few once (start + size) size sized n)

-- a part opens, in which nothing came so far
module _ (old new : Table MetricKey Span) (bound : ℕ) (outs keys : List MetricKey) (stop others : ℕ)
    (few : length keys ≤ bound) (firsts_are : firsts is_same_key [] outs ≡ keys)
    (begins : BeginsAll old new [] outs stop) (empty : old.rows ≡ []) (bound_is : old.bound ≡ bound)
    (dropped_are : old.dropped ≡ count_in_u64 others) where
  abbrev span : MetricKey → Span
  span = span_of (active_from keys stop ∷ [])

  -- the keys for which inner keys count begin
  outs_begun : HasBegun new bound span [] (newly is_same_key [] outs) others
  outs_begun = begins bound span [] others
      (λ key unseen there absent. spans_fresh [] (active_from keys stop) [] key unseen
      (ap (is_among is_same_key key) (sym firsts_are)
      ∙ is_among-firsts is_same_key metric_key_exact key [] outs ∙ there)
      absent)
      (record {
        bound_is = bound_is;
        rows = empty ∙ sym (ap (map (λ key. (key, span key))) (take-nil bound));
        dropped_are = dropped_are;
      })

  all_admitted : admitted is_same_key bound outs ≡ firsts is_same_key [] outs
  all_admitted = take_all bound (firsts is_same_key [] outs) (omega (arith, ap length firsts_are, few))

  none_more : outs_begun.more ≡ 0
  none_more =
      let none = none_dropped_all is_same_key metric_key_exact bound outs all_admitted in
      omega (arith, outs_begun.counted, none, ap (dropped is_same_key bound) (newly-none outs))

  same_keys : admitted is_same_key bound (newly is_same_key [] outs) ≡ admitted is_same_key bound keys
  same_keys =
      ap (admitted is_same_key bound) (newly-none outs)
      ∙ ap (take bound) (sym (firsts_stable [] outs refl) ∙ ap (firsts is_same_key []) firsts_are)

  -- each active key has a span that begins, and no other key has one
  pub opened : HasSpans new bound span keys others
  opened = record {
    bound_is = outs_begun.has.bound_is;
    rows = outs_begun.has.rows ∙ ap (map (λ key. (key, span key))) same_keys;
    dropped_are = outs_begun.has.dropped_are ∙ ap count_in_u64 (omega (arith, none_more));
  }

  pub opened_keys : keys_of new.rows ≡ keys
  opened_keys =
      ap keys_of opened.rows ∙ keys_of-spans span (admitted is_same_key bound keys)
      ∙ sym same_keys ∙ ap (admitted is_same_key bound) (newly-none outs) ∙ all_admitted ∙ firsts_are

module _ (old mid : Summing) (kept : Keeping (Row ℕ)) (new : Table MetricKey Span) (end size n stop bound : ℕ)
    (keys outs : List MetricKey) (last others : ℕ) (books : Books (Active MetricKey)) (stops : stop ≡ end + n * size)
    (closes : ClosesRows old mid end) (adds : AddsRows row_weight mid.kept kept (whole_rows end size n keys))
    (begins : BeginsAll mid.table new [] outs stop) (firsts_are : firsts is_same_key [] outs ≡ keys)
    (holds : HoldsSums old bound keys last others books)
    (later : last ≤ end) (fits : end < 2 ^ 63) (sized : 0 < size) where
  abbrev part : Part (Active MetricKey)
  part = record { start = books.start; end = end; came = books.came }

  -- the rows of the part that is closed, and of the full buckets, were kept or counted
  jumped_kept : IsKept row_weight
      (flat_map (rows_of sum_kind bound) ((books.closed ++ part ∷ []) ++ full_parts keys end size n)) kept
  jumped_kept =
      let closed = closed_rows sum_kind bound books in
      let here : flat_map (span_row old.start end) old.table.rows ≡ rows_of sum_kind bound part =
      ap (λ s. flat_map (span_row s end) old.table.rows) holds.start
      ∙ ap (flat_map (span_row books.start end)) holds.table
      ∙ part_rows books.came books.start end holds.rises (omega (arith, holds.so_far, later)) (omega (arith, fits))
      holds.all_once bound in
      subst (λ rows. IsKept row_weight rows kept)
      (ap (λ rows. rows ++ whole_rows end size n keys) (sym (closed_with bound books.closed part))
      ∙ ap (λ rows. flat_map (rows_of sum_kind bound) (books.closed ++ part ∷ []) ++ rows)
      (sym (parts_whole bound keys holds.few holds.once end size sized n))
      ∙ sym (flat_map-append (rows_of sum_kind bound) (books.closed ++ part ∷ []) (full_parts keys end size n)))
      (adds (closed ++ rows_of sum_kind bound part)
      (subst (λ rows. IsKept row_weight (closed ++ rows) mid.kept) here (closes.adds closed holds.kept)))

  abbrev opening : Active MetricKey
  opening = active_from keys stop

  -- the active keys begin anew
  jumped_begun : HasSpans new bound (span_of (opening ∷ [])) keys others
  jumped_begun =
      let table = ap (λ (it : Summing). it.table) closes.same in
      opened mid.table new bound outs keys stop others holds.few firsts_are begins
      (ap (λ (t : Table MetricKey Span). t.rows) table)
      (ap (λ (t : Table MetricKey Span). t.bound) table ∙ holds.bound_is)
      (ap (λ (t : Table MetricKey Span). t.dropped) table ∙ holds.dropped)

  abbrev jumped_it : Summing
  jumped_it = record mid { start = stop; kept = kept; table = new }

  abbrev jumped_books : ℕ → ℕ → Books (Active MetricKey)
  jumped_books at lost = record {
    start = at;
    came = active_from keys at ∷ [];
    closed = (books.closed ++ part ∷ []) ++ full_parts keys end size n;
    dropped = lost;
    missing = books.missing;
  }

  jumped_holds : (lost : ℕ) → HoldsSums jumped_it bound keys stop others (jumped_books stop lost)
  jumped_holds lost = record {
    bound_is = jumped_begun.bound_is;
    start = refl;
    came_last = refl;
    few = holds.few;
    once = holds.once;
    rises = (omega arith, tt);
    so_far = omega arith;
    all_once = (holds.once, tt);
    table = jumped_begun.rows
        ∙ ap (λ ks. map (λ key. (key, span_of (opening ∷ []) key)) (admitted is_same_key bound ks))
        (sym (append-nil (newly is_same_key [] keys) ∙ newly-none keys));
    dropped = jumped_begun.dropped_are;
    kept = jumped_kept;
    missing = holds.missing;
  }

  abbrev all_marks : List (Mark (Active MetricKey))
  all_marks = boundary_marks (active_edges keys) (ends_from end size (suc n))

  -- what the boundaries make of the books
  jumped-are : (lost : ℕ) → lost ≡ books.dropped + drops sum_kind bound [] (active_from keys end)
      → books_from (drops sum_kind bound) books all_marks ≡ jumped_books stop lost
  jumped-are lost is =
      full_books bound keys holds.few end size n (books.closed ++ part ∷ [])
      (books.dropped + drops sum_kind bound [] (active_from keys end)) books.missing
      ∙ ap (λ at. jumped_books at (books.dropped + drops sum_kind bound [] (active_from keys end)))
      (after_full-is end size n ∙ sym stops)
      ∙ ap (jumped_books stop) (sym is)

  jumped-drops : books.dropped ≡ books.dropped + drops sum_kind bound [] (active_from keys end)
  jumped-drops = omega (arith, none_dropped_first bound keys holds.few end)

  -- the producer holds the books after all boundaries
  pub jumps : HoldsSums jumped_it bound keys stop others (books_from (drops sum_kind bound) books all_marks)
  jumps = subst (HoldsSums jumped_it bound keys stop others) (sym (jumped-are books.dropped jumped-drops))
      (jumped_holds books.dropped)

  -- and none more is dropped
  pub jumps_dropped : (books_from (drops sum_kind bound) books all_marks).dropped ≡ books.dropped
  jumps_dropped = ap (λ (b : Books (Active MetricKey)). b.dropped) (jumped-are books.dropped jumped-drops)
