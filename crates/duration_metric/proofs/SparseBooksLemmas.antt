-- The books of a longest duration through each mark.
use Rattle.std.proofs.Common.{◌≡◌, ℕ, zero, suc, ◌+◌, ◌*◌, List, [], ◌∷◌, ◌++◌, map, take, length, ◌-◌, refl, sym, ap, subst, ◌∙◌, append_assoc, append-nil, arith}
use Rattle.std.specs.List.{flat_map}
use Rattle.std.proofs.lemmas.Grind.{flat_map-append}
use Rattle.std.proofs.Math.Seq.{take-nil}
use Rattle.atom_record.specs.declared.value.MetricKey.{MetricKey}
use Rattle.bucket_meaning.specs.Ends.{ends_from}
use Rattle.bucket_meaning.specs.Marks.{Mark, Ends, Came, Lost, Asked, Part, Books, no_edges, boundary_marks}
use Rattle.bucket_meaning.specs.Guard.{admitted, arrival_key}
use Rattle.bucket_meaning.specs.Kept.{Taken, count_in_u64, taken_of}
use Rattle.bucket_meaning.specs.Rows.{drops, row_of, rows_of, closed_rows}
use Rattle.bucket_meaning.proofs.MarksLemmas.{books-append}
use Rattle.dim_table.specs.Table.{Table}
use Rattle.kept_rows.specs.KeptRows.{Keeping, IsKept, AddsRows}
use Rattle.metric_kinds.specs.Keys.{is_same_key}
use Rattle.metric_kinds.specs.Counts.{row_weight}
use Rattle.metric_kinds.specs.Durations.{longest_kind}
use Rattle.metric_producer.specs.declared.row.Row.{Row}
use Rattle.duration_metric.specs.declared.sparse_books.SparseBooks.{SparseBooks}
use Rattle.duration_metric.specs.SparseTimes.{longest_of, longest_times, HasTimes, TakesTime, time_rows}
use Rattle.duration_metric.specs.SparseBooksStand.{HoldsTimes, with_longest, TakesLongestMarks, ShowsLongest}

-- the rows of a part are those of its longest times
rows_by_times : (bound : ℕ) (part : Part (MetricKey × ℕ)) (ks : List MetricKey)
    → flat_map (row_of longest_kind bound part) ks
    ≡ flat_map (time_rows part.start part.end) (map (longest_of part.came) ks)
rows_by_times bound part [] = refl
rows_by_times bound part (key ∷ ks) =
    ap (λ rows. time_rows part.start part.end (longest_of part.came key) ++ rows) (rows_by_times bound part ks)

-- the rows of all closed parts, with one part more
closed_rows-push : (bound : ℕ) (closed : List (Part (MetricKey × ℕ))) (part : Part (MetricKey × ℕ))
    → flat_map (rows_of longest_kind bound) (closed ++ part ∷ [])
    ≡ flat_map (rows_of longest_kind bound) closed ++ rows_of longest_kind bound part
closed_rows-push bound closed part =
    flat_map-append (rows_of longest_kind bound) closed (part ∷ [])
    ∙ ap (λ rows. flat_map (rows_of longest_kind bound) closed ++ rows) (append-nil (rows_of longest_kind bound part))

-- nothing has come, so there are no times
times_none : (bound : ℕ) → longest_times bound [] ≡ []
times_none bound = ap (map (longest_of [])) (take-nil bound)

-- a part in which nothing came has no row
no_rows : (bound start end : ℕ)
    → rows_of longest_kind bound (record { start = start; end = end; came = [] }) ≡ []
no_rows bound start end =
    append-nil (flat_map (row_of longest_kind bound (record { start = start; end = end; came = [] })) (take bound []))
    ∙ ap (flat_map (row_of longest_kind bound (record { start = start; end = end; came = [] }))) (take-nil bound)

-- an empty object holds books whose time has just begun
pub opens : (it : SparseBooks) (bound start : ℕ) → it.table ≡ record { rows = []; bound = bound; dropped = 0 }
    → it.start ≡ start → it.lost ≡ 0 → IsKept row_weight [] it.kept
    → HoldsTimes it bound (record { start = start; came = []; closed = []; dropped = 0; missing = 0 })
opens it bound start table starts lost kept = record {
  bound_is = ap (λ (t : Table MetricKey ℕ). t.bound) table;
  start = starts;
  arrivals = 0;
  inner_keys = 0;
  table = record {
    rows = ap (λ (t : Table MetricKey ℕ). t.rows) table ∙ sym (times_none it.table.bound);
    dropped_are = ap (λ (t : Table MetricKey ℕ). t.dropped) table;
  };
  lost = lost;
  dropped = refl;
  kept = kept;
  missing = refl;
}

-- nothing comes
pub stays : (it : SparseBooks) → TakesLongestMarks it it []
stays it bound books has = has

-- some marks come, and then others
pub then_more : (old mid new : SparseBooks) (first second : List (Mark (MetricKey × ℕ)))
    → TakesLongestMarks old mid first
    → TakesLongestMarks mid new second → TakesLongestMarks old new (first ++ second)
then_more old mid new first second one other bound books has =
    subst (HoldsTimes new bound) (sym (books-append (drops longest_kind bound) books first second))
    (other bound (with_longest bound books first) (one bound books has))

-- a time came
pub comes : (old : SparseBooks) (table : Table MetricKey ℕ) (key : MetricKey) (time : ℕ)
    → TakesTime old.table table key time → TakesLongestMarks old (record old { table = table }) (Came (key, time) ∷ [])
comes old table key time takes bound books has =
    let more = drops longest_kind bound books.came (key, time) in
    record {
      bound_is = takes.bound ∙ has.bound_is;
      start = has.start;
      arrivals = has.arrivals + more;
      inner_keys = has.inner_keys;
      table = subst (λ n. HasTimes table (books.came ++ (key, time) ∷ [])
          (has.arrivals + drops longest_kind n books.came (key, time))) has.bound_is
          (takes.times_are books.came has.arrivals has.table);
      lost = has.lost;
      dropped = omega (arith, has.dropped);
      kept = has.kept;
      missing = has.missing;
    }

-- an inner key was lost
pub loses : (old : SparseBooks) (lost : ℕ) → lost ≡ count_in_u64 (old.lost + 1)
    → TakesLongestMarks old (record old { lost = lost }) (Lost ∷ [])
loses old lost is bound books has = record {
  bound_is = has.bound_is;
  start = has.start;
  arrivals = has.arrivals;
  inner_keys = has.inner_keys + 1;
  table = has.table;
  lost = omega (arith, is, has.lost);
  dropped = omega (arith, has.dropped);
  kept = has.kept;
  missing = has.missing;
}

-- the open part is closed: its rows are kept or counted, and an empty part begins
pub closes : (old new : SparseBooks) (end : ℕ) → new.start ≡ end → new.lost ≡ old.lost
    → new.table ≡ record old.table { rows = [] }
    → AddsRows row_weight old.kept new.kept (flat_map (time_rows old.start end) old.table.rows)
    → TakesLongestMarks old new (Ends end ∷ [])
closes old new end start lost table adds bound books has =
    let part : Part (MetricKey × ℕ) = record { start = books.start; end = end; came = books.came } in
    let rows : flat_map (time_rows old.start end) old.table.rows ≡ rows_of longest_kind bound part =
    ap (λ s. flat_map (time_rows s end) old.table.rows) has.start
    ∙ ap (flat_map (time_rows books.start end)) (has.table.rows ∙ ap (λ n. longest_times n books.came) has.bound_is)
    ∙ sym (rows_by_times bound part (admitted is_same_key bound (map arrival_key books.came)))
    ∙ sym (append-nil (flat_map (row_of longest_kind bound part)
    (admitted is_same_key bound (map arrival_key books.came)))) in
    record {
      bound_is = ap (λ (t : Table MetricKey ℕ). t.bound) table ∙ has.bound_is;
      start = start;
      arrivals = has.arrivals;
      inner_keys = has.inner_keys;
      table = record {
        rows = ap (λ (t : Table MetricKey ℕ). t.rows) table ∙ sym (times_none new.table.bound);
        dropped_are = ap (λ (t : Table MetricKey ℕ). t.dropped) table ∙ has.table.dropped_are;
      };
      lost = lost ∙ has.lost;
      dropped = has.dropped;
      kept = subst (λ all. IsKept row_weight all new.kept) (sym (closed_rows-push bound books.closed part))
          (subst (λ more. IsKept row_weight (closed_rows longest_kind bound books ++ more) new.kept) rows
          (adds (closed_rows longest_kind bound books) has.kept));
      missing = has.missing;
    }

-- what was kept is handed out
pub hands_out : (old new : SparseBooks) → new.start ≡ old.start → new.lost ≡ 0
    → new.table ≡ record old.table { dropped = 0 } → ((weigh : Row ℕ → ℕ) → IsKept weigh [] new.kept)
    → TakesLongestMarks old new (Asked ∷ [])
hands_out old new start lost table kept bound books has = record {
  bound_is = ap (λ (t : Table MetricKey ℕ). t.bound) table ∙ has.bound_is;
  start = start ∙ has.start;
  arrivals = 0;
  inner_keys = 0;
  table = record {
    rows = ap (λ (t : Table MetricKey ℕ). t.rows) table ∙ has.table.rows
        ∙ ap (λ n. longest_times n books.came) (sym (ap (λ (t : Table MetricKey ℕ). t.bound) table));
    dropped_are = ap (λ (t : Table MetricKey ℕ). t.dropped) table;
  };
  lost = lost;
  dropped = refl;
  kept = kept row_weight;
  missing = refl;
}

-- what is handed out, by its parts
closed_same : (one other : Taken (Row ℕ)) → one.rows ≡ other.rows → one.not_kept ≡ other.not_kept
    → one.dropped ≡ other.dropped → one.missing ≡ other.missing → one ≡ other
closed_same one other rows not_kept dropped missing =
    ap (λ (l : List (Row ℕ)). let c : Taken (Row ℕ) = record one { rows = l } in c) rows
    ∙ ap (λ n. let c : Taken (Row ℕ) = record other { not_kept = n; dropped = one.dropped; missing = one.missing } in c)
    not_kept
    ∙ ap (λ n. let c : Taken (Row ℕ) = record other { dropped = n; missing = one.missing } in c) dropped
    ∙ ap (λ n. let c : Taken (Row ℕ) = record other { missing = n } in c) missing

-- what is handed out is what a report shows
pub shows : (it : SparseBooks) (closed : Taken (Row ℕ)) → closed.rows ≡ it.kept.rows → closed.not_kept ≡ it.kept.others
    → closed.dropped ≡ count_in_u64 (it.table.dropped + it.lost) → closed.missing ≡ 0 → ShowsLongest it closed
shows it closed rows not_kept dropped missing bound books has =
    let drop : closed.dropped ≡ count_in_u64 books.dropped =
    omega (arith, dropped, has.table.dropped_are, has.lost, has.dropped) in
    let miss : closed.missing ≡ count_in_u64 books.missing = missing ∙ ap count_in_u64 (sym has.missing) in
    let all = closed_rows longest_kind bound books in
    let others : closed.not_kept ≡ (taken_of row_weight all books.dropped books.missing).not_kept =
    not_kept ∙ has.kept.others
    ∙ ap (λ (l : List (Row ℕ)). count_in_u64 (length all - length l)) has.kept.rows in
    closed_same closed (taken_of row_weight all books.dropped books.missing) (rows ∙ has.kept.rows) others
    drop miss

-- an empty part is closed
closes_empty : (it : SparseBooks) (bound : ℕ) (books : Books (MetricKey × ℕ)) (end : ℕ)
    → HoldsTimes it bound books → books.came ≡ []
    → HoldsTimes (record it { start = end }) bound (with_longest bound books (Ends end ∷ []))
closes_empty it bound books end has none = record {
  bound_is = has.bound_is;
  start = refl;
  arrivals = has.arrivals;
  inner_keys = has.inner_keys;
  table = subst (λ came. HasTimes it.table came has.arrivals) none has.table;
  lost = has.lost;
  dropped = has.dropped;
  kept = subst (λ all. IsKept row_weight all it.kept)
      (sym (closed_rows-push bound books.closed (record { start = books.start; end = end; came = books.came })
      ∙ ap (λ came. closed_rows longest_kind bound books
      ++ rows_of longest_kind bound (record { start = books.start; end = end; came = came })) none
      ∙ ap (λ rows. closed_rows longest_kind bound books ++ rows) (no_rows bound books.start end)
      ∙ append-nil (closed_rows longest_kind bound books))) has.kept;
  missing = has.missing;
}

-- so many full buckets without times are closed: only the start moves
pub closes_many : (n : ℕ) (it : SparseBooks) (bound : ℕ) (books : Books (MetricKey × ℕ)) (size : ℕ)
    → HoldsTimes it bound books → books.came ≡ []
    → HoldsTimes (record it { start = it.start + n * size }) bound
    (with_longest bound books (boundary_marks no_edges (ends_from (it.start + size) size n)))
closes_many zero it bound books size has none =
    subst (λ s. HoldsTimes (record it { start = s }) bound books) (omega arith) has
closes_many (suc n) it bound books size has none =
    let next = closes_empty it bound books (it.start + size) has none in
    subst (λ s. HoldsTimes (record it { start = s }) bound
    (with_longest bound (with_longest bound books (Ends (it.start + size) ∷ []))
    (boundary_marks no_edges (ends_from (it.start + size + size) size n)))) (omega arith)
    (closes_many n (record it { start = it.start + size }) bound
    (with_longest bound books (Ends (it.start + size) ∷ [])) size next refl)

-- one more row was added, or none, of those that were to come
pub adds_next : (start end : ℕ) (old mid new : Keeping (Row ℕ)) (times done rest later : List (MetricKey × ℕ))
    (entry : MetricKey × ℕ)
    → times ≡ done ++ rest → AddsRows row_weight old mid (flat_map (time_rows start end) done) → rest ≡ entry ∷ later
    → AddsRows row_weight mid new (time_rows start end entry)
    → (so_far : List (MetricKey × ℕ)) × (times ≡ so_far ++ later)
    × AddsRows row_weight old new (flat_map (time_rows start end) so_far)
adds_next start end old mid new times done rest later entry split adds first one = (
  done ++ entry ∷ [],
  split ∙ ap (λ l. done ++ l) first ∙ sym (append_assoc done (entry ∷ []) later),
  λ all is. subst (λ rows. IsKept row_weight rows new)
      (append_assoc all (flat_map (time_rows start end) done) (time_rows start end entry)
      ∙ ap (λ rows. all ++ rows) (ap (λ l. flat_map (time_rows start end) done ++ l)
      (sym (append-nil (time_rows start end entry)))
      ∙ sym (flat_map-append (time_rows start end) done (entry ∷ []))))
      (one (all ++ flat_map (time_rows start end) done) (adds all is)),
)
