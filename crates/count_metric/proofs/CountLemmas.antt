-- A producer of counts holds its books through every call.
use Rattle.std.proofs.Common.{◌≡◌, ℕ, zero, suc, ◌+◌, ◌*◌, ◌^◌, ◌<◌, ◌==◌, Bool, true, false, if◌then◌else◌, List, [], ◌∷◌, ◌++◌, map, take, length, refl, sym, ap, subst, ◌∙◌, arith, append_assoc, append-nil}
use Rattle.std.specs.List.{flat_map}
use Rattle.std.proofs.lemmas.Bool.Decides.{nat_tests}
use Rattle.std.proofs.lemmas.List.{map-append, length-append}
use Rattle.std.proofs.lemmas.Grind.{flat_map-append}
use Rattle.std.proofs.Math.Seq.{take-nil}
use Rattle.atom_record.specs.declared.value.MetricKey.{MetricKey}
use Rattle.bucket_clock.specs.declared.crossings.Crossings.{Crossings}
use Rattle.bucket_clock.specs.Clock.{last_end}
use Rattle.bucket_meaning.specs.Ends.{ends_from}
use Rattle.bucket_meaning.specs.Marks.{Mark, Ends, Part, Books, after, no_edges, boundary_marks, books_from}
use Rattle.bucket_meaning.specs.Guard.{admitted, turned_away, arrival_key}
use Rattle.bucket_meaning.specs.Kept.{count_in_u64}
use Rattle.bucket_meaning.specs.Rows.{drops, row_of, rows_of, closed_rows}
use Rattle.dim_table.specs.Table.{Table}
use Rattle.kept_rows.specs.KeptRows.{Keeping, IsKept, AddsRows}
use Rattle.metric_producer.specs.declared.row.CountCell.{CountCell}
use Rattle.metric_producer.specs.declared.row.Row.{Row}
use Rattle.count_metric.specs.declared.count.CountProducer.{CountProducer}
use Rattle.metric_producer.specs.Calls.{Got, Learned, Crossed, CutAt, Took}
use Rattle.metric_producer.specs.Moves.{Moves}
use Rattle.metric_producer.proofs.RuleLemmas.{answer_fits}
use Rattle.metric_producer.proofs.CollectingLemmas.{moves}
use Rattle.metric_kinds.specs.Keys.{is_same_key}
use Rattle.metric_kinds.specs.Counts.{row_weight, gathered, count_kind}
use Rattle.count_metric.specs.Counting.{CountParams, count_demands, count_collecting}
use Rattle.count_metric.specs.CountStands.{tally_of, tally, spilled_of, tally_row, overflow_row, spilled_rows, IsTally, TakesKey, HasBooks, count_law, ClosesPart}

-- the rows of a part's keys are those of its tally
rows_by_tally : (gathers : Bool) (bound start end : ℕ) (came : List (MetricKey × ℕ)) (ks : List MetricKey)
    → flat_map (row_of (count_kind gathers) bound (record { start = start; end = end; came = came })) ks
    ≡ map (tally_row start end) (map (tally_of came) ks)
rows_by_tally gathers bound start end came [] = refl
rows_by_tally gathers bound start end came (key ∷ ks) =
    ap (λ rows. tally_row start end (tally_of came key) ∷ rows) (rows_by_tally gathers bound start end came ks)

-- a number above 0 has its overflow row
one_row : (start end n : ℕ) (none : Bool) → (n == 0) ≡ none → 0 < n
    → (if none then [] else overflow_row start end n ∷ []) ≡ overflow_row start end n ∷ []
one_row start end n true is some = absurd (grind (arith, nat_tests, is, some))
one_row start end n false is some = refl

-- what is gathered of spilled arrivals are the rows by their number
rows_by_spilled : (gathers : Bool) (start end : ℕ) (spilled : List (MetricKey × ℕ))
    → gathered gathers start end spilled ≡ spilled_rows gathers start end (count_in_u64 (length spilled))
rows_by_spilled false start end spilled = refl
rows_by_spilled true start end [] = refl
rows_by_spilled true start end (first ∷ more) =
    let n = count_in_u64 (length (first ∷ more)) in
    sym (one_row start end n (n == 0) refl (omega (arith, length-append (first ∷ []) more)))

-- the rows of all closed parts, with one part more
closed_rows-push : (gathers : Bool) (bound : ℕ) (closed : List (Part (MetricKey × ℕ))) (part : Part (MetricKey × ℕ))
    → flat_map (rows_of (count_kind gathers) bound) (closed ++ part ∷ [])
    ≡ flat_map (rows_of (count_kind gathers) bound) closed ++ rows_of (count_kind gathers) bound part
closed_rows-push gathers bound closed part =
    flat_map-append (rows_of (count_kind gathers) bound) closed (part ∷ [])
    ∙ ap (λ rows. flat_map (rows_of (count_kind gathers) bound) closed ++ rows)
    (append-nil (rows_of (count_kind gathers) bound part))

-- an empty table is the tally of an empty part
tally_empty : (bound : ℕ) → tally bound [] ≡ []
tally_empty bound = ap (map (tally_of [])) (take-nil bound)

-- What closing a part does to a producer: its rows are kept or counted, and an empty part begins.
pub record Closes (old new : CountProducer) (end : ℕ) : Type 0 where
  pub start : new.start ≡ end
  pub overflow : new.overflow ≡ old.overflow
  pub spilled : new.spilled ≡ 0
  pub table : new.table ≡ record old.table { rows = [] }
  pub kept : AddsRows row_weight old.kept new.kept
      (map (tally_row old.start end) old.table.rows ++ spilled_rows old.overflow old.start end old.spilled)

-- some rows and then others were added
pub adds_both : (old mid new : Keeping (Row CountCell)) (one other : List (Row CountCell))
    → AddsRows row_weight old mid one → AddsRows row_weight mid new other → AddsRows row_weight old new (one ++ other)
adds_both old mid new one other first second all is =
    subst (λ rows. IsKept row_weight rows new) (append_assoc all one other) (second (all ++ one) (first all is))

-- the rows of a part were added, where what was spilled is gathered
pub adds_gathered : (old : CountProducer) (end : ℕ) (mid new : Keeping (Row CountCell)) (spilled : ℕ)
    → old.overflow ≡ true → spilled ≡ old.spilled
    → AddsRows row_weight old.kept mid (map (tally_row old.start end) old.table.rows)
    → AddsRows row_weight mid new (spilled_rows true old.start end spilled)
    → AddsRows row_weight old.kept new
    (map (tally_row old.start end) old.table.rows ++ spilled_rows old.overflow old.start end old.spilled)
adds_gathered old end mid new spilled gathers number first second =
    adds_both old.kept mid new (map (tally_row old.start end) old.table.rows)
    (spilled_rows old.overflow old.start end old.spilled) first
    (subst (λ g. AddsRows row_weight mid new (spilled_rows g old.start end old.spilled)) (sym gathers)
    (subst (λ n. AddsRows row_weight mid new (spilled_rows true old.start end n)) number second))

-- and where it isn't
pub adds_tally : (old : CountProducer) (end : ℕ) (new : Keeping (Row CountCell)) → old.overflow ≡ false
    → AddsRows row_weight old.kept new (map (tally_row old.start end) old.table.rows)
    → AddsRows row_weight old.kept new
    (map (tally_row old.start end) old.table.rows ++ spilled_rows old.overflow old.start end old.spilled)
adds_tally old end new gathers first =
    let rows : List (Row CountCell) = map (tally_row old.start end) old.table.rows in
    subst (λ g. AddsRows row_weight old.kept new (rows ++ spilled_rows g old.start end old.spilled)) (sym gathers)
    (subst (AddsRows row_weight old.kept new) (sym (append-nil rows)) first)

-- the open part is closed
pub closes : (old new : CountProducer) (end : ℕ) → Closes old new end → ClosesPart old new end
closes old new end did params books has =
    let gathers = params.overflow in
    let bound = params.bound in
    let part : Part (MetricKey × ℕ) = record { start = books.start; end = end; came = books.came } in
    let tallied : map (tally_row old.start end) old.table.rows
    ≡ flat_map (row_of (count_kind gathers) bound part) (admitted is_same_key bound (map arrival_key books.came)) =
    ap (λ s. map (tally_row s end) old.table.rows) has.start
    ∙ ap (map (tally_row books.start end)) (has.table.rows ∙ ap (λ n. tally n books.came) has.bound)
    ∙ sym (rows_by_tally gathers bound books.start end books.came
    (admitted is_same_key bound (map arrival_key books.came))) in
    let spilled : spilled_rows old.overflow old.start end old.spilled
    ≡ gathered gathers books.start end (turned_away is_same_key bound books.came) =
    ap (λ g. spilled_rows g old.start end old.spilled) has.overflow
    ∙ ap (λ s. spilled_rows gathers s end old.spilled) has.start
    ∙ ap (spilled_rows gathers books.start end) has.spilled
    ∙ sym (rows_by_spilled gathers books.start end (turned_away is_same_key bound books.came)) in
    let rows : map (tally_row old.start end) old.table.rows
    ++ spilled_rows old.overflow old.start end old.spilled ≡ rows_of (count_kind gathers) bound part =
    ap (λ l. l ++ spilled_rows old.overflow old.start end old.spilled) tallied
    ∙ ap (λ l. flat_map (row_of (count_kind gathers) bound part)
    (admitted is_same_key bound (map arrival_key books.came)) ++ l) spilled in
    record {
      bound = ap (λ (t : Table MetricKey ℕ). t.bound) did.table ∙ has.bound;
      start = did.start;
      overflow = did.overflow ∙ has.overflow;
      table = record {
        rows = ap (λ (t : Table MetricKey ℕ). t.rows) did.table ∙ sym (tally_empty new.table.bound);
        dropped_are = ap (λ (t : Table MetricKey ℕ). t.dropped) did.table ∙ has.table.dropped_are;
      };
      spilled = did.spilled;
      kept = subst (λ all. IsKept row_weight all new.kept)
          (sym (closed_rows-push gathers bound books.closed part))
          (subst (λ more. IsKept row_weight (closed_rows (count_kind gathers) bound books ++ more) new.kept) rows
          (did.kept (closed_rows (count_kind gathers) bound books) has.kept));
      missing = has.missing;
    }

-- one mark more
abbrev marked : CountParams → Books (MetricKey × ℕ) → Mark (MetricKey × ℕ) → Books (MetricKey × ℕ)
marked params books mark = after (drops (count_kind params.overflow) params.bound) books mark

-- a key came, which was spilled so often
pub came : (old new : CountProducer) (at : ℕ) (key : MetricKey) (spilled : ℕ) → new.start ≡ old.start
    → new.overflow ≡ old.overflow → new.kept ≡ old.kept
    → ((n : ℕ) → old.spilled ≡ count_in_u64 n → new.spilled ≡ count_in_u64 (n + spilled))
    → TakesKey old.table new.table key spilled → Moves count_law old new (Got at key)
came old new at key spilled start overflow kept more takes =
    moves count_collecting HasBooks old new (Got at key) (λ params calls books has may.
    let gathers = params.overflow in
    let same : old.table.bound ≡ params.bound = has.bound in
    let all : spilled_of params.bound (books.came ++ (key, 1) ∷ []) ≡ spilled_of params.bound books.came + spilled =
    subst (λ n. spilled_of n (books.came ++ (key, 1) ∷ []) ≡ spilled_of n books.came + spilled) same
    (takes.spilled_are books.came books.dropped has.table) in
    record {
      bound = takes.bound ∙ same;
      start = start ∙ has.start;
      overflow = overflow ∙ has.overflow;
      table = subst (λ n. IsTally new.table (books.came ++ (key, 1) ∷ [])
          (books.dropped + drops (count_kind gathers) n books.came (key, 1))) same
          (takes.tally_is gathers books.came books.dropped has.table);
      spilled = more (spilled_of params.bound books.came) has.spilled ∙ ap count_in_u64 (sym all);
      kept = subst (IsKept row_weight (closed_rows (count_kind gathers) params.bound books)) (sym kept) has.kept;
      missing = has.missing;
    })

-- a condition changes nothing
pub learned : (it : CountProducer) (at : ℕ) (now : Unit {0})
    → Moves count_law it it (Learned at now)
learned it at now =
    moves count_collecting HasBooks it it (Learned at now) (λ params calls books has may. has)

-- the open part was cut
pub cuts : (old new : CountProducer) (at : ℕ) → ClosesPart old new at
    → Moves count_law old new (CutAt at)
cuts old new at closed =
    moves count_collecting HasBooks old new (CutAt at)
    (λ params calls books has may. closed params books has)

-- what is kept was handed out
pub took : (old new : CountProducer) → new.start ≡ old.start → new.overflow ≡ old.overflow
    → new.spilled ≡ old.spilled → new.table ≡ record old.table { dropped = 0 }
    → ((weigh : Row CountCell → ℕ) → IsKept weigh [] new.kept)
    → Moves count_law old new Took
took old new start overflow spilled table kept = moves count_collecting HasBooks old new Took
    (λ params calls books has may. record {
      bound = ap (λ (t : Table MetricKey ℕ). t.bound) table ∙ has.bound;
      start = start ∙ has.start;
      overflow = overflow ∙ has.overflow;
      table = record {
        rows = ap (λ (t : Table MetricKey ℕ). t.rows) table ∙ has.table.rows
            ∙ ap (λ n. tally n books.came) (sym (ap (λ (t : Table MetricKey ℕ). t.bound) table));
        dropped_are = ap (λ (t : Table MetricKey ℕ). t.dropped) table;
      };
      spilled = spilled ∙ has.spilled;
      kept = kept row_weight;
      missing = refl;
    })

-- where nothing came nothing is gathered
none_gathered : (gathers : Bool) (start end : ℕ) → gathered gathers start end [] ≡ []
none_gathered true start end = refl
none_gathered false start end = refl

-- a part in which nothing came has no row
no_rows : (gathers : Bool) (bound start end : ℕ)
    → rows_of (count_kind gathers) bound (record { start = start; end = end; came = [] }) ≡ []
no_rows gathers bound start end =
    let row : MetricKey → List (Row CountCell) =
    row_of (count_kind gathers) bound (record { start = start; end = end; came = [] }) in
    ap (λ l. flat_map row (take bound []) ++ l) (none_gathered gathers start end)
    ∙ append-nil (flat_map row (take bound [])) ∙ ap (flat_map row) (take-nil bound)

-- an empty part is closed
closes_empty : (it : CountProducer) (params : CountParams) (books : Books (MetricKey × ℕ)) (end : ℕ)
    → HasBooks it params books → books.came ≡ []
    → HasBooks (record it { start = end }) params (marked params books (Ends end))
closes_empty it params books end has none =
    let gathers = params.overflow in
    record {
      bound = has.bound;
      start = refl;
      overflow = has.overflow;
      table = subst (λ came. IsTally it.table came books.dropped) none has.table;
      spilled = has.spilled ∙ ap (λ came. count_in_u64 (spilled_of params.bound came)) none;
      kept = subst (λ all. IsKept row_weight all it.kept)
          (sym (closed_rows-push gathers params.bound books.closed
          (record { start = books.start; end = end; came = books.came })
          ∙ ap (λ came. closed_rows (count_kind gathers) params.bound books
          ++ rows_of (count_kind gathers) params.bound (record { start = books.start; end = end; came = came })) none
          ∙ ap (λ rows. closed_rows (count_kind gathers) params.bound books ++ rows)
          (no_rows gathers params.bound books.start end)
          ∙ append-nil (closed_rows (count_kind gathers) params.bound books))) has.kept;
      missing = has.missing;
    }

-- so many full buckets without arrivals are closed: only the start moves
closes_many : (n : ℕ) (it : CountProducer) (params : CountParams) (books : Books (MetricKey × ℕ)) (size : ℕ)
    → HasBooks it params books → books.came ≡ []
    → HasBooks (record it { start = it.start + n * size }) params
    (books_from (drops (count_kind params.overflow) params.bound) books
    (boundary_marks no_edges (ends_from (it.start + size) size n)))
closes_many zero it params books size has none =
    subst (λ s. HasBooks (record it { start = s }) params books) (omega arith) has
closes_many (suc n) it params books size has none =
    let next = closes_empty it params books (it.start + size) has none in
    subst (λ s. HasBooks (record it { start = s }) params
    (books_from (drops (count_kind params.overflow) params.bound) (marked params books (Ends (it.start + size)))
    (boundary_marks no_edges (ends_from (it.start + size + size) size n)))) (omega arith)
    (closes_many n (record it { start = it.start + size }) params (marked params books (Ends (it.start + size))) size
    next refl)

-- ends of buckets were crossed
pub crosses : (old mid : CountProducer) (crossings : Crossings) (start : ℕ) → ClosesPart old mid crossings.first_end
    → (last_end crossings < 2 ^ 63 → start ≡ last_end crossings)
    → Moves count_law old (record mid { start = start }) (Crossed crossings)
crosses old mid crossings start closed is_last =
    moves count_collecting HasBooks old (record mid { start = start }) (Crossed crossings)
    (λ params calls books has may.
    let first = crossings.first_end in
    let has_first = closed params books has in
    let last : start ≡ last_end crossings = is_last (answer_fits (count_demands params) _ crossings may.0) in
    let many = closes_many crossings.full_buckets mid params (marked params books (Ends first)) crossings.size has_first
    refl in
    subst (λ s. HasBooks (record mid { start = s }) params
    (books_from (drops (count_kind params.overflow) params.bound) (marked params books (Ends first))
    (boundary_marks no_edges (ends_from (first + crossings.size) crossings.size crossings.full_buckets)))) (sym last)
    (subst (λ s. HasBooks (record mid { start = s + crossings.full_buckets * crossings.size }) params
    (books_from (drops (count_kind params.overflow) params.bound) (marked params books (Ends first))
    (boundary_marks no_edges (ends_from (s + crossings.size) crossings.size crossings.full_buckets)))) has_first.start
    many))

-- one more row was added of those that were to come
pub adds_next : (start end : ℕ) (old mid new : Keeping (Row CountCell)) (tally done rest later : List (MetricKey × ℕ))
    (entry : MetricKey × ℕ)
    → tally ≡ done ++ rest → AddsRows row_weight old mid (map (tally_row start end) done) → rest ≡ entry ∷ later
    → AddsRows row_weight mid new (tally_row start end entry ∷ [])
    → (so_far : List (MetricKey × ℕ)) × (tally ≡ so_far ++ later)
    × AddsRows row_weight old new (map (tally_row start end) so_far)
adds_next start end old mid new tally done rest later entry split adds first one = (
  done ++ entry ∷ [],
  split ∙ ap (λ l. done ++ l) first ∙ sym (append_assoc done (entry ∷ []) later),
  λ all is. subst (λ rows. IsKept row_weight rows new)
      (append_assoc all (map (tally_row start end) done) (tally_row start end entry ∷ [])
      ∙ ap (λ rows. all ++ rows) (sym (map-append (tally_row start end) done (entry ∷ []))))
      (one (all ++ map (tally_row start end) done) (adds all is)),
)
