-- A producer of pushed values holds its books through every call.
use Rattle.std.proofs.Common.{◌≡◌, ℕ, ℤ, zero, suc, ◌+◌, ◌*◌, ◌^◌, ◌<◌, [], ◌++◌, refl, sym, ap, subst, ◌∙◌, arith, append-nil}
use Rattle.atom_record.specs.declared.value.MetricKey.{MetricKey}
use Rattle.bucket_clock.specs.declared.crossings.Crossings.{Crossings}
use Rattle.bucket_clock.specs.Clock.{last_end}
use Rattle.bucket_meaning.specs.Ends.{ends_from}
use Rattle.bucket_meaning.specs.Marks.{Ends, Came, Asked, Books, no_edges, boundary_marks, books_from}
use Rattle.bucket_meaning.specs.Rows.{drops, rows_of, closed_rows}
use Rattle.kept_rows.specs.KeptRows.{IsKept}
use Rattle.metric_producer.specs.Calls.{Got, Learned, Crossed, CutAt, Took}
use Rattle.metric_producer.specs.Moves.{Moves}
use Rattle.metric_producer.proofs.RuleLemmas.{answer_fits}
use Rattle.metric_producer.proofs.CollectingLemmas.{moves}
use Rattle.value_metric.specs.declared.keyed_int.KeyedInt.{KeyedInt}
use Rattle.value_metric.specs.declared.value_books.ValueBooks.{ValueBooks}
use Rattle.value_metric.specs.declared.pushed_value.PushedValue.{PushedValue}
use Rattle.value_metric.specs.Totals.{row_weighs, HasTotals}
use Rattle.value_metric.specs.ValueBooksStand.{ValueForm, form_kind, HoldsBooks, with_mark, TakesMark}
use Rattle.value_metric.specs.PushedValues.{PushedParams, pushed_demands, pushed_collecting}
use Rattle.value_metric.specs.PushedStands.{pushed_form, pushed_law}
use Rattle.value_metric.proofs.BooksLemmas.{closed_rows-push, no_rows}

-- the producer holds these books
abbrev has_books : PushedValue → PushedParams → Books (MetricKey × ℤ) → Type 0
has_books it params books = HoldsBooks it.books (pushed_form params) books

-- an integer came
pub came : (old new : PushedValue) (at : ℕ) (event : KeyedInt)
    → TakesMark old.books new.books (Came (event.key, event.value)) → Moves pushed_law old new (Got at event)
came old new at event takes =
    moves pushed_collecting has_books old new (Got at event) (λ params calls books has may.
    takes (pushed_form params) books has)

-- a condition changes nothing
pub learned : (it : PushedValue) (at : ℕ) (now : Unit {0}) → Moves pushed_law it it (Learned at now)
learned it at now = moves pushed_collecting has_books it it (Learned at now) (λ params calls books has may. has)

-- the open part was cut
pub cuts : (old new : PushedValue) (at : ℕ) → TakesMark old.books new.books (Ends at)
    → Moves pushed_law old new (CutAt at)
cuts old new at takes =
    moves pushed_collecting has_books old new (CutAt at) (λ params calls books has may.
    takes (pushed_form params) books has)

-- what is kept was handed out
pub took : (old new : PushedValue) → TakesMark old.books new.books Asked → Moves pushed_law old new Took
took old new takes =
    moves pushed_collecting has_books old new Took (λ params calls books has may.
    takes (pushed_form params) books has)

-- an empty part is closed
closes_empty : (it : ValueBooks) (form : ValueForm) (books : Books (MetricKey × ℤ)) (end : ℕ)
    → HoldsBooks it form books → books.came ≡ []
    → HoldsBooks (record it { start = end }) form (with_mark form books (Ends end))
closes_empty it form books end has none = record {
  bound = has.bound;
  aggregation = has.aggregation;
  hides_zeros = has.hides_zeros;
  start = refl;
  table = subst (λ came. HasTotals form.aggregation it.table came books.dropped) none has.table;
  kept = subst (λ all. IsKept row_weighs all it.kept)
      (sym (closed_rows-push form books.closed (record { start = books.start; end = end; came = books.came })
      ∙ ap (λ came. closed_rows (form_kind form) form.bound books
      ++ rows_of (form_kind form) form.bound (record { start = books.start; end = end; came = came })) none
      ∙ ap (λ rows. closed_rows (form_kind form) form.bound books ++ rows) (no_rows form books.start end)
      ∙ append-nil (closed_rows (form_kind form) form.bound books))) has.kept;
  missing = has.missing;
}

-- so many full buckets without arrivals are closed: only the start moves
closes_many : (n : ℕ) (it : ValueBooks) (form : ValueForm) (books : Books (MetricKey × ℤ)) (size : ℕ)
    → HoldsBooks it form books → books.came ≡ []
    → HoldsBooks (record it { start = it.start + n * size }) form
    (books_from (drops (form_kind form) form.bound) books
    (boundary_marks no_edges (ends_from (it.start + size) size n)))
closes_many zero it form books size has none =
    subst (λ s. HoldsBooks (record it { start = s }) form books) (omega arith) has
closes_many (suc n) it form books size has none =
    let next = closes_empty it form books (it.start + size) has none in
    subst (λ s. HoldsBooks (record it { start = s }) form
    (books_from (drops (form_kind form) form.bound) (with_mark form books (Ends (it.start + size)))
    (boundary_marks no_edges (ends_from (it.start + size + size) size n)))) (omega arith)
    (closes_many n (record it { start = it.start + size }) form (with_mark form books (Ends (it.start + size))) size
    next refl)

-- ends of buckets were crossed
pub crosses : (old mid : PushedValue) (crossings : Crossings) (start : ℕ)
    → TakesMark old.books mid.books (Ends crossings.first_end)
    → (last_end crossings < 2 ^ 63 → start ≡ last_end crossings)
    → Moves pushed_law old (record mid { books = record mid.books { start = start } }) (Crossed crossings)
crosses old mid crossings start closed is_last =
    moves pushed_collecting has_books old (record mid { books = record mid.books { start = start } })
    (Crossed crossings)
    (λ params calls books has may.
    let form = pushed_form params in
    let first = crossings.first_end in
    let closed_books = with_mark form books (Ends first) in
    let has_first = closed form books has in
    let last : start ≡ last_end crossings = is_last (answer_fits (pushed_demands params) _ crossings may.0) in
    let many = closes_many crossings.full_buckets mid.books form closed_books crossings.size has_first refl in
    subst (λ s. HoldsBooks (record mid.books { start = s }) form
    (books_from (drops (form_kind form) form.bound) closed_books
    (boundary_marks no_edges (ends_from (first + crossings.size) crossings.size crossings.full_buckets))))
    (sym last)
    (subst (λ s. HoldsBooks (record mid.books { start = s + crossings.full_buckets * crossings.size }) form
    (books_from (drops (form_kind form) form.bound) closed_books
    (boundary_marks no_edges (ends_from (s + crossings.size) crossings.size crossings.full_buckets))))
    has_first.start many))
