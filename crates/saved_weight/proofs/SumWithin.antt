-- A producer of sums takes no more bytes than its metric weighs.
use Rattle.std.proofs.Common.{◌≡◌, ℕ, ◌+◌, ◌≤◌, List, [], ◌∷◌, ◌++◌, map, Option, Some, None, ap, subst, ◌∙◌, arith}
use Rattle.std.specs.List.{sum_by}
use Rattle.atom_record.specs.declared.value.Leaf.{Leaf}
use Rattle.atom_record.specs.declared.value.MetricKey.{MetricKey}
use Rattle.bucket_meaning.specs.Guard.{admitted}
use Rattle.bucket_meaning.specs.Kept.{kept, most_weight}
use Rattle.bucket_meaning.specs.Marks.{Books}
use Rattle.bucket_meaning.specs.Rows.{closed_rows}
use Rattle.config_links.specs.declared.linked.LMetric.{LMetric}
use Rattle.config_types.specs.declared.parameters.PredSpec.{PredSpec}
use Rattle.dim_table.specs.TableItems.{table_items}
use Rattle.duration_metric.specs.InnerItems.{inner_items, span_items}
use Rattle.duration_metric.specs.InnerKeys.{DurationParams, DurationCall, last_known, duration_demands}
use Rattle.duration_metric.specs.InnerStands.{row_count, AreKnown}
use Rattle.duration_metric.specs.SumCalls.{sum_collecting}
use Rattle.duration_metric.specs.SumItems.{time_row_items, sum_books_items, sum_rest_items, sum_producer_items}
use Rattle.duration_metric.specs.SumParts.{Summing}
use Rattle.duration_metric.specs.SumStands.{span_of, HoldsSums, SumStandsFor}
use Rattle.duration_metric.specs.declared.inner.Inner.{Inner}
use Rattle.duration_metric.specs.declared.inner.Known.{Known}
use Rattle.duration_metric.specs.declared.sum.Span.{Span}
use Rattle.flat_form.specs.Flat.{number_items, key_items, dims_items, pair_items, list_items, option_items}
use Rattle.flat_form.specs.declared.item.Item.{Item}
use Rattle.flat_form.specs.declared.item.Item.TheVariants.{Num}
use Rattle.kept_rows.specs.KeptItems.{kept_items}
use Rattle.metric_calls.proofs.InnerToldLemmas.{KnowsInner, calls_tell}
use Rattle.metric_calls.proofs.SumCallsLemmas.{sums_agree}
use Rattle.metric_calls.specs.Askings.{calls_by_steps}
use Rattle.metric_calls.specs.DurationCalls.{told_after, sum_asking, IsTimedWell}
use Rattle.metric_kinds.specs.Counts.{row_weight}
use Rattle.metric_kinds.specs.Durations.{sum_kind}
use Rattle.metric_kinds.specs.Keys.{is_same_key}
use Rattle.metric_kinds.specs.Runs.{Active, run_keys}
use Rattle.metric_meaning.specs.DurationSteps.{inner_after, sum_way}
use Rattle.metric_meaning.specs.Histories.{Installation, Step}
use Rattle.metric_producer.specs.Calls.{standing_of}
use Rattle.metric_producer.specs.declared.row.Row.{Row}
use Rattle.predicate_state.specs.PredicateItems.{flag_number}
use Rattle.predicate_state.specs.PredicateStates.{PredicateState}
use Rattle.saved_weight.proofs.BooksLaws.{books_are}
use Rattle.saved_weight.proofs.InnerWithin.{inner_size, AreTold, inner_rows_within}
use Rattle.saved_weight.proofs.SizeLaws.{full_size, full-number, full-append, full-list, full-none, full-some, full-one, full-key, full-row, full-table, table_within, kept_within}
use Rattle.saved_weight.specs.Entries.{key_entry, row_entry}
use Rattle.saved_weight.specs.KindWeights.{numbers_weight, inner_entry, inner_weight}
use Rattle.saved_weight.specs.WayBooks.{own_books}

-- a span takes three numbers at most
span_size : (sum : ℕ) (since : Option ℕ)
    → let span : Span = record { sum = sum; since = since } in full_size (span_items span) ≤ 27
span_size sum None =
    let none = full-none number_items in
    let all = full-number sum (option_items number_items None) in
    omega (arith, none, all)
span_size sum (Some at) =
    let some = full-some number_items at in
    let one = full-one at in
    let all = full-number sum (option_items number_items (Some at)) in
    omega (arith, some, one, all)

-- a key with its span is within an entry
span_within : (key : MetricKey) (span : Span) → full_size (pair_items key_items span_items (key, span)) ≤ key_entry key
span_within key span =
    let both = full-append (key_items key) (span_items span) in
    let one = full-key key in
    let other = span_size span.sum span.since in
    omega (arith, both, one, other)

-- a row of a time is within an entry
pub time_row_within : (row : Row ℕ) → full_size (time_row_items row) ≤ row_entry row
time_row_within row =
    let size = full-row number_items row in let value = full-one row.value in omega (arith, size, value)

-- what a metric of sums weighs that has these books
abbrev sums_in : ℕ → Books (Active MetricKey) → ℕ
sums_in bound books =
    sum_by key_entry (admitted is_same_key bound (run_keys is_same_key books.came))
    + sum_by row_entry (kept row_weight most_weight (closed_rows sum_kind bound books))

-- spans and kept rows take six numbers, and what the metric weighs by its books
sum_books_within : (it : Summing) (bound : ℕ) (keys : List MetricKey) (last others : ℕ)
    (books : Books (Active MetricKey)) → HoldsSums it bound keys last others books
    → full_size (sum_books_items it) ≤ 54 + sums_in bound books
sum_books_within it bound keys last others books has =
    let active = admitted is_same_key bound (run_keys is_same_key books.came) in
    let row : MetricKey → MetricKey × Span = λ key. (key, span_of books.came key) in
    let table = table_within key_items span_items it.table row key_entry active has.table
    (λ key. span_within key (span_of books.came key)) in
    let rows = kept_within time_row_items it.kept row_entry
    (kept row_weight most_weight (closed_rows sum_kind bound books)) has.kept.rows time_row_within in
    let both = full-append (table_items key_items span_items it.table) (kept_items time_row_items it.kept) in
    omega (arith, table, rows, both)

module _ (installed : Installation) (metric : LMetric) (spec : PredSpec) (steps : List Step) where
  -- what was told of each row by calls is what is so of its key after the steps
  rows_told : (known : List Leaf → Option Known)
      → ((key : List Leaf) → known key ≡ told_after installed metric spec steps key)
      → (rows : List (List Leaf × Inner)) → AreKnown known rows
      → AreTold installed metric spec steps (λ (inner : Inner). inner.known) rows
  rows_told known is [] are = tt
  rows_told known is (row ∷ rows) are = (are.0 ∙ is row.0, rows_told known is rows are.1)

  -- the inner keys take three numbers, and no more than their entries
  inner_within : (it : Summing) (calls : List DurationCall) (params : DurationParams)
      → KnowsInner installed metric spec calls steps
      → map row_count it.inner.keys.rows ≡ (inner_after installed metric spec steps).counts
      → AreKnown (last_known spec calls) it.inner.keys.rows
      → full_size (table_items dims_items inner_items it.inner.keys) ≤ 27 + inner_weight installed metric spec steps
  inner_within it calls params knows are told =
      let rows = it.inner.keys.rows in
      let all = full-table dims_items inner_items it.inner.keys in
      let each = inner_rows_within installed metric spec steps inner_items (λ (inner : Inner). inner.known)
      (λ (inner : Inner). inner.count) rows (λ inner. let size = inner_size inner in omega (arith, size))
      (rows_told (last_known spec calls) knows.told rows told) in
      let same = ap (sum_by (inner_entry installed metric steps)) are in
      omega (arith, all, each, same)

  -- a producer of sums after these steps, whose last condition was told, takes fifteen numbers, and what its metric
  -- weighs after them
  pub sum_within : IsTimedWell installed metric spec → (it : Summing)
      → let asking = sum_asking installed metric spec in
      let calls = calls_by_steps asking sum_collecting steps in
      (standing_of (duration_demands asking.params) calls).owed ≡ None
      → SumStandsFor it asking.params calls
      → full_size (sum_producer_items it)
      ≤ 135 + (inner_weight installed metric spec steps + numbers_weight (sum_way installed metric spec) steps)
  sum_within timed it owed stands =
      let asking = sum_asking installed metric spec in
      let calls = calls_by_steps asking sum_collecting steps in
      let knows = (calls_tell installed metric spec steps).knows in
      let settled = (stands.settled owed).0 in
      let state = stands.inner.state_is ∙ knows.state in
      let inner = inner_within it calls asking.params knows
      (ap (λ (s : PredicateState (List Leaf)). s.counts) state) stands.inner.known_are in
      let same = books_are asking sum_collecting (sums_agree installed metric spec timed) steps in
      let had = own_books (sum_way installed metric spec) steps in
      let held = sum_books_within it spec.bound _ _ _ _ stands.holds in
      let by_steps = subst (λ b. full_size (sum_books_items it) ≤ 54 + sums_in spec.bound b) same held in
      let books = subst (λ b. full_size (sum_books_items it) ≤ 54 + sums_in b had) timed.bound by_steps in
      let no_touched = ap (λ l. full_size (list_items number_items l)) settled.none_touched in
      let no_gone = ap (λ l. full_size (list_items key_items l)) settled.none_gone in
      let touched = full-list number_items [] in
      let gone = full-list key_items [] in
      let after_gone = list_items key_items it.inner.gone ++ sum_books_items it in
      let left = full-append (list_items key_items it.inner.gone) (sum_books_items it) in
      let places = full-append (list_items number_items it.inner.touched) after_gone in
      let all = full-append (table_items dims_items inner_items it.inner.keys)
      (list_items number_items it.inner.touched ++ after_gone) in
      let rest = sum_rest_items it in
      let unknown : List Item = Num (flag_number it.inner.unknown) ∷ rest in
      let nesting : List Item = Num (flag_number it.inner.nesting) ∷ unknown in
      let reported : List Item = Num it.reported ∷ nesting in
      let one = full-number (flag_number it.inner.unknown) rest in
      let two = full-number (flag_number it.inner.nesting) unknown in
      let three = full-number it.reported nesting in
      let four = full-number it.start reported in
      omega (arith, inner, books, no_touched, no_gone, touched, gone, left, places, all, one, two, three, four)
