-- A producer of longest durations takes no more bytes than its metric weighs.
use Rattle.std.proofs.Common.{◌≡◌, ℕ, ◌+◌, ◌≤◌, List, [], ◌∷◌, map, ap, subst, ◌∙◌, arith}
use Rattle.std.specs.List.{AllByRecursion, sum_by}
use Rattle.atom_record.specs.declared.value.Leaf.{Leaf}
use Rattle.atom_record.specs.declared.value.MetricKey.{MetricKey}
use Rattle.bucket_meaning.specs.Guard.{admitted, arrival_key}
use Rattle.bucket_meaning.specs.Kept.{kept, most_weight}
use Rattle.bucket_meaning.specs.Marks.{Books}
use Rattle.bucket_meaning.specs.Rows.{closed_rows}
use Rattle.config_links.specs.declared.linked.LMetric.{LMetric}
use Rattle.config_types.specs.declared.parameters.PredSpec.{PredSpec}
use Rattle.dim_table.specs.TableItems.{table_items}
use Rattle.duration_metric.specs.InnerItems.{entry_items}
use Rattle.duration_metric.specs.InnerKeys.{DurationCall, last_known}
use Rattle.duration_metric.specs.SparseBooksStand.{HoldsTimes}
use Rattle.duration_metric.specs.SparseCalls.{sparse_collecting}
use Rattle.duration_metric.specs.SparseEntries.{RowStands, entry_count}
use Rattle.duration_metric.specs.SparseItems.{longest_books_items, longest_rest_items, longest_part_items, longest_items}
use Rattle.duration_metric.specs.SparseStands.{SparseStandsFor}
use Rattle.duration_metric.specs.SparseTimes.{longest_of}
use Rattle.duration_metric.specs.SumItems.{time_row_items}
use Rattle.duration_metric.specs.declared.sparse.MaxProducer.{MaxProducer}
use Rattle.duration_metric.specs.declared.sparse_keys.SparseEntry.{SparseEntry}
use Rattle.flat_form.specs.Flat.{number_items, key_items, dims_items, pair_items}
use Rattle.flat_form.specs.declared.item.Item.{Item}
use Rattle.flat_form.specs.declared.item.Item.TheVariants.{Num}
use Rattle.kept_rows.specs.KeptItems.{kept_items}
use Rattle.metric_calls.proofs.InnerToldLemmas.{KnowsInner, calls_tell}
use Rattle.metric_calls.proofs.LongestCallsLemmas.{longest_agree}
use Rattle.metric_calls.proofs.TimelyLemmas.{DontGoBack}
use Rattle.metric_calls.specs.Askings.{calls_by_steps}
use Rattle.metric_calls.specs.DurationCalls.{told_after, longest_asking, IsTimedWell}
use Rattle.metric_kinds.specs.Counts.{row_weight}
use Rattle.metric_kinds.specs.Durations.{longest_kind}
use Rattle.metric_kinds.specs.Keys.{is_same_key}
use Rattle.metric_meaning.specs.DurationSteps.{inner_after, longest_way}
use Rattle.metric_meaning.specs.Histories.{Installation, Step}
use Rattle.predicate_state.specs.PredicateItems.{flag_number}
use Rattle.predicate_state.specs.PredicateStates.{PredicateState}
use Rattle.saved_weight.proofs.TimelyBooks.{books_in_time}
use Rattle.saved_weight.proofs.InnerWithin.{sparse_size, AreTold, inner_rows_within}
use Rattle.saved_weight.proofs.SizeLaws.{full_size, full-number, full-append, full-one, full-key, full-table, table_within, kept_within}
use Rattle.saved_weight.proofs.SumWithin.{time_row_within}
use Rattle.saved_weight.specs.Entries.{key_entry, row_entry}
use Rattle.saved_weight.specs.KindWeights.{numbers_weight, inner_entry, inner_weight}
use Rattle.saved_weight.specs.WayBooks.{own_books}

-- a key with its time is within an entry
time_within : (key : MetricKey) (time : ℕ) → full_size (pair_items key_items number_items (key, time)) ≤ key_entry key
time_within key time =
    let both = full-append (key_items key) (number_items time) in
    let one = full-key key in
    let other = full-one time in
    omega (arith, both, one, other)

-- what a metric of longest durations weighs that has these books
abbrev longest_in : ℕ → Books (MetricKey × ℕ) → ℕ
longest_in bound books =
    sum_by key_entry (admitted is_same_key bound (map arrival_key books.came))
    + sum_by row_entry (kept row_weight most_weight (closed_rows longest_kind bound books))

-- longest times and kept rows take six numbers, and what the metric weighs by its books
longest_books_within : (it : MaxProducer) (bound : ℕ) (books : Books (MetricKey × ℕ)) → HoldsTimes it.books bound books
    → full_size (longest_books_items it) ≤ 54 + longest_in bound books
longest_books_within it bound books has =
    let keys = admitted is_same_key bound (map arrival_key books.came) in
    let are : it.books.table.rows ≡ map (longest_of books.came) keys =
    has.table.rows ∙ ap (λ b. map (longest_of books.came) (admitted is_same_key b (map arrival_key books.came)))
    has.bound_is in
    let table = table_within key_items number_items it.books.table (longest_of books.came) key_entry keys are
    (λ key. time_within key (longest_of books.came key).1) in
    let rows = kept_within time_row_items it.books.kept row_entry
    (kept row_weight most_weight (closed_rows longest_kind bound books)) has.kept.rows time_row_within in
    let both = full-append (table_items key_items number_items it.books.table)
    (kept_items time_row_items it.books.kept) in
    omega (arith, table, rows, both)

-- its seven numbers
numbers_size : (it : MaxProducer) → full_size (longest_items it) ≡ 63 + full_size (longest_rest_items it)
numbers_size it =
    let rest = longest_rest_items it in
    let lost : List Item = Num it.books.lost ∷ rest in
    let now : List Item = Num (flag_number it.keys.unknown) ∷ longest_part_items it in
    let leaves : List Item = Num it.keys.spec.leaves ∷ now in
    let bound : List Item = Num it.keys.spec.bound ∷ leaves in
    let first : List Item = Num (flag_number it.keys.spec.unknown) ∷ bound in
    let a = full-number it.books.lost rest in
    let b = full-number it.books.start lost in
    let c = full-number (flag_number it.keys.unknown) (longest_part_items it) in
    let d = full-number it.keys.spec.leaves now in
    let e = full-number it.keys.spec.bound leaves in
    let f = full-number (flag_number it.keys.spec.unknown) bound in
    let g = full-number (flag_number it.keys.spec.nesting) first in
    omega (arith, a, b, c, d, e, f, g)

module _ (installed : Installation) (metric : LMetric) (spec : PredSpec) (steps : List Step) where
  -- what was told of each row by calls is what is so of its key after the steps
  rows_told : (calls : List DurationCall) (last : ℕ)
      → ((key : List Leaf) → last_known spec calls key ≡ told_after installed metric spec steps key)
      → (rows : List (List Leaf × SparseEntry)) → AllByRecursion (RowStands spec calls last) rows
      → AreTold installed metric spec steps (λ (entry : SparseEntry). entry.known) rows
  rows_told calls last is [] are = tt
  rows_told calls last is (row ∷ rows) are = (are.0.known_is ∙ is row.0, rows_told calls last is rows are.1)

  -- the inner keys take three numbers, and no more than their entries
  inner_within : (it : MaxProducer) (calls : List DurationCall) (last : ℕ)
      → KnowsInner installed metric spec calls steps
      → map entry_count it.keys.table.rows ≡ (inner_after installed metric spec steps).counts
      → AllByRecursion (RowStands spec calls last) it.keys.table.rows
      → full_size (table_items dims_items entry_items it.keys.table) ≤ 27 + inner_weight installed metric spec steps
  inner_within it calls last knows are told =
      let rows = it.keys.table.rows in
      let all = full-table dims_items entry_items it.keys.table in
      let each = inner_rows_within installed metric spec steps entry_items (λ (entry : SparseEntry). entry.known)
      (λ (entry : SparseEntry). entry.count) rows (λ entry. let size = sparse_size entry in omega (arith, size))
      (rows_told calls last knows.told rows told) in
      let same = ap (sum_by (inner_entry installed metric steps)) are in
      omega (arith, all, each, same)

  -- a producer of longest durations after these steps, whose times don't fall, takes sixteen numbers, and what its
  -- metric weighs after them
  pub longest_within : IsTimedWell installed metric spec → DontGoBack 0 steps → (it : MaxProducer)
      → let asking = longest_asking installed metric spec in
      SparseStandsFor it asking.params (calls_by_steps asking sparse_collecting steps)
      → full_size (longest_items it)
      ≤ 144 + (inner_weight installed metric spec steps + numbers_weight (longest_way installed metric spec) steps)
  longest_within timed in_time it stands =
      let asking = longest_asking installed metric spec in
      let calls = calls_by_steps asking sparse_collecting steps in
      let knows = (calls_tell installed metric spec steps).knows in
      let state = stands.keys.state_is ∙ knows.state in
      let inner = inner_within it calls _ knows
      (ap (λ (s : PredicateState (List Leaf)). s.counts) state) stands.keys.rows_are in
      let same = books_in_time asking sparse_collecting (longest_agree installed metric spec timed) steps in_time in
      let had = own_books (longest_way installed metric spec) steps in
      let held = longest_books_within it spec.bound _ stands.held in
      let by_steps = subst (λ b. full_size (longest_books_items it) ≤ 54 + longest_in spec.bound b) same held in
      let books = subst (λ b. full_size (longest_books_items it) ≤ 54 + longest_in b had) timed.bound by_steps in
      let rest = full-append (table_items dims_items entry_items it.keys.table) (longest_books_items it) in
      let numbers = numbers_size it in
      omega (arith, inner, books, rest, numbers)
