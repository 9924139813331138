-- A producer of counts takes no more bytes than its metric weighs.
use Rattle.std.proofs.Common.{◌≡◌, ℕ, ◌+◌, ◌≤◌, Bool, List, ◌++◌, map, ap, subst, ◌∙◌, arith}
use Rattle.std.specs.List.{sum_by}
use Rattle.atom_record.specs.declared.value.MetricKey.{MetricKey}
use Rattle.bucket_meaning.specs.Guard.{admitted, arrival_key}
use Rattle.bucket_meaning.specs.Kept.{kept, most_weight}
use Rattle.bucket_meaning.specs.Marks.{Books}
use Rattle.bucket_meaning.specs.Rows.{closed_rows}
use Rattle.config_links.specs.declared.linked.LMetric.{LMetric}
use Rattle.count_metric.specs.CountItems.{count_row_items, spilled_cell, count_rest, count_items}
use Rattle.count_metric.specs.CountStands.{tally_of, HasBooks, CountStandsFor}
use Rattle.count_metric.specs.Counting.{CountParams, count_collecting}
use Rattle.count_metric.specs.declared.count.CountProducer.{CountProducer}
use Rattle.dim_table.specs.TableItems.{table_items}
use Rattle.flat_form.specs.Flat.{number_items, key_items}
use Rattle.kept_rows.specs.KeptItems.{kept_items}
use Rattle.metric_calls.proofs.CountCallsLemmas.{counts_agree}
use Rattle.metric_calls.specs.Askings.{calls_by_steps}
use Rattle.metric_calls.specs.CountCalls.{count_asking}
use Rattle.metric_kinds.specs.Counts.{row_weight, count_kind}
use Rattle.metric_kinds.specs.Keys.{is_same_key}
use Rattle.metric_meaning.specs.CountSteps.{count_way}
use Rattle.metric_meaning.specs.Histories.{Installation, Step}
use Rattle.metric_producer.specs.CellItems.{cell_items}
use Rattle.metric_producer.specs.declared.row.CountCell.{CountCell}
use Rattle.metric_producer.specs.declared.row.Row.{Row}
use Rattle.saved_weight.proofs.BooksLaws.{books_are}
use Rattle.saved_weight.proofs.SizeLaws.{full_size, full-number, full-append, full-one, full-key, full-row, table_within, kept_within}
use Rattle.saved_weight.specs.Entries.{key_entry, row_entry}
use Rattle.saved_weight.specs.KindWeights.{numbers_weight}

-- a key with its number is within an entry
tally_within : (came : List (MetricKey × ℕ)) (key : MetricKey)
    → full_size (key_items key ++ number_items (tally_of came key).1) ≤ key_entry key
tally_within came key =
    let size = full-append (key_items key) (number_items (tally_of came key).1) in
    let one = full-key key in
    let number = full-one (tally_of came key).1 in
    omega arith

-- a row of a count is within an entry
count_row_within : (row : Row CountCell) → full_size (count_row_items row) ≤ row_entry row
count_row_within row = let size = full-row cell_items row in omega arith

-- what a metric of counts weighs that has these books
abbrev counts_in : CountParams → Books (MetricKey × ℕ) → ℕ
counts_in params books =
    sum_by key_entry (admitted is_same_key params.bound (map arrival_key books.came))
    + sum_by row_entry (kept row_weight most_weight (closed_rows (count_kind params.overflow) params.bound books))

-- a producer that holds books takes nine numbers, and what they weigh
counts_held : (it : CountProducer) (params : CountParams) (books : Books (MetricKey × ℕ)) → HasBooks it params books
    → full_size (count_items it) ≤ 81 + counts_in params books
counts_held it params books has =
    let keys = admitted is_same_key params.bound (map arrival_key books.came) in
    let are : it.table.rows ≡ map (tally_of books.came) keys =
    has.table.rows ∙ ap (λ bound. map (tally_of books.came) (admitted is_same_key bound (map arrival_key books.came)))
    has.bound in
    let table = table_within key_items number_items it.table (tally_of books.came) key_entry keys are
    (tally_within books.came) in
    let rows = kept_within count_row_items it.kept row_entry
    (kept row_weight most_weight (closed_rows (count_kind params.overflow) params.bound books)) has.kept.rows
    count_row_within in
    let start = full-number it.start (cell_items (spilled_cell it) ++ count_rest it) in
    let cell = full-append (cell_items (spilled_cell it)) (count_rest it) in
    let rest = full-append (table_items key_items number_items it.table) (kept_items count_row_items it.kept) in
    omega arith

-- one of these steps takes nine numbers, and what its metric weighs after them
pub count_within : (installed : Installation) (metric : LMetric) (overflow : Bool) (steps : List Step)
    (it : CountProducer)
    → let asking = count_asking installed metric overflow in
    CountStandsFor it asking.params (calls_by_steps asking count_collecting steps)
    → full_size (count_items it) ≤ 81 + numbers_weight (count_way installed metric overflow) steps
count_within installed metric overflow steps it stands =
    let asking = count_asking installed metric overflow in
    let books = books_are asking count_collecting (counts_agree installed metric overflow) steps in
    subst (λ b. full_size (count_items it) ≤ 81 + counts_in asking.params b) books
    (counts_held it asking.params _ stands)
