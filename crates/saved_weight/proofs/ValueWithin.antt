-- Books of values and a producer of pushed values take no more bytes than the metric weighs.
use Rattle.std.proofs.Common.{◌≡◌, ℕ, ℤ, ◌+◌, ◌≤◌, false, List, ◌∷◌, ◌++◌, map, Option, Some, None, ap, subst, ◌∙◌, arith}
use Rattle.std.specs.List.{sum_by}
use Rattle.atom_record.specs.declared.value.MetricKey.{MetricKey}
use Rattle.bucket_meaning.specs.Guard.{admitted, arrival_key}
use Rattle.bucket_meaning.specs.Kept.{kept, most_weight}
use Rattle.bucket_meaning.specs.Marks.{Books}
use Rattle.bucket_meaning.specs.Rows.{closed_rows}
use Rattle.config_links.specs.declared.linked.LMetric.{LMetric}
use Rattle.config_types.specs.declared.metric.Aggregation.{Aggregation}
use Rattle.dim_table.specs.TableItems.{table_items}
use Rattle.flat_form.specs.declared.item.Item.{Item}
use Rattle.flat_form.specs.declared.item.Item.TheVariants.{Num}
use Rattle.flat_form.specs.Flat.{signed_items, long_items, key_items}
use Rattle.kept_rows.specs.KeptItems.{kept_items}
use Rattle.metric_calls.proofs.ValueCallsLemmas.{values_agree}
use Rattle.metric_calls.specs.Askings.{calls_by_steps}
use Rattle.metric_calls.specs.ValueCalls.{value_asking}
use Rattle.metric_kinds.specs.Keys.{is_same_key}
use Rattle.metric_meaning.specs.Histories.{Installation, Step}
use Rattle.metric_meaning.specs.PushedValueSteps.{pushed_value_way}
use Rattle.metric_meaning.specs.ValueLeaves.{ValueLeaf}
use Rattle.metric_producer.specs.declared.row.Row.{Row}
use Rattle.saved_weight.proofs.BooksLaws.{books_are}
use Rattle.saved_weight.proofs.SizeLaws.{full_size, full-number, full-append, full-none, full-some, full-key, full-row, table_within, kept_within}
use Rattle.saved_weight.specs.Entries.{key_entry, row_entry}
use Rattle.saved_weight.specs.KindWeights.{numbers_weight}
use Rattle.value_metric.specs.BooksItems.{total_items, value_row_items, table_and_rows, books_items, pushed_value_items}
use Rattle.value_metric.specs.ChoiceNumbers.{aggregation_number, asked_number}
use Rattle.value_metric.specs.PushedStands.{PushedStandsFor}
use Rattle.value_metric.specs.PushedValues.{pushed_collecting}
use Rattle.value_metric.specs.Totals.{total_of, row_weighs}
use Rattle.value_metric.specs.ValueBooksStand.{ValueForm, form_kind, HoldsBooks}
use Rattle.value_metric.specs.declared.value_books.ValueBooks.{ValueBooks}
use Rattle.value_metric.specs.declared.pushed_value.PushedValue.{PushedValue}

-- a long integer is two numbers
pub full-long : (integer : ℤ) → full_size (long_items integer) ≡ 18
full-long integer = omega arith

-- a signed integer is one
pub full-signed : (integer : ℤ) → full_size (signed_items integer) ≡ 9
full-signed integer = omega arith

-- a total takes three numbers at most
total_size : (total : Option ℤ) → full_size (total_items total) ≤ 27
total_size None = let size = full-none long_items in omega arith
total_size (Some integer) =
    let size = full-some long_items integer in let long = full-long integer in omega arith

-- a key with its total is within an entry
total_within : (key : MetricKey) (total : Option ℤ) → full_size (key_items key ++ total_items total) ≤ key_entry key
total_within key total =
    let size = full-append (key_items key) (total_items total) in
    let one = full-key key in
    let number = total_size total in
    omega arith

-- a row of a value is within an entry
value_row_within : (row : Row ℤ) → full_size (value_row_items row) ≤ row_entry row
value_row_within row =
    let size = full-row signed_items row in let value = full-signed row.value in omega arith

-- what a metric of values weighs that has these books
abbrev pub values_in : ValueForm → Books (MetricKey × ℤ) → ℕ
values_in form books =
    sum_by key_entry (admitted is_same_key form.bound (map arrival_key books.came))
    + sum_by row_entry (kept row_weighs most_weight (closed_rows (form_kind form) form.bound books))

-- books of values take ten numbers, and what the metric weighs by them
pub value_books_within : (it : ValueBooks) (form : ValueForm) (books : Books (MetricKey × ℤ)) → HoldsBooks it form books
    → full_size (books_items it) ≤ 90 + values_in form books
value_books_within it form books has =
    let keys = admitted is_same_key form.bound (map arrival_key books.came) in
    let total = total_of form.aggregation books.came in
    let are : it.table.rows ≡ map total keys =
    has.table.rows ∙ ap (λ bound. map total (admitted is_same_key bound (map arrival_key books.came))) has.bound in
    let table = table_within key_items total_items it.table total key_entry keys are
    (λ key. total_within key (total key).1) in
    let rows = kept_within value_row_items it.kept row_entry
    (kept row_weighs most_weight (closed_rows (form_kind form) form.bound books)) has.kept.rows value_row_within in
    let rest = full-append (table_items key_items total_items it.table) (kept_items value_row_items it.kept) in
    let missing = full-number it.missing (table_and_rows it) in
    let two : List Item = Num it.missing ∷ table_and_rows it in
    let three : List Item = Num (asked_number it.hides_zeros) ∷ two in
    let four : List Item = Num (aggregation_number it.aggregation) ∷ three in
    let hides = full-number (asked_number it.hides_zeros) two in
    let aggregation = full-number (aggregation_number it.aggregation) three in
    let start = full-number it.start four in
    omega (arith, table, rows, rest, missing, hides, aggregation, start)

-- a producer of pushed values after these steps takes ten numbers, and what its metric weighs after them
pub pushed_value_within : (installed : Installation) (metric : LMetric) (source : ValueLeaf) (aggregation : Aggregation)
    (steps : List Step) (it : PushedValue)
    → let asking = value_asking installed metric source aggregation in
    PushedStandsFor it asking.params (calls_by_steps asking pushed_collecting steps)
    → full_size (pushed_value_items it)
    ≤ 90 + numbers_weight (pushed_value_way installed metric source aggregation) steps
pushed_value_within installed metric source aggregation steps it stands =
    let asking = value_asking installed metric source aggregation in
    let form : ValueForm = record { bound = metric.bound; aggregation = aggregation; hides_zeros = false } in
    let books = books_are asking pushed_collecting (values_agree installed metric source aggregation) steps in
    subst (λ b. full_size (pushed_value_items it) ≤ 90 + values_in form b) books
    (value_books_within it.books form _ stands)
