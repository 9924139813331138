-- A pushed gauge takes no more bytes than its metric weighs.
use Rattle.std.proofs.Common.{◌≡◌, ℕ, ◌+◌, ◌≤◌, List, ◌∷◌, ◌++◌, map, Option, ap, subst, ◌∙◌, arith}
use Rattle.std.specs.List.{sum_by}
use Rattle.atom_record.specs.declared.atom.Atom.{Atom}
use Rattle.atom_record.specs.declared.value.MetricKey.{MetricKey}
use Rattle.bucket_meaning.specs.Guard.{admitted, arrival_key}
use Rattle.bucket_meaning.specs.Kept.{kept, most_weight}
use Rattle.bucket_meaning.specs.Marks.{Books}
use Rattle.bucket_meaning.specs.Rows.{closed_rows}
use Rattle.config_links.specs.declared.linked.LMetric.{LMetric}
use Rattle.dim_table.specs.Table.{Table}
use Rattle.dim_table.specs.TableItems.{table_items}
use Rattle.field_select.specs.declared.leaf.FieldSet.{FieldSet}
use Rattle.flat_form.specs.Flat.{key_items, atom_items, list_items}
use Rattle.flat_form.specs.declared.item.Item.{Item}
use Rattle.flat_form.specs.declared.item.Item.TheVariants.{Num}
use Rattle.gauge_metric.specs.EventItems.{atom_row_items}
use Rattle.gauge_metric.specs.GaugeItems.{gauge_rest, gauge_items}
use Rattle.gauge_metric.specs.GaugeStands.{key_samples, sampled, AreSampled, HasGauge, GaugeStandsFor}
use Rattle.gauge_metric.specs.Sampling.{GaugeParams, gauge_collecting}
use Rattle.gauge_metric.specs.declared.gauge.PushedGauge.{PushedGauge}
use Rattle.kept_rows.specs.KeptItems.{kept_items}
use Rattle.kept_rows.specs.KeptRows.{IsKept, Keeping}
use Rattle.metric_calls.proofs.PushedGaugeCallsLemmas.{pushed_gauges_agree}
use Rattle.metric_calls.specs.Askings.{calls_by_steps}
use Rattle.metric_calls.specs.PushedGaugeCalls.{pushed_gauge_asking}
use Rattle.metric_kinds.specs.Gauges.{samples_weight, gauge_kind}
use Rattle.metric_kinds.specs.Keys.{is_same_key}
use Rattle.metric_meaning.specs.Histories.{Installation, Step}
use Rattle.metric_meaning.specs.PushedGaugeSteps.{pushed_gauge_way}
use Rattle.metric_producer.specs.declared.row.Row.{Row}
use Rattle.saved_weight.proofs.BooksLaws.{books_are}
use Rattle.saved_weight.proofs.SampleSizes.{samples_within, sample_row_within}
use Rattle.saved_weight.proofs.SizeLaws.{full_size, full-number, full-append, table_within, kept_within}
use Rattle.saved_weight.specs.Entries.{samples_entry}
use Rattle.saved_weight.specs.KindWeights.{sampled_entry, sampled_weight}

-- the items of a gauge's table and of its kept rows
abbrev pub sampled_items : Table MetricKey (List Atom) → Keeping (Row (List Atom)) → List Item
sampled_items table rows = table_items key_items (list_items atom_items) table ++ kept_items atom_row_items rows

-- what a metric of samples weighs that has these books
abbrev pub sampled_in : ℕ → ℕ → Books (MetricKey × Atom) → ℕ
sampled_in samples bound books =
    sum_by (sampled_entry samples books.came) (admitted is_same_key bound (map arrival_key books.came))
    + sum_by samples_entry (kept samples_weight most_weight (closed_rows (gauge_kind samples) bound books))

-- a table of samples and kept rows take six numbers, and what the metric weighs by its books
pub sampled_within : (samples bound dropped : ℕ) (table : Table MetricKey (List Atom))
    (rows : Keeping (Row (List Atom))) (books : Books (MetricKey × Atom)) → table.bound ≡ bound
    → AreSampled samples table books.came dropped
    → IsKept samples_weight (closed_rows (gauge_kind samples) bound books) rows
    → full_size (sampled_items table rows) ≤ 54 + sampled_in samples bound books
sampled_within samples bound dropped table rows books same has keeps =
    let keys = admitted is_same_key bound (map arrival_key books.came) in
    let row : MetricKey → MetricKey × List Atom = λ key. (key, key_samples samples books.came key) in
    let are : table.rows ≡ map row keys = has.rows ∙ ap (λ b. sampled samples b books.came) same in
    let open_part = table_within key_items (list_items atom_items) table row (sampled_entry samples books.came) keys are
    (λ key. samples_within key (key_samples samples books.came key)) in
    let closed = kept_within atom_row_items rows samples_entry
    (kept samples_weight most_weight (closed_rows (gauge_kind samples) bound books)) keeps.rows sample_row_within in
    let both = full-append (table_items key_items (list_items atom_items) table) (kept_items atom_row_items rows) in
    omega (arith, open_part, closed, both)

-- a gauge that holds books takes eight numbers, and what they weigh
gauge_held : (it : PushedGauge) (params : GaugeParams) (books : Books (MetricKey × Atom)) → HasGauge it params books
    → full_size (gauge_items it) ≤ 72 + sampled_in params.samples params.bound books
gauge_held it params books has =
    let rest = sampled_within params.samples params.bound books.dropped it.table it.kept books has.bound has.table
    has.kept in
    let samples = full-number it.samples (gauge_rest it) in
    let start = full-number it.start (Num it.samples ∷ gauge_rest it) in
    omega (arith, rest, samples, start)

-- one of these steps takes eight numbers, and what its metric weighs after them
pub gauge_within : (installed : Installation) (metric : LMetric) (fields : Option FieldSet) (samples : ℕ)
    (steps : List Step) (it : PushedGauge)
    → let asking = pushed_gauge_asking installed metric fields samples in
    GaugeStandsFor it asking.params (calls_by_steps asking gauge_collecting steps)
    → full_size (gauge_items it) ≤ 72 + sampled_weight samples (pushed_gauge_way installed metric fields samples) steps
gauge_within installed metric fields samples steps it stands =
    let asking = pushed_gauge_asking installed metric fields samples in
    let books = books_are asking gauge_collecting (pushed_gauges_agree installed metric fields samples) steps in
    subst (λ b. full_size (gauge_items it) ≤ 72 + sampled_in samples metric.bound b) books
    (gauge_held it asking.params _ stands)
