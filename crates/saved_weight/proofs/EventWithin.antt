-- A producer of events takes no more bytes than its metric weighs.
use Rattle.std.proofs.Common.{◌≡◌, ℕ, ◌+◌, ◌≤◌, List, [], map, length, refl, ap, subst, arith}
use Rattle.std.specs.List.{AllByRecursion, flat_map, sum_by}
use Rattle.atom_record.specs.declared.atom.Atom.{Atom}
use Rattle.atom_record.specs.declared.value.MetricKey.{MetricKey}
use Rattle.bucket_meaning.specs.Guard.{admitted, of_key, arrival_key}
use Rattle.bucket_meaning.specs.Kept.{kept, most_weight}
use Rattle.bucket_meaning.specs.Marks.{Part, Books}
use Rattle.bucket_meaning.specs.Rows.{row_of, rows_of, closed_rows}
use Rattle.config_links.specs.declared.linked.LMetric.{LMetric}
use Rattle.flat_form.specs.Flat.{atom_items, list_items}
use Rattle.gauge_metric.specs.EventItems.{atom_row_items, events_items}
use Rattle.gauge_metric.specs.EventStands.{HasEvents, EventsStandFor}
use Rattle.gauge_metric.specs.Eventing.{event_collecting}
use Rattle.gauge_metric.specs.declared.events.EventProducer.{EventProducer}
use Rattle.metric_calls.proofs.EventCallsLemmas.{events_agree}
use Rattle.metric_calls.specs.Askings.{calls_by_steps}
use Rattle.metric_calls.specs.EventCalls.{event_asking}
use Rattle.metric_kinds.specs.Events.{EventAtom, event_row, event_kind}
use Rattle.metric_kinds.specs.Keys.{is_same_key}
use Rattle.metric_meaning.specs.EventSteps.{event_way}
use Rattle.metric_meaning.specs.Histories.{Installation, Step}
use Rattle.metric_producer.specs.declared.row.Row.{Row}
use Rattle.saved_weight.proofs.BooksLaws.{books_are}
use Rattle.saved_weight.proofs.EachLaws.{each-append, each-flat_map, each-map, each-kept, each_within_if}
use Rattle.saved_weight.proofs.SampleSizes.{full-atoms}
use Rattle.saved_weight.proofs.SizeLaws.{full_size, full-kept, full-row}
use Rattle.saved_weight.specs.Entries.{event_entry}
use Rattle.saved_weight.specs.WayBooks.{books_weight}

-- a row of one atom
abbrev HasOne : Row (List Atom) → Type 0
HasOne row = length row.value ≡ 1

-- each row of a part of events is one
part_ones : (part : Part (MetricKey × EventAtom)) → AllByRecursion HasOne (rows_of event_kind 1 part)
part_ones part =
    let keys = admitted is_same_key 1 (map arrival_key part.came) in
    each-append HasOne (flat_map (row_of event_kind 1 part) keys) []
    (each-flat_map HasOne (row_of event_kind 1 part) keys
    (λ key. each-map HasOne event_row (of_key is_same_key key part.came) (λ event. refl))) tt

-- a row of one atom is within an entry
event_row_within : (row : Row (List Atom)) → HasOne row → full_size (atom_row_items row) ≤ event_entry row
event_row_within row one =
    let size = full-row (list_items atom_items) row in let atoms = full-atoms row.value in omega arith

-- what a metric of events weighs that has these books
abbrev events_in : Books (MetricKey × EventAtom) → ℕ
events_in books = sum_by event_entry (kept event_kind.weight most_weight (closed_rows event_kind 1 books))

-- a producer that holds books takes three numbers, and what they weigh
events_held : (it : EventProducer) (base : ℕ) (books : Books (MetricKey × EventAtom)) → HasEvents it base books
    → full_size (events_items it) ≤ 27 + events_in books
events_held it base books has =
    let rows = kept event_kind.weight most_weight (closed_rows event_kind 1 books) in
    let size : Row (List Atom) → ℕ = λ row. full_size (atom_row_items row) in
    let ones = each-kept HasOne event_kind.weight most_weight (closed_rows event_kind 1 books)
    (each-flat_map HasOne (rows_of event_kind 1) books.closed part_ones) in
    let less = each_within_if HasOne size event_entry rows ones event_row_within in
    let same : sum_by size it.kept.rows ≡ sum_by size rows = ap (sum_by size) has.kept.rows in
    let all = full-kept atom_row_items it.kept in
    omega (arith, less, same, all)

-- one of these steps takes three numbers, and what its metric weighs after them
pub event_within : (installed : Installation) (metric : LMetric) (steps : List Step) (it : EventProducer)
    → let asking = event_asking installed metric in
    EventsStandFor it asking.params (calls_by_steps asking event_collecting steps)
    → full_size (events_items it) ≤ 27 + books_weight (event_way installed metric) (λ key. 0) event_entry steps
event_within installed metric steps it stands =
    let asking = event_asking installed metric in
    let books = books_are asking event_collecting (events_agree installed metric) steps in
    let held = subst (λ b. full_size (events_items it) ≤ 27 + events_in b) books
    (events_held it asking.params _ stands) in
    omega (arith, held)
