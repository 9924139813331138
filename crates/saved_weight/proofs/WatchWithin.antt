-- The watch of an alert takes no more bytes than the alert weighs.
use Rattle.std.proofs.Common.{◌≡◌, ℕ, ◌+◌, ◌*◌, ◌≤◌, List, [], ◌∷◌, ◌++◌, map, take, length, Option, Some, None, zero, suc, refl, ap, ◌∙◌, arith}
use Rattle.std.specs.Prelude.{All}
use Rattle.std.specs.List.{sum_by}
use Rattle.std.proofs.lemmas.List.Elements.{All-head, All-tail}
use Rattle.std.proofs.lemmas.List.Sums.{sum_by-cons}
use Rattle.alert_watch.specs.WatchItems.{alarm_items, KeyCount, key_count_items, window_part_items, window_rows, alert_items, watch_list_items, watch_items, IsWholeWatch}
use Rattle.alert_watch.specs.Watches.{KeyCounts, WatchContents, IsPartTable, CountsPart, CountParts, WatchStandsFor, number_in_part}
use Rattle.alert_watch.specs.Windows.{Notice, Arrival, alert_books}
use Rattle.alert_watch.specs.declared.alarm.Alarm.{Alarm}
use Rattle.atom_record.specs.declared.value.MetricKey.{MetricKey}
use Rattle.bucket_meaning.specs.Guard.{admitted, arrival_key}
use Rattle.config_types.specs.declared.parameters.AlertSpec.{AlertSpec}
use Rattle.flat_form.specs.Flat.{number_items, key_items, option_items, list_items}
use Rattle.flat_form.specs.declared.item.Item.{Item}
use Rattle.flat_form.specs.declared.item.Item.TheVariants.{Num}
use Rattle.metric_kinds.specs.Keys.{is_same_key}
use Rattle.saved_weight.proofs.SizeLaws.{full_size, full-number, full-append, full-list, full-none, full-some, full-one, full-key, sum_by-map, each_within}
use Rattle.saved_weight.specs.AlertWeights.{part_weight, alarm_entry, watch_weight}
use Rattle.saved_weight.specs.Entries.{key_entry}

-- a key with its number is within an entry
count_within : (row : KeyCount) → full_size (key_count_items row) ≤ key_entry row.0
count_within row =
    let both = full-append (key_items row.0) (number_items row.1) in
    let key = full-key row.0 in
    let number = full-one row.1 in
    omega (arith, both, key, number)

-- a table's rows take a number, and what the part weighs
part_within : (table : KeyCounts) (part : List Arrival) → CountsPart table part
    → full_size (window_part_items table.rows) ≤ 9 + part_weight table.bound part
part_within table part counts =
    let keys = admitted is_same_key table.bound (map arrival_key part) in
    let row : MetricKey → KeyCount = λ key. (key, number_in_part part key) in
    let size : KeyCount → ℕ = λ row. full_size (key_count_items row) in
    let all = full-list key_count_items table.rows in
    let by_keys : sum_by size table.rows ≡ sum_by (λ key. size (row key)) keys =
    ap (sum_by size) counts ∙ sum_by-map size row keys in
    let each = each_within (λ key. size (row key)) key_entry keys (λ key. count_within (row key)) in
    omega (arith, all, by_keys, each)

-- no parts weigh nothing, however many are taken of them
front_of_none : (weight : List Arrival → ℕ) (count : ℕ) → sum_by weight (take count []) ≡ 0
front_of_none weight zero = refl
front_of_none weight (suc count) = refl

-- the tables of a window take a number each, and what its parts weigh
parts_within : (bound : ℕ) (tables : List KeyCounts) (parts : List (List Arrival))
    → All (IsPartTable bound) tables → CountParts tables parts
    → sum_by (λ rows. full_size (window_part_items rows)) (window_rows tables)
    ≤ 9 * length tables + sum_by (part_weight bound) (take (length tables) parts)
parts_within bound [] parts are count = omega arith
parts_within bound (table ∷ tables) [] are count =
    let size : List KeyCount → ℕ = λ rows. full_size (window_part_items rows) in
    let rest = parts_within bound tables [] (All-tail (IsPartTable bound) table tables are) count.1 in
    let one = sum_by-cons size table.rows (window_rows tables) in
    let here = ap size count.0 in
    let none = full-list key_count_items [] in
    let fewer = front_of_none (part_weight bound) (length tables) in
    omega (arith, rest, one, here, none, fewer)
parts_within bound (table ∷ tables) (part ∷ parts) are count =
    let size : List KeyCount → ℕ = λ rows. full_size (window_part_items rows) in
    let rest = parts_within bound tables parts (All-tail (IsPartTable bound) table tables are) count.1 in
    let one = sum_by-cons size table.rows (window_rows tables) in
    let here = part_within table part count.0 in
    let same = ap (λ b. part_weight b part) (All-head (IsPartTable bound) table tables are).has_bound in
    let front : take (length (table ∷ tables)) (part ∷ parts) ≡ part ∷ take (length tables) parts = refl in
    let weights = ap (sum_by (part_weight bound)) front in
    let other = sum_by-cons (part_weight bound) part (take (length tables) parts) in
    omega (arith, rest, one, here, same, weights, other)

-- an alarm is within an entry
alarm_within : (alarm : Alarm) → full_size (alarm_items alarm) ≤ alarm_entry alarm
alarm_within alarm =
    let sum : List Item = Num alarm.sum ∷ key_items alarm.key in
    let one = full-number alarm.sum (key_items alarm.key) in
    let other = full-number alarm.at sum in
    let key = full-key alarm.key in
    omega (arith, one, other, key)

-- listed alarms take a number, and what they weigh
alarms_within : (alarms : List Alarm) → full_size (list_items alarm_items alarms) ≤ 9 + sum_by alarm_entry alarms
alarms_within alarms =
    let all = full-list alarm_items alarms in
    let each = each_within (λ alarm. full_size (alarm_items alarm)) alarm_entry alarms alarm_within in
    omega (arith, all, each)

-- the four numbers of an alert
alert_size : (spec : AlertSpec) → full_size (alert_items spec) ≡ 36
alert_size spec = omega arith

-- when the last alarm came takes two numbers at most
last_size : (last : Option ℕ) → full_size (option_items number_items last) ≤ 18
last_size None = let none = full-none number_items in omega (arith, none)
last_size (Some at) =
    let some = full-some number_items at in let one = full-one at in omega (arith, some, one)

-- a watch takes nineteen numbers at most, and what its alert weighs that was told this
pub watch_within : (watch : WatchContents) (notices : List Notice) → IsWholeWatch watch → WatchStandsFor watch notices
    → full_size (watch_items watch) ≤ 171 + watch_weight watch.spec notices
watch_within watch notices whole stands =
    let books = alert_books watch.spec notices in
    let rows = window_rows watch.tables in
    let parts = parts_within watch.spec.bound watch.tables (books.current ∷ books.closed) whole.is_watch.tables
    stands.tables in
    let as_many = ap (λ n. sum_by (part_weight watch.spec.bound) (take n (books.current ∷ books.closed)))
    whole.is_watch.parts in
    let few = whole.is_watch.spec.few_parts in
    let many = whole.is_watch.parts in
    let listed = alarms_within watch.listed in
    let told = ap (sum_by alarm_entry) stands.listed in
    let window = full-list window_part_items rows in
    let lists = full-append (list_items window_part_items rows) (list_items alarm_items watch.listed) in
    let not_kept = full-number watch.not_kept (watch_list_items watch.tables watch.listed) in
    let last = last_size watch.last in
    let head = alert_size watch.spec in
    let rest : List Item = Num watch.not_kept ∷ watch_list_items watch.tables watch.listed in
    let after_last = full-append (option_items number_items watch.last) rest in
    let all = full-append (alert_items watch.spec) (option_items number_items watch.last ++ rest) in
    omega (arith, parts, as_many, few, many, listed, told, window, lists, not_kept, last, head, after_last, all)
