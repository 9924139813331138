-- A watch has no more items than its head and its entries allow, and they can be spelled where its keys can.
use Rattle.std.specs.Prelude.{◌≡◌, ℕ, ◌+◌, ◌*◌, ◌≤◌, List, [], ◌∷◌, ◌++◌, length, All, Option, Some, None}
use Rattle.std.specs.List.{flat_map, sum_by}
use Rattle.std.proofs.Common.{arith}
use Rattle.std.proofs.lemmas.List.{length-append, length-map}
use Rattle.std.proofs.lemmas.List.Sums.{sum_by-cons}
use Rattle.std.proofs.lemmas.List.Elements.{All-append}
use Rattle.flat_form.specs.declared.item.Item.TheVariants.{Num}
use Rattle.flat_form.specs.Flat.{Anything, IsValidPair, number_items, option_items, key_items, list_items}
use Rattle.flat_form.specs.Weight.{most_items}
use Rattle.flat_form.specs.Savable.{IsSavable, AreSavable, IsShortKey}
use Rattle.flat_form.specs.SavableLaws.{items_savable, number_savable, key_savable, pair_savable, list_savable, option_savable}
use Rattle.alert_watch.specs.declared.alarm.Alarm.{Alarm}
use Rattle.alert_watch.specs.Watches.{KeyCounts, WatchContents}
use Rattle.alert_watch.specs.WatchItems.{alarm_items, IsShortAlarm, KeyCount, key_count_items, IsShortCount, window_part_items, window_rows, watch_items, IsWholeWatch, IsSavableWatch, watch_entries}

-- an alarm is a head of four items
pub alarm_bounded : (alarm : Alarm) → Anything alarm → length (alarm_items alarm) ≤ most_items 4 0
alarm_bounded alarm valid = omega arith

-- an alarm whose key can be spelled
pub alarm_savable : (alarm : Alarm) → Anything alarm → IsShortAlarm alarm → AreSavable (alarm_items alarm)
alarm_savable alarm valid savable =
    items_savable (Num alarm.at) (Num alarm.sum ∷ key_items alarm.key) tt
    (items_savable (Num alarm.sum) (key_items alarm.key) tt (key_savable alarm.key tt savable))

-- three items for each key of a part
rows_length : (rows : List KeyCount) → length (flat_map key_count_items rows) ≡ 3 * length rows
rows_length [] = omega arith
rows_length (row ∷ rows) =
    let rest = rows_length rows in
    let both = length-append (key_count_items row) (flat_map key_count_items rows) in
    omega arith

-- and one for each part
parts_length : (parts : List (List KeyCount)) → length (flat_map window_part_items parts)
    ≡ length parts + 3 * sum_by (λ (rows : List KeyCount). length rows) parts
parts_length [] = omega arith
parts_length (rows ∷ parts) =
    let rest = parts_length parts in
    let here = rows_length rows in
    let both = length-append (window_part_items rows) (flat_map window_part_items parts) in
    let sum = sum_by-cons (λ (row : List KeyCount). length row) rows parts in
    omega arith

-- four for each alarm
alarms_length : (alarms : List Alarm) → length (flat_map alarm_items alarms) ≡ 4 * length alarms
alarms_length [] = omega arith
alarms_length (alarm ∷ alarms) =
    let rest = alarms_length alarms in
    let both = length-append (alarm_items alarm) (flat_map alarm_items alarms) in
    omega arith

-- one or two for a time that may be missing
last_length : (last : Option ℕ) → length (option_items number_items last) ≤ 2
last_length None = omega arith
last_length (Some at) = omega arith

-- the items of a watch, counted
watch_length : (watch : WatchContents) → length (watch_items watch)
    ≡ 7 + length (option_items number_items watch.last) + length watch.tables
    + 3 * sum_by (λ (rows : List KeyCount). length rows) (window_rows watch.tables) + 4 * length watch.listed
watch_length watch =
    let parts = parts_length (window_rows watch.tables) in
    let tables = length-map watch.tables (λ (table : KeyCounts). table.rows) in
    let alarms = alarms_length watch.listed in
    let last = length-append (option_items number_items watch.last) (Num watch.not_kept
    ∷ (list_items window_part_items (window_rows watch.tables) ++ list_items alarm_items watch.listed)) in
    let both = length-append (list_items window_part_items (window_rows watch.tables))
    (list_items alarm_items watch.listed) in
    omega arith

-- a watch is a head of nineteen items, and three or four for each entry
pub watch_bounded : (watch : WatchContents) → IsWholeWatch watch
    → length (watch_items watch) ≤ most_items 19 (watch_entries watch)
watch_bounded watch valid =
    let items = watch_length watch in
    let last = last_length watch.last in
    let parts = valid.is_watch.parts in
    let most = valid.is_watch.spec.few_parts in
    omega arith

-- an entry is more than an item
pub watch_few : (watch : WatchContents) → watch_entries watch ≤ length (watch_items watch)
watch_few watch = let items = watch_length watch in omega arith

-- a watch whose keys can be spelled
pub watch_savable : (watch : WatchContents) → IsWholeWatch watch → IsSavableWatch watch → AreSavable (watch_items watch)
watch_savable watch valid savable =
    let part = list_savable key_count_items (IsValidPair Anything Anything) IsShortCount
    (pair_savable key_items number_items Anything Anything IsShortKey Anything key_savable number_savable) in
    let parts = list_savable window_part_items (All (IsValidPair Anything Anything)) (All IsShortCount) part
    (window_rows watch.tables) (λ i rows less. λ j row below. (tt, tt)) savable.rows in
    let alarms = list_savable alarm_items Anything IsShortAlarm alarm_savable watch.listed (λ i alarm less. tt)
    savable.listed in
    let both = All-append IsSavable (list_items window_part_items (window_rows watch.tables))
    (list_items alarm_items watch.listed) parts alarms in
    let rows_and_alarms = list_items window_part_items (window_rows watch.tables)
    ++ list_items alarm_items watch.listed in
    let others = items_savable (Num watch.not_kept) rows_and_alarms tt both in
    let last = option_savable number_items Anything Anything number_savable watch.last (λ i at less. tt)
    (λ i at less. tt) in
    let after_alert = All-append IsSavable (option_items number_items watch.last)
    (Num watch.not_kept ∷ rows_and_alarms) last others in
    let rest = option_items number_items watch.last ++ (Num watch.not_kept ∷ rows_and_alarms) in
    items_savable (Num watch.spec.bound)
    (Num watch.spec.parts ∷ Num watch.spec.threshold ∷ Num watch.spec.refractory ∷ rest) tt
    (items_savable (Num watch.spec.parts) (Num watch.spec.threshold ∷ Num watch.spec.refractory ∷ rest) tt
    (items_savable (Num watch.spec.threshold) (Num watch.spec.refractory ∷ rest) tt
    (items_savable (Num watch.spec.refractory) rest tt after_alert)))
