-- The items of alarms and of watches, which watches there are, and what building one answers.
use Rattle.std.specs.Prelude.{◌≡◌, ◌≢◌, ℕ, ◌+◌, ◌≤◌, List, [], ◌∷◌, ◌++◌, map, length, All, AllPairs, Option, Some, None, Result, Ok, Err}
use Rattle.std.specs.List.{sum_by}
use Rattle.std.specs.Map.{keys_of}
use Rattle.atom_record.specs.declared.value.MetricKey.{MetricKey}
use Rattle.config_types.specs.declared.parameters.AlertSpec.{AlertSpec}
use Rattle.config_types.specs.AlertSpecs.{IsAlertSpec}
use Rattle.flat_form.specs.declared.item.Item.{Item}
use Rattle.flat_form.specs.declared.item.Item.TheVariants.{Num}
use Rattle.flat_form.specs.declared.flat_error.FlatError.{FlatError}
use Rattle.flat_form.specs.declared.flat_error.FlatError.TheVariants.{Bad, Memory}
use Rattle.flat_form.specs.Flat.{Anything, IsValidPair, number_items, option_items, key_items, pair_items, list_items}
use Rattle.flat_form.specs.Savable.{IsShortKey}
use Rattle.alert_watch.specs.declared.alarm.Alarm.{Alarm}
use Rattle.alert_watch.specs.Watches.{KeyCounts, WatchContents, IsWatch}

-- an alarm is its time, its sum and its key
abbrev pub alarm_items : Alarm → List Item
alarm_items alarm = Num alarm.at ∷ Num alarm.sum ∷ key_items alarm.key

-- the key of an alarm can be spelled
abbrev pub IsShortAlarm : Alarm → Type 0
IsShortAlarm alarm = IsShortKey alarm.key

-- a key that came in a part, and how often it came
abbrev pub KeyCount : Type 0
KeyCount = MetricKey × ℕ

-- a key and its number
abbrev pub key_count_items : KeyCount → List Item
key_count_items = pair_items key_items number_items

-- a key that can be spelled, with its number
abbrev pub IsShortCount : KeyCount → Type 0
IsShortCount = IsValidPair IsShortKey Anything

-- a part is the number of its keys, and these
abbrev pub window_part_items : List KeyCount → List Item
window_part_items = list_items key_count_items

-- the rows of each table
abbrev pub window_rows : List KeyCounts → List (List KeyCount)
window_rows tables = map (λ (table : KeyCounts). table.rows) tables

-- the four numbers of an alert
abbrev pub alert_items : AlertSpec → List Item
alert_items spec = Num spec.bound ∷ Num spec.parts ∷ Num spec.threshold ∷ Num spec.refractory ∷ []

-- the parts of a window, and the alarms that are listed
abbrev pub watch_list_items : List KeyCounts → List Alarm → List Item
watch_list_items tables alarms =
    list_items window_part_items (window_rows tables) ++ list_items alarm_items alarms

-- a watch is its alert; when its last alarm came, if one did; how many alarms aren't listed; the parts of its window;
-- and the alarms that are listed
abbrev pub watch_items : WatchContents → List Item
watch_items watch =
    alert_items watch.spec ++ (option_items number_items watch.last
    ++ (Num watch.not_kept ∷ watch_list_items watch.tables watch.listed))

-- so many keys may come in a part, each of them once
pub record FitsPartTable (bound : ℕ) (rows : List KeyCount) : Type 0 where
  pub within : length rows ≤ bound
  pub distinct : AllPairs (λ one other. one ≢ other) (keys_of rows)

-- the rows of each table are those that a table may have
pub record IsWholeWatch (watch : WatchContents) : Type 0 where
  pub is_watch : IsWatch watch
  pub rows : All (FitsPartTable watch.spec.bound) (window_rows watch.tables)

-- the keys of a watch can be spelled
pub record IsSavableWatch (watch : WatchContents) : Type 0 where
  pub rows : All (All IsShortCount) (window_rows watch.tables)
  pub listed : All IsShortAlarm watch.listed

-- each key of a part and each alarm that is listed is an entry
abbrev pub watch_entries : WatchContents → ℕ
watch_entries watch = sum_by (λ (rows : List KeyCount). length rows) (window_rows watch.tables) + length watch.listed

-- the bound and the parts of an alert, and its threshold and refractory time
abbrev pub AlertNumbers : Type 0
AlertNumbers = (ℕ × ℕ) × (ℕ × ℕ)

-- the numbers of an alert
abbrev pub alert_numbers : AlertSpec → AlertNumbers
alert_numbers spec = ((spec.bound, spec.parts), (spec.threshold, spec.refractory))

-- the alert with these numbers
abbrev pub alert_with : AlertNumbers → AlertSpec
alert_with numbers = record {
  bound = numbers.0.0;
  parts = numbers.0.1;
  threshold = numbers.1.0;
  refractory = numbers.1.1;
}

-- what building an alert of its numbers answers: the alert, or that no alert may have them
abbrev pub BuildsAlert : AlertNumbers → Option AlertSpec → Type 0
BuildsAlert numbers (Some spec) = (spec ≡ alert_with numbers) × IsAlertSpec spec
BuildsAlert numbers None = ¬ (IsAlertSpec (alert_with numbers))

-- what is saved of a watch
abbrev pub WatchForm : Type 0
WatchForm = AlertNumbers × (Option ℕ × (ℕ × (List (List KeyCount) × List Alarm)))

-- that of a watch
abbrev pub watch_form : WatchContents → WatchForm
watch_form watch =
    (alert_numbers watch.spec, (watch.last, (watch.not_kept, (window_rows watch.tables, watch.listed))))

-- a table of these rows
abbrev pub part_table : ℕ → List KeyCount → KeyCounts
part_table bound rows = record { rows = rows; bound = bound; dropped = 0 }

-- what building a table of rows answers: the table, or that no table may have them
abbrev pub BuildsTable : ℕ → List KeyCount → Result KeyCounts FlatError → Type 0
BuildsTable bound rows (Ok table) = (table ≡ part_table bound rows) × FitsPartTable bound rows
BuildsTable bound rows (Err Bad) = ¬ (FitsPartTable bound rows)
BuildsTable bound rows (Err Memory) = Unit {0}

-- the same of the tables of a window
abbrev pub BuildsTables : ℕ → List (List KeyCount) → Result (List KeyCounts) FlatError → Type 0
BuildsTables bound parts (Ok tables) = (tables ≡ map (part_table bound) parts) × All (FitsPartTable bound) parts
BuildsTables bound parts (Err Bad) = ¬ (All (FitsPartTable bound) parts)
BuildsTables bound parts (Err Memory) = Unit {0}

-- what building a watch of what was saved answers: the watch, or that nothing of the kind was saved of one
abbrev pub BuildsWatch : WatchForm → Result WatchContents FlatError → Type 0
BuildsWatch form (Ok watch) = IsWholeWatch watch × (watch_form watch ≡ form)
BuildsWatch form (Err Bad) = (watch : WatchContents) → IsWholeWatch watch → ¬ (watch_form watch ≡ form)
BuildsWatch form (Err Memory) = Unit {0}
