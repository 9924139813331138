-- What a contract sees of a watch, and what a watch stands for.
use Rattle.std.specs.Prelude.{◌≡◌, ℕ, ◌-◌, ◌≤◌, List, [], ◌∷◌, ◌++◌, map, length, take, All, Option, None}
use Rattle.std.specs.List.{last_or}
use Rattle.std.specs.Option.{option_map}
use Rattle.atom_record.specs.declared.value.MetricKey.{MetricKey}
use Rattle.bucket_meaning.specs.Guard.{admitted, of_key, arrival_key}
use Rattle.bucket_meaning.specs.Kept.{count_in_u64}
use Rattle.config_types.specs.declared.parameters.AlertSpec.{AlertSpec}
use Rattle.config_types.specs.AlertSpecs.{IsAlertSpec}
use Rattle.dim_table.specs.Table.{Table}
use Rattle.metric_kinds.specs.Keys.{is_same_key}
use Rattle.alert_watch.specs.declared.alarm.Alarm.{Alarm}
use Rattle.alert_watch.specs.declared.alarm.Alarms.{Alarms}
use Rattle.alert_watch.specs.Windows.{Arrival, Notice, AlertBooks, alert_books, alarms_told, most_alarms}

-- how often each key came in a part
abbrev pub KeyCounts : Type 0
KeyCounts = Table MetricKey ℕ

-- What a watch holds: its alert; a table for each part of the window, the open one first and then the latest; when the
-- last alarm came; the alarms that the next report lists, and how many it only counts.
pub record WatchContents : Type 0 where
  pub spec : AlertSpec
  pub tables : List KeyCounts
  pub last : Option ℕ
  pub listed : List Alarm
  pub not_kept : ℕ

-- a part's table admits as many keys as the metric, and counts no drops: what finds no room isn't put to it
pub record IsPartTable (bound : ℕ) (table : KeyCounts) : Type 0 where
  pub has_bound : table.bound ≡ bound
  pub no_drops : table.dropped ≡ 0

-- the alert is one that there may be, each part of its window has a table, and no more is listed than a report lists
pub record IsWatch (watch : WatchContents) : Type 0 where
  pub spec : IsAlertSpec watch.spec
  pub parts : length watch.tables ≡ watch.spec.parts
  pub tables : All (IsPartTable watch.spec.bound) watch.tables
  pub listed : length watch.listed ≤ most_alarms

-- how many arrivals of a part have a key
abbrev pub number_in_part : List Arrival → MetricKey → ℕ
number_in_part part key = count_in_u64 (length (of_key is_same_key key part))

-- the table has the admitted keys of a part, each with the number of its arrivals
abbrev pub CountsPart : KeyCounts → List Arrival → Type 0
CountsPart table part =
    table.rows ≡ map (λ key. (key, number_in_part part key)) (admitted is_same_key table.bound (map arrival_key part))

-- each table has the numbers of its part; those for which there was no part yet are empty
abbrev pub CountParts : List KeyCounts → List (List Arrival) → Type 0
CountParts [] parts = Unit {0}
CountParts (table ∷ tables) [] = (table.rows ≡ []) × CountParts tables []
CountParts (table ∷ tables) (part ∷ parts) = CountsPart table part × CountParts tables parts

-- the watch holds these books
pub record HasAlertBooks (watch : WatchContents) (books : AlertBooks) : Type 0 where
  pub tables : CountParts watch.tables (books.current ∷ books.closed)
  pub last : watch.last ≡ option_map (λ (alarm : Alarm). alarm.at) (last_or None books.rung)
  pub listed : watch.listed ≡ take most_alarms books.untold
  pub not_kept : watch.not_kept ≡ count_in_u64 (length books.untold - most_alarms)

-- the watch was told these notices since it was made
abbrev pub WatchStandsFor : WatchContents → List Notice → Type 0
WatchStandsFor watch notices = HasAlertBooks watch (alert_books watch.spec notices)

-- whatever notices the old watch stood for, the new one stands for those and this one
abbrev pub TakesNotice : WatchContents → WatchContents → Notice → Type 0
TakesNotice old new notice =
    (notices : List Notice) → WatchStandsFor old notices → WatchStandsFor new (notices ++ notice ∷ [])

-- whatever notices the watch stands for, these are the alarms that a report tells after them
abbrev pub TellsAlarms : WatchContents → Alarms → Type 0
TellsAlarms watch alarms =
    (notices : List Notice) → WatchStandsFor watch notices → alarms ≡ alarms_told watch.spec notices
