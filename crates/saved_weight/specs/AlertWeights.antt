-- What an alert weighs after some steps: the keys in the parts of its window, and its listed alarms.
use Rattle.std.specs.Prelude.{ℕ, ◌+◌, List, ◌∷◌, map, take, Option, Some, None, slice_get}
use Rattle.std.specs.List.{sum_by}
use Rattle.alert_watch.specs.Windows.{Notice, Arrival, AlertBooks, most_alarms, alert_books}
use Rattle.alert_watch.specs.declared.alarm.Alarm.{Alarm}
use Rattle.bucket_meaning.specs.Guard.{admitted, arrival_key}
use Rattle.config_links.specs.declared.linked.LAlert.{LAlert}
use Rattle.config_links.specs.declared.linked.LKind.{LKind}
use Rattle.config_links.specs.declared.linked.LKind.TheVariants.{Count}
use Rattle.config_links.specs.declared.linked.LMetric.{LMetric}
use Rattle.config_types.specs.declared.parameters.AlertSpec.{AlertSpec}
use Rattle.metric_kinds.specs.Keys.{is_same_key}
use Rattle.metric_meaning.specs.AlertSteps.{notices_by}
use Rattle.metric_meaning.specs.Histories.{Step, Installation}
use Rattle.saved_weight.specs.Entries.{key_entry}

-- the keys that came in a part of a window and were admitted, each an entry
abbrev pub part_weight : ℕ → List Arrival → ℕ
part_weight bound part = sum_by key_entry (admitted is_same_key bound (map arrival_key part))

-- an alarm is an entry, with its key
abbrev pub alarm_entry : Alarm → ℕ
alarm_entry alarm = key_entry alarm.key

-- the parts of a window, and the alarms that the next report lists
abbrev pub window_weight : AlertSpec → AlertBooks → ℕ
window_weight spec books =
    sum_by (part_weight spec.bound) (take spec.parts (books.current ∷ books.closed))
    + sum_by alarm_entry (take most_alarms books.untold)

-- what an alert weighs that was told this
abbrev pub watch_weight : AlertSpec → List Notice → ℕ
watch_weight spec notices = window_weight spec (alert_books spec notices)

-- an alert on a metric of a kind: one that doesn't count atoms is told nothing
abbrev pub watched_as : Installation → List Step → AlertSpec → LMetric → LKind → ℕ
watched_as installed steps spec metric (Count overflow) = watch_weight spec (notices_by installed metric steps)
watched_as installed steps spec metric _ = 0

-- one on a metric that may be missing
abbrev pub found_weight : Installation → List Step → AlertSpec → Option LMetric → ℕ
found_weight installed steps spec None = 0
found_weight installed steps spec (Some metric) = watched_as installed steps spec metric metric.kind

-- an alert of the configuration, whose metric stands at a place
abbrev pub alert_weight : Installation → List Step → LAlert → ℕ
alert_weight installed steps alert =
    found_weight installed steps alert.spec (slice_get installed.linked.metrics alert.metric)
