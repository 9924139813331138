-- What a report shows of the alerts of a configuration.
use Rattle.std.specs.Prelude.{ℕ, ℤ, List, [], ◌∷◌, map, nat_lt, if◌then◌else◌, Option, Some, None, slice_get}
use Rattle.alert_watch.specs.declared.alarm.Alarm.{Alarm}
use Rattle.alert_watch.specs.declared.alarm.Alarms.{Alarms}
use Rattle.config_links.specs.declared.linked.LAlert.{LAlert}
use Rattle.config_links.specs.declared.linked.LKind.{LKind}
use Rattle.config_links.specs.declared.linked.LKind.TheVariants.{Count}
use Rattle.config_links.specs.declared.linked.LMetric.{LMetric}
use Rattle.config_types.specs.declared.parameters.AlertSpec.{AlertSpec}
use Rattle.report_writer.specs.declared.tree.AlarmTree.{AlarmTree}
use Rattle.report_writer.specs.declared.tree.Drop64.{Drop64}
use Rattle.metric_meaning.specs.AlertSteps.{alarms_by}
use Rattle.metric_meaning.specs.Histories.{Step, Installation}
use Rattle.metric_meaning.specs.KeyTrees.{key_trees}

-- no alarms
abbrev pub no_alarms : Alarms
no_alarms = record { listed = []; not_kept = 0 }

-- the alarms of an alert on a metric: one that doesn't count atoms sets off none
abbrev pub alarms_of : Installation → List Step → AlertSpec → LMetric → Alarms
alarms_of installed steps spec metric = of_kind metric.kind where
  of_kind : LKind → Alarms
  of_kind (Count overflow) = alarms_by installed metric spec steps
  of_kind _ = no_alarms

-- those of one on a metric that may be missing
abbrev pub alarms_of_found : Installation → List Step → AlertSpec → Option LMetric → Alarms
alarms_of_found installed steps spec None = no_alarms
alarms_of_found installed steps spec (Some metric) = alarms_of installed steps spec metric

-- the alarms of an alert of the configuration, whose metric stands at a place
abbrev pub alarms_on : Installation → List Step → LAlert → Alarms
alarms_on installed steps alert =
    alarms_of_found installed steps alert.spec (slice_get installed.linked.metrics alert.metric)

-- an alarm of the alert with this id, as a report shows it
abbrev pub alarm_tree : ℤ → Alarm → AlarmTree
alarm_tree id alarm = record {
  id = id;
  at = alarm.at;
  sum = alarm.sum;
  leaves = key_trees 0 alarm.key.dims;
  slices = alarm.key.slices;
}

-- how many alarms of the alert with this id aren't listed, where there are such
abbrev pub drops_shown : ℤ → ℕ → List Drop64
drops_shown id number = if nat_lt 0 number then record { id = id; number = number } ∷ [] else []

-- what a report lists of an alert
abbrev pub alarm_trees : Installation → List Step → LAlert → List AlarmTree
alarm_trees installed steps alert = map (alarm_tree alert.id) (alarms_on installed steps alert).listed

-- and how many alarms of it the report doesn't list
abbrev pub alarm_drops : Installation → List Step → LAlert → List Drop64
alarm_drops installed steps alert = drops_shown alert.id (alarms_on installed steps alert).not_kept
