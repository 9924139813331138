-- What the alerts of a metric of counts are told at each step, and the alarms of an alert.
use Rattle.std.specs.Prelude.{ℕ, Bool, List, [], ◌∷◌, ◌++◌, replicate, if◌then◌else◌, Option, Some, None}
use Rattle.std.specs.List.{flat_map}
use Rattle.std.specs.Option.{option_map}
use Rattle.alert_watch.specs.Windows.{Arrival, Notice, KeyArrived, PartsEnded, AlarmsTold, alarms_told}
use Rattle.alert_watch.specs.declared.alarm.Alarms.{Alarms}
use Rattle.atom_record.specs.declared.value.MetricKey.{MetricKey}
use Rattle.bucket_meaning.specs.Marks.{Mark, Ends, Came, Lost, Missed, Asked}
use Rattle.config_links.specs.declared.linked.LMetric.{LMetric}
use Rattle.config_types.specs.declared.parameters.AlertSpec.{AlertSpec}
use Rattle.metric_meaning.specs.CountSteps.{arrival_at}
use Rattle.metric_meaning.specs.Histories.{Step, Installation}
use Rattle.metric_meaning.specs.StepMarks.{arrivals_alone, marks_of}

-- the key that arrives at a step after others, with its time
abbrev pub timed_arrival : Installation → LMetric → List Step → Step → Option Arrival
timed_arrival installed metric before step =
    option_map (λ (key : MetricKey). (key, step.at)) (arrival_at installed metric before step)

-- what an alert is told of what happens to its metric: each end, also that of a cut, ends one part
abbrev pub notices_of : Mark Arrival → List Notice
notices_of (Ends at) = PartsEnded 1 ∷ []
notices_of (Came arrival) = KeyArrived arrival.1 arrival.0 ∷ []
notices_of Lost = []
notices_of Missed = []
notices_of Asked = AlarmsTold ∷ []

-- all that an alert is told by these steps
abbrev pub notices_by : Installation → LMetric → List Step → List Notice
notices_by installed metric steps =
    flat_map notices_of (marks_of (arrivals_alone (timed_arrival installed metric)) installed.base metric.size steps)

-- the alarms of an alert that a report tells which is made after these steps: its own cut sets off none
abbrev pub alarms_by : Installation → LMetric → AlertSpec → List Step → Alarms
alarms_by installed metric spec steps = alarms_told spec (notices_by installed metric steps)

-- so many ends of parts, one after the other
abbrev pub ended_notices : ℕ → List Notice
ended_notices ended = replicate ended (PartsEnded 1)

-- the key that arrives at a time, if one does
abbrev pub arrived_notices : ℕ → Option MetricKey → List Notice
arrived_notices at None = []
arrived_notices at (Some key) = KeyArrived at key ∷ []

-- what a frame tells: so many ends, and then the key that arrives
abbrev pub frame_notices : ℕ → ℕ → Option MetricKey → List Notice
frame_notices ended at key = ended_notices ended ++ arrived_notices at key

-- what a report tells: the end of the part that it cuts, if it does, and that it tells the alarms
abbrev pub report_notices : Bool → List Notice
report_notices include_current = (if include_current then PartsEnded 1 ∷ [] else []) ++ AlarmsTold ∷ []
