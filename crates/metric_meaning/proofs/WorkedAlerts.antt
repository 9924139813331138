-- Worked histories of alerts, by computing.
use Rattle.std.proofs.Common.{◌≡◌, ℕ, pos, Bool, true, false, List, [], ◌∷◌, ◌++◌, refl}
use Rattle.alert_watch.specs.declared.alarm.Alarm.{Alarm}
use Rattle.atom_record.specs.declared.value.Value.TheVariants.{Str}
use Rattle.atom_record.specs.declared.value.Leaf.TheVariants.{One}
use Rattle.config_types.specs.declared.parameters.AlertSpec.{AlertSpec}
use Rattle.report_writer.specs.declared.tree.MetricBody.TheVariants.{Counts}
use Rattle.report_writer.specs.declared.tree.MetricTree.{MetricTree}
use Rattle.report_writer.specs.declared.tree.ReportTree.{ReportTree}
use Rattle.metric_meaning.specs.AlarmTrees.{drops_shown}
use Rattle.metric_meaning.specs.AlertSteps.{alarms_by}
use Rattle.metric_meaning.specs.Histories.{Step, Installation}
use Rattle.metric_meaning.specs.Reports.{report_of}
use Rattle.metric_meaning.proofs.WorkedHistories.{guarded, under, texted, pull, tick, asked, text_leaf, bucket}

-- an alert over two parts of two keys at most, which tells of more than so many, with a refractory time
abbrev alert : ℕ → ℕ → AlertSpec
alert threshold refractory = record { bound = 2; parts = 2; threshold = threshold; refractory = refractory }

abbrev alarm : ℕ → ℕ → ℕ → Alarm
alarm at sum letter = record { at = at; sum = sum; key = record { dims = One (Str (letter ∷ [])) ∷ []; slices = [] } }

-- two arrivals in one bucket, two in the next and one in the one after that
abbrev steps : List Step
steps = texted 1 65 ∷ texted 2 65 ∷ texted 1001 65 ∷ texted 1002 65 ∷ texted 2001 65 ∷ []

-- the sum is that of two parts; the arrival at 1,002 comes too soon after the alarm, and that at 2,001 at its end
two_alarms : alarms_by (under []) guarded (alert 2 1000) steps
    ≡ record { listed = alarm 1001 3 65 ∷ alarm 2001 3 65 ∷ []; not_kept = 0 }
two_alarms = refl

-- without a refractory time each arrival above the threshold is an alarm
three_alarms : alarms_by (under []) guarded (alert 2 0) steps
    ≡ record { listed = alarm 1001 3 65 ∷ alarm 1002 4 65 ∷ alarm 2001 3 65 ∷ []; not_kept = 0 }
three_alarms = refl

-- a sum at the threshold is none
no_alarm : alarms_by (under []) guarded (alert 4 0) steps ≡ record { listed = []; not_kept = 0 }
no_alarm = refl

-- a report without a cut ends no part, and tells an alarm once
told_once : alarms_by (under []) guarded (alert 2 0)
    (texted 1 65 ∷ texted 2 65 ∷ texted 3 65 ∷ asked 3 false ∷ texted 4 65 ∷ [])
    ≡ record { listed = alarm 4 4 65 ∷ []; not_kept = 0 }
told_once = refl

-- a cut ends a part of the window
cut_ends : alarms_by (under []) guarded (alert 2 0)
    (texted 1 65 ∷ texted 2 65 ∷ asked 3 true ∷ texted 4 65 ∷ asked 5 true ∷ texted 6 65 ∷ texted 7 65 ∷ [])
    ≡ record { listed = alarm 7 3 65 ∷ []; not_kept = 0 }
cut_ends = refl

-- a pull at the end of a bucket ends no part, and a jump ends all parts that it crosses
after_a_jump : alarms_by (under []) guarded (alert 2 0)
    (texted 1 65 ∷ texted 2 65 ∷ pull 1000 ∷ tick 2000 ∷ texted 2001 65 ∷ [])
    ≡ record { listed = []; not_kept = 0 }
after_a_jump = refl

-- a third key finds no room, however often it comes
no_room : alarms_by (under []) guarded (alert 2 1000)
    (texted 1 65 ∷ texted 2 66 ∷ texted 3 67 ∷ texted 4 67 ∷ texted 5 67 ∷ texted 6 66 ∷ texted 7 66 ∷ [])
    ≡ record { listed = alarm 7 3 66 ∷ []; not_kept = 0 }
no_room = refl

-- a metric that isn't shown has alerts, too
of_a_hidden_metric : alarms_by (under []) (record guarded { shown = false }) (alert 2 1000) steps
    ≡ record { listed = alarm 1001 3 65 ∷ alarm 2001 3 65 ∷ []; not_kept = 0 }
of_a_hidden_metric = refl

-- the configuration of this metric, shown or not, with an alert on it, and one on a metric that isn't there
abbrev alerted : Bool → Installation
alerted shown = record {
  base = 0;
  opening = [];
  linked = record {
    matchers = [];
    predicates = [];
    states = [];
    metrics = record guarded { shown = shown } ∷ [];
    alerts = record { id = pos 200; metric = 0; spec = alert 2 1000 }
        ∷ record { id = pos 201; metric = 1; spec = alert 0 0 } ∷ [];
  };
}

-- the report of these steps without a cut, which shows these metrics
abbrev told_with : List MetricTree → ReportTree
told_with metrics = record {
  uid = pos 10;
  id = pos 7;
  last = 0;
  now = 2001;
  metrics = metrics;
  predicate_drops = [];
  state_drops = [];
  state_atoms_dropped = 0;
  alarms = record { id = pos 200; at = 1001; sum = 3; leaves = text_leaf 65 ∷ []; slices = [] }
      ∷ record { id = pos 200; at = 2001; sum = 3; leaves = text_leaf 65 ∷ []; slices = [] } ∷ [];
  alarms_not_kept = [];
}

-- a report lists the alarms beside the rows, with the key as a row shows it
beside_the_rows : report_of (record { installed = alerted true; steps = steps }) (pos 10) (pos 7) false 2001
    ≡ told_with (record {
      id = pos 100;
      base = 0;
      size = 1000;
      dropped = 0;
      not_kept = 0;
      missing = 0;
      body = Counts (record {
        leaves = text_leaf 65 ∷ [];
        slices = [];
        overflow = false;
        buckets = bucket 0 1000 (pos 2) ∷ bucket 1000 2000 (pos 2) ∷ [];
      } ∷ []);
    } ∷ [])
unfolding report_of
beside_the_rows = refl

-- also those of a metric that isn't shown
without_the_rows : report_of (record { installed = alerted false; steps = steps }) (pos 10) (pos 7) false 2001
    ≡ told_with []
unfolding report_of
without_the_rows = refl

-- the number of those that aren't listed is shown where there are such
others_counted : drops_shown (pos 200) 3 ++ drops_shown (pos 201) 0 ≡ record { id = pos 200; number = 3 } ∷ []
others_counted = refl
