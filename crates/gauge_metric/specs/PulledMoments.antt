-- The moments of a part, read as a whole: in the mode for starts a part is sampled where its intervals begin.
use Rattle.std.specs.Prelude.{◌≡◌, Bool, true, false, List, [], ◌∷◌, ◌++◌, Option}
use Rattle.std.specs.List.{flat_map, AllByRecursion}
use Rattle.sd_base.specs.Outputs.{outputs_after}
use Rattle.atom_record.specs.declared.atom.Atom.{Atom}
use Rattle.atom_record.specs.declared.value.MetricKey.{MetricKey}
use Rattle.bucket_meaning.specs.Marks.{Mark}
use Rattle.metric_producer.specs.Calls.{Got, Learned}
use Rattle.metric_producer.specs.Collecting.{call_marks}
use Rattle.metric_kinds.specs.Intervals.{Interval, Seen}
use Rattle.gauge_metric.specs.declared.gauge.KeyedAtom.{KeyedAtom}
use Rattle.gauge_metric.specs.PulledSampling.{PulledGaugeParams, PulledGaugeCall, last_snapshot, last_condition, is_told_held, is_start_moment, moment_marks, marks_if, pulled_collecting}

-- what stands after these calls: whether the condition is true, and the last snapshot
abbrev pub sampled_after : List PulledGaugeCall → Seen (Option (List KeyedAtom))
sampled_after calls = record { holds = is_told_held (last_condition calls); found = last_snapshot calls }

-- what stands after each of these calls, with others before them
abbrev pub seen_in_part : List PulledGaugeCall → List PulledGaugeCall → List (Seen (Option (List KeyedAtom)))
seen_in_part before calls = outputs_after (λ seen call. sampled_after (seen ++ call ∷ []) ∷ []) before calls

-- the samples that are taken where these intervals begin
abbrev pub begun_marks : List (Interval (Option (List KeyedAtom))) → List (Mark (MetricKey × Atom))
begun_marks intervals = flat_map (λ interval. moment_marks interval.begun) intervals

-- a call within a part: an event or a condition
abbrev pub is_in_part : PulledGaugeCall → Bool
is_in_part (Got at event) = true
is_in_part (Learned at now) = true
is_in_part _ = false

-- these calls all come within a part
abbrev pub AreInPart : List PulledGaugeCall → Type 0
AreInPart calls = AllByRecursion (λ call. is_in_part call ≡ true) calls

-- what is sampled in a part that begins after some calls and in which these come
abbrev pub part_marks : PulledGaugeParams → List PulledGaugeCall → List PulledGaugeCall → List (Mark (MetricKey × Atom))
part_marks params before calls =
    marks_if (is_start_moment params.spec.mode (last_condition before)) (last_snapshot before)
    ++ outputs_after (call_marks pulled_collecting params) before calls
