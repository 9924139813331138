-- What arrives where an interval of pulled values ends: the difference of each key's sums at its beginning and its end.
use Rattle.std.specs.Prelude.{ℤ, pos, ◌-ℤ◌, int_le, Bool, true, false, List, [], ◌∷◌, map, Option, Some, None, if◌then◌else◌}
use Rattle.std.specs.Int.{w128, saturate_signed}
use Rattle.std.specs.List.{flat_map}
use Rattle.std.specs.Map.{lookup}
use Rattle.std.specs.Option.{option_and_then}
use Rattle.atom_record.specs.declared.value.MetricKey.{MetricKey}
use Rattle.config_types.specs.declared.metric.Aggregation.TheVariants.{Sum}
use Rattle.config_types.specs.declared.metric.Direction.{Direction}
use Rattle.config_types.specs.declared.metric.Direction.TheVariants.{Increasing, Decreasing, Any}
use Rattle.config_types.specs.declared.parameters.DiffSpec.{DiffSpec}
use Rattle.bucket_meaning.specs.Marks.{Mark, Came, Missed}
use Rattle.bucket_meaning.specs.Guard.{firsts, of_key, arrival_key}
use Rattle.metric_kinds.specs.Keys.{is_same_key}
use Rattle.metric_kinds.specs.Intervals.{Interval}
use Rattle.metric_kinds.specs.Values.{aggregate_of}

-- The integers that a snapshot gives, each with its key, in the snapshot's order.
abbrev pub KeyedInts : Type 0
KeyedInts = List (MetricKey × ℤ)

-- each key of a snapshot once, where it first comes, with the sum of its integers
abbrev pub key_sums : KeyedInts → KeyedInts
key_sums integers =
    map (λ key. (key, aggregate_of Sum (of_key is_same_key key integers)))
    (firsts is_same_key [] (map arrival_key integers))

-- the sum with which a key began; one that wasn't there began with 0 where new keys do so, and else with none
abbrev pub start_sum : Bool → Option ℤ → Option ℤ
start_sum zero_base (Some sum) = Some sum
start_sum true None = Some (pos 0)
start_sum false None = None

-- how far it is from one integer up to another; it stands still at the ends of a number of 128 bits
abbrev pub growth : ℤ → ℤ → ℤ
growth low high = saturate_signed w128 (high -ℤ low)

-- the difference of a value that was reset, since it went the other way: the whole value where that is asked for, and
-- else there is none
abbrev pub reset_diff : Bool → ℤ → Option ℤ
reset_diff abs_reset end = if abs_reset then Some end else None

-- the difference of a start and an end, by the way in which values go
abbrev pub diff_by : Direction → Bool → ℤ → ℤ → Option ℤ
diff_by Increasing abs_reset start end = if int_le start end then Some (growth start end) else reset_diff abs_reset end
diff_by Decreasing abs_reset start end = if int_le end start then Some (growth end start) else reset_diff abs_reset end
diff_by Any abs_reset start end = Some (growth start end)

-- a key with its difference, if it has one
abbrev pub keyed_diff : MetricKey → Option ℤ → KeyedInts
keyed_diff key None = []
keyed_diff key (Some diff) = (key, diff) ∷ []

-- the difference of one of the keys at the end, where the interval began with these sums
abbrev pub key_diff : DiffSpec → KeyedInts → MetricKey × ℤ → KeyedInts
key_diff spec starts end = keyed_diff end.0
    (option_and_then (λ start. diff_by spec.direction spec.abs_reset start end.1)
    (start_sum spec.zero_base (lookup (is_same_key end.0) starts)))

-- what an interval gives that began and ended with these snapshots: the differences of the keys of its end, of which
-- one of 0 arrives like others; if one of the snapshots isn't there, one was missed
abbrev pub diff_marks : DiffSpec → Option KeyedInts → Option KeyedInts → List (Mark (MetricKey × ℤ))
diff_marks spec (Some start) (Some end) = map Came (flat_map (key_diff spec (key_sums start)) (key_sums end))
diff_marks spec _ _ = Missed ∷ []

-- what an interval gives
abbrev pub interval_marks : DiffSpec → Interval (Option KeyedInts) → List (Mark (MetricKey × ℤ))
interval_marks spec interval = diff_marks spec interval.begun interval.ended
