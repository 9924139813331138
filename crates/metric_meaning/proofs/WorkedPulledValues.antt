-- Worked histories of pulled values, by computing.
use Rattle.std.proofs.Common.{◌≡◌, ℕ, ◌*◌, ℤ, pos, negsuc, Bool, true, false, List, [], ◌∷◌, Option, Some, None, refl}
use Rattle.atom_record.specs.declared.value.MetricKey.{MetricKey}
use Rattle.atom_record.specs.declared.log.LogFrame.TheVariants.{Pull}
use Rattle.atom_record.specs.declared.log.PullOutcome.TheVariants.{Atoms}
use Rattle.config_types.specs.declared.metric.Aggregation.TheVariants.{Sum, Min, Max}
use Rattle.config_types.specs.declared.metric.Direction.TheVariants.{Increasing, Decreasing, Any}
use Rattle.config_types.specs.declared.parameters.DiffSpec.{DiffSpec}
use Rattle.config_types.specs.declared.matcher.FieldTest.{FieldTest}
use Rattle.config_types.specs.declared.matcher.Test.TheVariants.{GtInt}
use Rattle.config_types.specs.declared.matcher.Test.TheViews.{out-Test}
use denote.Hole.Carrier.{out}
use Rattle.bucket_meaning.specs.Kept.{Taken}
use Rattle.config_links.specs.declared.linked.LMetric.{LMetric}
use Rattle.config_links.specs.declared.linked.LKind.TheVariants.{PulledValue}
use Rattle.metric_producer.specs.declared.row.Row.{Row}
use Rattle.metric_meaning.specs.Histories.{Step, Installation}
use Rattle.metric_meaning.specs.ValueLeaves.{ValueLeaf}
use Rattle.metric_meaning.specs.PulledValueSteps.{pulled_values_shown}
use Rattle.metric_meaning.proofs.WorkedHistories.{tick, asked}
use Rattle.metric_meaning.proofs.WorkedPulls.{told, keyed, gave, failed, pulled_all, pulled, by_key, by_none, metric_of, of_id, watching, after_pulls, starts, stops, key, no_key}

-- the values stand in field 1 of the atoms of an id
abbrev in_field_1 : ℕ → ValueLeaf
in_field_1 id = record { atom_id = id; leaf = record { field = 1; position = None; sub = 0 } }

-- rising values, of which zeros are hidden
abbrev rising : DiffSpec
rising = record { agg = Sum; direction = Increasing; abs_reset = false; skip_zero = true; zero_base = false }

-- a second
abbrev s : ℕ
s = 1000000000

-- a metric of such values under a condition or always, by a key or none, in buckets of this length
abbrev metric : Option ℕ → ℕ → LMetric
metric condition size = metric_of condition by_none size 800 (PulledValue 10001 (in_field_1 10001).leaf rising)

abbrev metric_by_key : Option ℕ → ℕ → ℕ → LMetric
metric_by_key condition size bound =
    metric_of condition by_key size bound (PulledValue 10001 (in_field_1 10001).leaf rising)

-- what is shown of it
abbrev shows : Installation → LMetric → DiffSpec → List Step → Bool → ℕ → Taken (Row ℤ)
shows installed what spec steps include_current now =
    pulled_values_shown installed what (in_field_1 10001) spec steps include_current now

-- rows, and so many missing snapshots; nothing else was dropped
abbrev rows : List (Row ℤ) → ℕ → Taken (Row ℤ)
rows shown missing = record { rows = shown; not_kept = 0; dropped = 0; missing = missing }

abbrev row : MetricKey → ℕ → ℕ → ℤ → Row ℤ
row key start end value = record { key = key; start = start; end = end; value = value }

-- before the installation a pull gave 100
abbrev from_100 : Installation
from_100 = after_pulls (gave 0 (told (pos 100) ∷ []) ∷ [])

-- a pull at the very end of a bucket belongs to it
at_a_buckets_end_pull_before_tick :
    shows from_100 (metric None s) rising (pulled s (pos 130) ∷ tick s ∷ []) false s
    ≡ rows (row no_key 0 s (pos 30) ∷ []) 0
at_a_buckets_end_pull_before_tick = refl

-- after a tick at the end it belongs to the next, and the first has a 0, which is hidden
at_a_buckets_end_pull_after_tick :
    shows from_100 (metric None s) rising (tick s ∷ pulled s (pos 130) ∷ tick (2 * s) ∷ []) false (2 * s)
    ≡ rows (row no_key s (2 * s) (pos 30) ∷ []) 0
at_a_buckets_end_pull_after_tick = refl

-- a failed pull leaves no snapshot, at the end of one interval and at the beginning of the next
abbrev failing : List Step
failing =
    pulled s (pos 130) ∷ tick s ∷ failed (2 * s) ∷ tick (2 * s) ∷ pulled (3 * s) (pos 90) ∷ tick (3 * s)
    ∷ pulled (4 * s) (pos 95) ∷ tick (4 * s) ∷ []

failed_pull :
    shows from_100 (metric None s) rising failing false (4 * s)
    ≡ rows (row no_key 0 s (pos 30) ∷ row no_key (3 * s) (4 * s) (pos 5) ∷ []) 2
failed_pull = refl

failed_pull_with_cut :
    shows from_100 (metric None s) rising failing true (4 * s)
    ≡ rows (row no_key 0 s (pos 30) ∷ row no_key (3 * s) (4 * s) (pos 5) ∷ []) 2
failed_pull_with_cut = refl

-- a value that falls was reset: the whole value counts where that is asked for
abbrev resetting : List Step
resetting = pulled s (pos 130) ∷ tick s ∷ pulled (2 * s) (pos 90) ∷ tick (2 * s) ∷ []

reset_with_absolute_value :
    shows from_100 (metric None s) (record rising { abs_reset = true }) resetting false (2 * s)
    ≡ rows (row no_key 0 s (pos 30) ∷ row no_key s (2 * s) (pos 90) ∷ []) 0
reset_with_absolute_value = refl

-- and else there is no difference, and nothing is missing
reset_without_absolute_value :
    shows from_100 (metric None s) rising resetting false (2 * s) ≡ rows (row no_key 0 s (pos 30) ∷ []) 0
reset_without_absolute_value = refl

-- a cut right behind a full end adds differences of 0 alone
reset_with_absolute_value_with_cut :
    shows from_100 (metric None s) (record rising { abs_reset = true }) resetting true (2 * s)
    ≡ rows (row no_key 0 s (pos 30) ∷ row no_key s (2 * s) (pos 90) ∷ []) 0
reset_with_absolute_value_with_cut = refl

reset_without_absolute_value_with_cut :
    shows from_100 (metric None s) rising resetting true (2 * s) ≡ rows (row no_key 0 s (pos 30) ∷ []) 0
reset_without_absolute_value_with_cut = refl

-- values that fall, and values that go both ways
falling :
    shows from_100 (metric None s) (record rising { direction = Decreasing }) resetting false (2 * s)
    ≡ rows (row no_key s (2 * s) (pos 40) ∷ []) 0
falling = refl

both_ways :
    shows from_100 (metric None s) (record rising { direction = Any }) resetting false (2 * s)
    ≡ rows (row no_key 0 s (pos 30) ∷ row no_key s (2 * s) (negsuc 39) ∷ []) 0
both_ways = refl

-- two keys in one bucket of 10: the key 7 stays at 3, and the key 8 rises from 1 to 6 in two atoms
abbrev two_keys : Installation
two_keys = after_pulls (gave 0 (keyed 7 (pos 3) ∷ keyed 8 (pos 1) ∷ []) ∷ [])

abbrev one_rises : List Step
one_rises = pulled_all 5 (keyed 8 (pos 4) ∷ keyed 7 (pos 3) ∷ keyed 8 (pos 2) ∷ []) ∷ []

-- keys come as they stand in the snapshot at the end, and each has the sum of its atoms
sums_by_key :
    shows two_keys (metric_by_key None 10 800) (record rising { skip_zero = false }) one_rises true 9
    ≡ rows (row (key 8) 0 9 (pos 5) ∷ row (key 7) 0 9 (pos 0) ∷ []) 0
sums_by_key = refl

-- a difference of 0 takes a place, also where it will be hidden
abbrev none_rises_first : List Step
none_rises_first = pulled_all 5 (keyed 7 (pos 3) ∷ keyed 8 (pos 6) ∷ []) ∷ []

a_hidden_zero_takes_a_place :
    shows two_keys (metric_by_key None 10 1) rising none_rises_first true 9
    ≡ record { rows = []; not_kept = 0; dropped = 1; missing = 0 }
a_hidden_zero_takes_a_place = refl

-- a key that was not there at the beginning has no difference, or one from 0; one that isn't there at the end has none
abbrev another_key : List Step
another_key = pulled_all 5 (keyed 9 (pos 4) ∷ []) ∷ []

a_new_key :
    shows two_keys (metric_by_key None 10 800) rising another_key true 9 ≡ rows [] 0
a_new_key = refl

a_new_key_from_0 :
    shows two_keys (metric_by_key None 10 800) (record rising { zero_base = true }) another_key true 9
    ≡ rows (row (key 9) 0 9 (pos 4) ∷ []) 0
a_new_key_from_0 = refl

-- an empty snapshot is one
from_no_atoms :
    shows (after_pulls (gave 0 [] ∷ [])) (metric_by_key None 10 800) (record rising { zero_base = true }) another_key
    true 9
    ≡ rows (row (key 9) 0 9 (pos 4) ∷ []) 0
from_no_atoms = refl

-- under a condition: two intervals in one bucket, by the pulls before and in them
abbrev twice_on : List Step
twice_on =
    starts 1 ∷ pulled 2 (pos 107) ∷ stops 3 ∷ pulled 4 (pos 200) ∷ starts 5 ∷ pulled 6 (pos 203) ∷ stops 7
    ∷ pulled 8 (pos 300) ∷ []

two_intervals :
    shows from_100 (metric (Some 0) 10) rising twice_on true 9 ≡ rows (row no_key 0 9 (pos 10) ∷ []) 0
two_intervals = refl

the_least_of_two :
    shows from_100 (metric (Some 0) 10) (record rising { agg = Min }) twice_on true 9
    ≡ rows (row no_key 0 9 (pos 3) ∷ []) 0
the_least_of_two = refl

the_greatest_of_two :
    shows from_100 (metric (Some 0) 10) (record rising { agg = Max }) twice_on true 9
    ≡ rows (row no_key 0 9 (pos 7) ∷ []) 0
the_greatest_of_two = refl

-- a pull that fails within an interval, and one that comes after it, are no matter
failed_within :
    shows from_100 (metric (Some 0) 10) rising
    (starts 1 ∷ failed 2 ∷ pulled 3 (pos 104) ∷ stops 4 ∷ []) true 9
    ≡ rows (row no_key 0 9 (pos 4) ∷ []) 0
failed_within = refl

-- what is missing is counted where the interval ends, also while the bucket is open, and once for both ends
missing_at_the_end :
    shows (after_pulls []) (metric (Some 0) 10) rising (starts 1 ∷ stops 2 ∷ starts 3 ∷ []) false 3 ≡ rows [] 1
missing_at_the_end = refl

-- each full bucket of a jump misses it again
missing_in_each : shows (after_pulls []) (metric None 10) rising (tick 47 ∷ []) false 47 ≡ rows [] 4
missing_in_each = refl

-- and with a snapshot each of them has a 0, if zeros are shown
zero_in_each :
    shows from_100 (metric None 10) (record rising { skip_zero = false }) (pulled 5 (pos 107) ∷ tick 30 ∷ []) false 30
    ≡ rows (row no_key 0 10 (pos 7) ∷ row no_key 10 20 (pos 0) ∷ row no_key 20 30 (pos 0) ∷ []) 0
zero_in_each = refl

-- the atom that crosses an end and stops the condition ends an interval of no length: its 0 is an arrival
abbrev ended_at_once : List Step
ended_at_once = starts 1 ∷ pulled 5 (pos 104) ∷ stops 10 ∷ tick 20 ∷ []

an_interval_of_no_length :
    shows from_100 (metric (Some 0) 10) (record rising { skip_zero = false }) ended_at_once false 20
    ≡ rows (row no_key 0 10 (pos 4) ∷ row no_key 10 20 (pos 0) ∷ []) 0
an_interval_of_no_length = refl

-- a cut at a full end leaves the end to be crossed, and the part of no length after it has a row
cut_at_a_full_end :
    shows from_100 (metric None 10) (record rising { skip_zero = false })
    (pulled 10 (pos 104) ∷ asked 10 true ∷ tick 10 ∷ []) false 10
    ≡ rows (row no_key 10 10 (pos 0) ∷ []) 0
cut_at_a_full_end = refl

-- an interval goes on over a report without a cut, and one with a cut ends it
over_reports :
    shows from_100 (metric None 10) rising
    (pulled 3 (pos 104) ∷ asked 3 false ∷ pulled 5 (pos 106) ∷ asked 5 true ∷ pulled 7 (pos 109) ∷ []) true 8
    ≡ rows (row no_key 5 8 (pos 3) ∷ []) 0
over_reports = refl

-- the matcher's own tests choose atoms of the snapshot, whatever truths were handed in
abbrev above_2 : FieldTest
above_2 = record { field = Some (pos 1); position = None; test = Some (GtInt (pos 2)) }

only_what_is_meant :
    shows (watching 0 (gave 0 (keyed 7 (pos 3) ∷ keyed 8 (pos 1) ∷ []) ∷ []) (of_id (pos 10001) (above_2 ∷ [])))
    (metric_by_key None 10 800) (record rising { skip_zero = false }) one_rises true 9
    ≡ rows (row (key 7) 0 9 (pos 0) ∷ []) 0
unfolding out-Test out
only_what_is_meant = refl

-- pulls of another id are no snapshot of this one, and values of another id's atoms are none
abbrev other_pulls : Installation
other_pulls = after_pulls (Pull 0 10002 (Atoms (record { id = 10002; fields = [] } ∷ [])) ∷ [])

pulls_of_another_id : shows other_pulls (metric None 10) rising [] true 9 ≡ rows [] 1
pulls_of_another_id = refl

values_of_another_id :
    pulled_values_shown from_100 (metric None 10) (in_field_1 10002) rising (pulled 5 (pos 130) ∷ []) true 9 ≡ rows [] 0
values_of_another_id = refl
