-- Worked histories of pulled gauges, by computing.
use Rattle.std.proofs.Common.{◌≡◌, ℕ, ◌+◌, pos, Bool, true, false, List, [], ◌∷◌, ◌++◌, Option, Some, None, refl}
use Rattle.std.specs.Prelude.{map}
use Rattle.std.specs.List.{range_with_len}
use Rattle.atom_record.specs.declared.atom.Atom.{Atom}
use Rattle.atom_record.specs.declared.value.MetricKey.{MetricKey}
use Rattle.atom_record.specs.declared.value.Value.TheVariants.{Int}
use Rattle.atom_record.specs.declared.log.LogFrame.{LogFrame}
use Rattle.atom_record.specs.declared.log.LogFrame.TheVariants.{Pull}
use Rattle.atom_record.specs.declared.log.PullOutcome.TheVariants.{Failed}
use Rattle.field_select.specs.declared.leaf.FieldSet.{FieldSet}
use Rattle.config_types.specs.declared.parameters.Sampling.{Sampling}
use Rattle.config_types.specs.declared.parameters.Sampling.TheVariants.{AtStart, AtChange, AtTrigger}
use Rattle.bucket_meaning.specs.Kept.{Taken}
use Rattle.config_links.specs.declared.linked.LMetric.{LMetric}
use Rattle.config_links.specs.declared.linked.LKind.TheVariants.{PulledGauge}
use Rattle.metric_producer.specs.declared.row.Row.{Row}
use Rattle.metric_meaning.specs.Histories.{Step, Installation}
use Rattle.metric_meaning.specs.PulledGaugeSteps.{pulled_gauge_shown}
use Rattle.metric_meaning.proofs.WorkedHistories.{tick, asked}
use Rattle.metric_meaning.proofs.WorkedPulls.{entry, told, keyed, gave, failed, pulled, by_key, by_none, metric_of, of_id, watching, after_pulls, starts, stops, triggers, key, no_key}

-- a gauge of whole atoms, under a condition or always, by a key or none, with so many keys in a bucket of 10
abbrev gauge : Option ℕ → FieldSet → ℕ → LMetric
gauge condition dims bound = metric_of condition dims 10 bound (PulledGauge None 2 AtStart None)

-- what is shown of it, with so many samples of a key, in a mode; the fourth matcher is its trigger
abbrev trigger_of : Sampling → Option ℕ
trigger_of AtStart = None
trigger_of AtChange = None
trigger_of AtTrigger = Some 3

abbrev shows : Installation → LMetric → ℕ → Sampling → List Step → Bool → ℕ → Taken (Row (List Atom))
shows installed metric samples mode steps include_current now =
    pulled_gauge_shown installed metric None samples mode (trigger_of mode) steps include_current now

-- rows, and so many missing snapshots; nothing else was dropped
abbrev rows : List (Row (List Atom)) → ℕ → Taken (Row (List Atom))
rows shown missing = record { rows = shown; not_kept = 0; dropped = 0; missing = missing }

abbrev row : MetricKey → ℕ → ℕ → List Atom → Row (List Atom)
row key start end atoms = record { key = key; start = start; end = end; value = atoms }

-- before the installation a pull gave 7
abbrev from_7 : Installation
from_7 = after_pulls (gave 0 (told (pos 7) ∷ []) ∷ [])

-- the snapshot of before the installation is sampled at once
pulled_gauge :
    shows from_7 (gauge None by_none 800) 1 AtStart (tick 10 ∷ []) false 10
    ≡ rows (row no_key 0 10 (told (pos 7) ∷ []) ∷ []) 0
pulled_gauge = refl

-- and again where the next part begins, which a cut shows, though it is of no length
pulled_gauge_with_cut :
    shows from_7 (gauge None by_none 800) 1 AtStart (tick 10 ∷ []) true 10
    ≡ rows (row no_key 0 10 (told (pos 7) ∷ []) ∷ row no_key 10 10 (told (pos 7) ∷ []) ∷ []) 0
pulled_gauge_with_cut = refl

-- a pull is no moment: what it gave is sampled where the next part begins
at_the_next_start :
    shows from_7 (gauge None by_none 800) 1 AtStart (pulled 4 (pos 8) ∷ tick 10 ∷ tick 20 ∷ []) false 20
    ≡ rows (row no_key 0 10 (told (pos 7) ∷ []) ∷ row no_key 10 20 (told (pos 8) ∷ []) ∷ []) 0
at_the_next_start = refl

-- under a condition that becomes true twice in a bucket: the first samples of a key stay, and more are no drops
abbrev three_times : List Step
three_times =
    starts 1 ∷ pulled 2 (pos 8) ∷ stops 3 ∷ starts 4 ∷ stops 5 ∷ pulled 6 (pos 9) ∷ starts 7 ∷ []

first_samples :
    shows from_7 (gauge (Some 0) by_none 800) 2 AtStart three_times true 9
    ≡ rows (row no_key 0 9 (told (pos 7) ∷ told (pos 8) ∷ []) ∷ []) 0
first_samples = refl

first_sample :
    shows from_7 (gauge (Some 0) by_none 800) 1 AtStart three_times true 9
    ≡ rows (row no_key 0 9 (told (pos 7) ∷ []) ∷ []) 0
first_sample = refl

-- at changes alone: a condition that is true from the beginning on doesn't change, and neither does one at a boundary
no_change : shows from_7 (gauge None by_none 800) 2 AtChange (tick 10 ∷ tick 20 ∷ []) true 20 ≡ rows [] 0
no_change = refl

at_changes :
    shows from_7 (gauge (Some 0) by_none 800) 2 AtChange
    (starts 1 ∷ pulled 2 (pos 8) ∷ tick 10 ∷ stops 13 ∷ starts 14 ∷ starts 15 ∷ []) true 19
    ≡ rows (row no_key 0 10 (told (pos 7) ∷ []) ∷ row no_key 10 19 (told (pos 8) ∷ []) ∷ []) 0
at_changes = refl

-- at a trigger while the condition is true, and at no start of a part
at_triggers :
    shows from_7 (gauge (Some 0) by_none 800) 2 AtTrigger
    (triggers 1 ∷ starts 2 ∷ triggers 3 ∷ pulled 4 (pos 8) ∷ triggers 5 ∷ stops 6 ∷ triggers 7 ∷ tick 10 ∷ []) true 10
    ≡ rows (row no_key 0 10 (told (pos 7) ∷ told (pos 8) ∷ []) ∷ []) 0
at_triggers = refl

-- an atom that starts the condition and is the trigger is sampled at
abbrev starts_and_triggers : ℕ → Step
starts_and_triggers at = record (starts at) { truths = false ∷ true ∷ false ∷ true ∷ [] }

its_own_trigger :
    shows from_7 (gauge (Some 0) by_none 800) 2 AtTrigger (starts_and_triggers 1 ∷ []) true 9
    ≡ rows (row no_key 0 9 (told (pos 7) ∷ []) ∷ []) 0
its_own_trigger = refl

-- where there is no snapshot at a moment, it is missing from that moment on, also while the bucket is open
missing_at_the_moment :
    shows (after_pulls []) (gauge None by_none 800) 2 AtStart (pulled 2 (pos 8) ∷ failed 6 ∷ tick 10 ∷ []) false 10
    ≡ rows [] 2
missing_at_the_moment = refl

missing_at_a_trigger :
    shows from_7 (gauge None by_none 800) 2 AtTrigger (failed 1 ∷ triggers 2 ∷ triggers 3 ∷ []) false 3 ≡ rows [] 2
missing_at_a_trigger = refl

-- a pull whose atoms the matcher doesn't mean is a snapshot without samples, and not missing
nothing_meant :
    shows (watching 0 (gave 0 [] ∷ []) (of_id (pos 10001) [])) (gauge None by_none 800) 2 AtStart [] true 9 ≡ rows [] 0
nothing_meant = refl

-- the drops and what is missing at the opening of the part after a cut belong to the report that cuts
abbrev two_keys : Installation
two_keys = after_pulls (gave 0 (keyed 7 (pos 3) ∷ keyed 8 (pos 1) ∷ []) ∷ [])

drops_at_the_opening :
    shows two_keys (gauge None by_key 1) 1 AtStart [] true 4
    ≡ record { rows = row (key 7) 0 4 (keyed 7 (pos 3) ∷ []) ∷ []; not_kept = 0; dropped = 2; missing = 0 }
drops_at_the_opening = refl

nothing_more_at_the_next :
    shows two_keys (gauge None by_key 1) 1 AtStart (asked 4 true ∷ []) false 4
    ≡ record { rows = []; not_kept = 0; dropped = 0; missing = 0 }
nothing_more_at_the_next = refl

-- the entries that the gauge names, and none of an atom of another id, which is still a sample
abbrev some_fields : FieldSet → LMetric → List Step → Taken (Row (List Atom))
some_fields fields metric steps = pulled_gauge_shown two_keys metric (Some fields) 2 AtStart None steps true 9

abbrev key_alone : ℕ → Atom
key_alone number = record { id = 10001; fields = entry 2 (Int (pos number)) ∷ [] }

named_fields :
    some_fields by_key (gauge None by_none 800) []
    ≡ rows (row no_key 0 9 (key_alone 7 ∷ key_alone 8 ∷ []) ∷ []) 0
named_fields = refl

no_fields :
    some_fields (record by_key { atom_id = 10002 }) (gauge None by_none 800) []
    ≡ rows (row no_key 0 9 (record { id = 10001; fields = [] } ∷ record { id = 10001; fields = [] } ∷ []) ∷ []) 0
no_fields = refl

-- the first 256 pulled ids are kept, so the 257th has no snapshot
abbrev pulls_before : ℕ → List LogFrame
pulls_before ids = map (λ id. Pull 0 (20000 + id) Failed) (range_with_len 0 ids) ++ gave 0 (told (pos 7) ∷ []) ∷ []

pulled_id_that_is_kept :
    shows (after_pulls (pulls_before 255)) (gauge None by_none 800) 1 AtStart (tick 10 ∷ []) false 10
    ≡ rows (row no_key 0 10 (told (pos 7) ∷ []) ∷ []) 0
pulled_id_that_is_kept = refl

pulled_id_past_those :
    shows (after_pulls (pulls_before 256)) (gauge None by_none 800) 1 AtStart (tick 10 ∷ []) false 10 ≡ rows [] 2
pulled_id_past_those = refl
