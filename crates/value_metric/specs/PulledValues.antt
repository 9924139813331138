-- What a producer of pulled values is made with, and what its calls tell it.
use Rattle.std.specs.Prelude.{ℕ, Bool, true, false, List, [], ◌∷◌, map, Option, None}
use Rattle.std.specs.List.{flat_map, list_any}
use Rattle.std.specs.Option.{option_map}
use Rattle.config_types.specs.declared.parameters.DiffSpec.{DiffSpec}
use Rattle.predicate_state.specs.declared.truth.Truth.{Truth}
use Rattle.predicate_state.specs.declared.truth.Truth.TheVariants.{False, Unknown, True}
use Rattle.metric_producer.specs.Calls.{Call, Got, Learned, Demands}
use Rattle.metric_kinds.specs.Diffs.{KeyedInts}
use Rattle.metric_kinds.specs.Intervals.{Seen}
use Rattle.value_metric.specs.declared.keyed_int.KeyedInt.{KeyedInt}
use Rattle.value_metric.specs.declared.keyed_int.SnapInts.{SnapInts}

-- What a producer of pulled values is made with: where its time begins, how long a bucket is, how many keys a part
-- admits, and how differences are taken.
pub record PulledValueParams : Type 0 where
  pub base : ℕ
  pub size : ℕ
  pub bound : ℕ
  pub spec : DiffSpec

-- a call of a producer of pulled values: an event tells what a pull gave, and a condition how it stands after an atom
abbrev pub PulledValueCall : Type 0
PulledValueCall = Call SnapInts Truth

-- integers with their keys, as pairs
abbrev pub keyed_ints : List KeyedInt → KeyedInts
keyed_ints integers = map (λ integer. (integer.key, integer.value)) integers

-- the integers of a snapshot, or that there is none
abbrev pub integers_found : SnapInts → Option KeyedInts
integers_found snapshot = option_map keyed_ints snapshot.found

-- the snapshot that a call tells, if it tells one
abbrev pub snapshot_told : PulledValueCall → List (Option KeyedInts)
snapshot_told (Got at event) = integers_found event ∷ []
snapshot_told _ = []

-- the truth that a call tells, if it tells one
abbrev pub truth_told : PulledValueCall → List Truth
truth_told (Learned at now) = now ∷ []
truth_told _ = []

-- what was told last, where this stood before
abbrev pub told_last : {A : Type 0} → A → List A → A
told_last before [] = before
told_last before (now ∷ later) = told_last now later

-- a condition is true; not to know isn't enough
abbrev pub is_truth : Truth → Bool
is_truth True = true
is_truth Unknown = false
is_truth False = false

-- what was found in the snapshot that these calls told last; before one was told there is none
abbrev pub last_found : List PulledValueCall → Option KeyedInts
last_found calls = told_last None (flat_map snapshot_told calls)

-- whether the condition is true, as these calls told it last; before it was told it isn't
abbrev pub is_told_true : List PulledValueCall → Bool
is_told_true calls = is_truth (told_last Unknown (flat_map truth_told calls))

-- what is seen after these calls
abbrev pub seen_after_calls : List PulledValueCall → Seen (Option KeyedInts)
seen_after_calls calls = record { holds = is_told_true calls; found = last_found calls }

-- a call tells a snapshot
abbrev pub tells_integers : PulledValueCall → Bool
tells_integers (Got at event) = true
tells_integers _ = false

-- it takes every snapshot, and is told no condition before the first one, which is the snapshot of the time when it is
-- made; a condition may be told without a snapshot before it, since atoms change it and pulls don't
abbrev pub pulled_value_demands : PulledValueParams → Demands SnapInts Truth
pulled_value_demands params = record {
  base = params.base;
  size = params.size;
  is_paired = false;
  takes = λ event. true;
  tells = λ calls now. list_any tells_integers calls;
}
