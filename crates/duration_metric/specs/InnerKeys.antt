-- What the calls of a producer of durations tell of its inner keys: which are listed, and what each was told last.
use Rattle.std.specs.Prelude.{ℕ, ◌==◌, Bool, true, false, not, ◌&&◌, ◌||◌, nat_lt, List, [], ◌∷◌, ◌++◌, map, filter, length, position, slice_get, replicate, ◌-◌, Option, Some, None}
use Rattle.std.specs.List.{flat_map, after_last, last_or, list_all, list_any}
use Rattle.std.specs.Map.{keys_of}
use Rattle.std.specs.Option.{option_map, option_map_or, option_and_then}
use Rattle.sd_base.specs.Outputs.{outputs}
use Rattle.bucket_meaning.specs.Guard.{is_among}
use Rattle.bucket_meaning.specs.Marks.{Mark, Lost}
use Rattle.config_types.specs.declared.parameters.PredSpec.{PredSpec}
use Rattle.predicate_state.specs.declared.truth.Truth.{Truth}
use Rattle.predicate_state.specs.contracts.truth.TruthPartialEq.TheImpl as truth_test
use Rattle.predicate_state.specs.PredicateStates.{KeyEvent, PredicateState, predicate_after}
use Rattle.predicate_state.specs.PredicateTable.{LeafKey, same_leaves}
use Rattle.metric_producer.specs.Calls.{Call, Got, Learned, Demands}
use Rattle.metric_kinds.specs.Keys.{is_same_key}
use Rattle.duration_metric.specs.declared.change.InnerEvent.{InnerEvent}
use Rattle.duration_metric.specs.declared.change.InnerChange.{InnerChange}
use Rattle.duration_metric.specs.declared.change.InnerDelta.{InnerDelta}
use Rattle.duration_metric.specs.declared.inner.Known.{Known}

-- What a producer of durations is made with: where its time begins, how long a bucket is, and how its inner keys are
-- kept. Their bound is also how many keys a part admits.
pub record DurationParams : Type 0 where
  pub base : ℕ
  pub size : ℕ
  pub spec : PredSpec

-- a call of a producer of durations
abbrev pub DurationCall : Type 0
DurationCall = Call InnerEvent InnerDelta

-- what a call does to the inner keys: only events do something
abbrev pub key_events : DurationCall → List (KeyEvent LeafKey)
key_events (Got at event) = record { event = event.event; key = event.key } ∷ []
key_events _ = []

-- what a change tells
abbrev pub known_by : InnerChange → Known
known_by change = record { truth = change.truth; out = change.out }

-- what some changes tell of the key at a place
abbrev pub known_at : List InnerChange → Option ℕ → List Known
known_at changes None = []
known_at changes (Some place) = map known_by (filter (λ (change : InnerChange). change.place == place) changes)

-- what was told says just this; nothing was said where nothing was told
abbrev pub says : Option Known → Known → Bool
says None now = false
says (Some was) now = truth_test.ghosts.eq was.truth now.truth && is_same_key was.out now.out

-- An inner key, once a call has come: whether it is listed, and what the call told of it.
pub record KeySeen : Type 0 where
  pub is_listed : Bool
  pub told : List Known

module _ (spec : PredSpec) where
  -- what is known of the inner keys after these calls, in a table of the metric's own
  abbrev pub inner_state : List DurationCall → PredicateState LeafKey
  inner_state calls = predicate_after same_leaves spec (flat_map key_events calls)

  -- the inner keys after these calls, in order; a key that leaves closes its place up
  abbrev pub inner_keys : List DurationCall → List LeafKey
  inner_keys calls = keys_of (inner_state calls).counts

  -- what a call tells of a key: a change names it by its place among the inner keys
  abbrev pub told_to : LeafKey → List DurationCall → DurationCall → List Known
  told_to key before (Learned at delta) = known_at delta.changes (position (same_leaves key) (inner_keys before))
  told_to key before _ = []

  -- a key, once a call has come after these
  abbrev pub key_seen : LeafKey → List DurationCall → DurationCall → List KeySeen
  key_seen key before call =
      record {
        is_listed = is_among same_leaves key (inner_keys (before ++ call ∷ []));
        told = told_to key before call;
      } ∷ []

  -- what these calls told last of a key, since it was last absent; none where nothing was told since
  abbrev pub last_known : List DurationCall → LeafKey → Option Known
  last_known calls key =
      last_or None (flat_map (λ (seen : KeySeen). seen.told)
      (after_last (λ (seen : KeySeen). not seen.is_listed) (outputs (key_seen key) calls)))

  -- the truth that these calls told last of the inner key at a place
  abbrev pub told_truth : List DurationCall → ℕ → Option Truth
  told_truth calls place =
      option_and_then (λ key. option_map (λ (known : Known). known.truth) (last_known calls key))
      (slice_get (inner_keys calls) place)

  -- whether these calls told this last of the inner key at a place
  abbrev pub was_told : List DurationCall → ℕ → Known → Bool
  was_told calls place now =
      option_map_or (λ key. says (last_known calls key) now) (slice_get (inner_keys calls) place) false

  -- the inner keys that an event turns away, since the table is at its bound
  abbrev pub inner_lost : {X : Type 0} → List DurationCall → ℕ → InnerEvent → List (Mark X)
  inner_lost before at event =
      replicate ((inner_state (before ++ Got at event ∷ [])).dropped - (inner_state before).dropped) Lost

  -- a change of this place is there
  abbrev pub changes_place : List InnerChange → ℕ → Bool
  changes_place changes place = list_any (λ (change : InnerChange). change.place == place) changes

  -- no place comes twice
  abbrev pub are_places_apart : List InnerChange → Bool
  are_places_apart [] = true
  are_places_apart (change ∷ changes) = not (changes_place changes change.place) && are_places_apart changes

  -- something was told of a key, or is told now
  abbrev pub is_told : List DurationCall → List InnerChange → LeafKey → Bool
  is_told calls changes key =
      option_map_or (λ known. true) (last_known calls key) false
      || option_map_or (changes_place changes) (position (same_leaves key) (inner_keys calls)) false

  -- what may be told after these calls: of inner keys that are listed, of none twice, and of each that is new
  abbrev pub may_tell : List DurationCall → InnerDelta → Bool
  may_tell calls delta =
      list_all (λ (change : InnerChange). nat_lt change.place (length (inner_keys calls))) delta.changes
      && (are_places_apart delta.changes && list_all (is_told calls delta.changes) (inner_keys calls))

-- what a producer of durations demands: a condition after each event, keys with as many leaves as its spec says, and
-- deltas that may be told
abbrev pub duration_demands : DurationParams → Demands InnerEvent InnerDelta
duration_demands params = record {
  base = params.base;
  size = params.size;
  is_paired = true;
  takes = λ (event : InnerEvent). length event.key == params.spec.leaves;
  tells = may_tell params.spec;
}
