-- What a predicate knows after some events, from the first event on.
use Rattle.std.specs.Prelude.{ℕ, ◌+◌, ◌-◌, ◌==◌, Bool, true, false, not, ◌&&◌, nat_lt, List, [], ◌∷◌, ◌++◌, length, filter, Option, Some, None, if◌then◌else◌}
use Rattle.std.specs.Map.{lookup, set_value}
use Rattle.config_types.specs.declared.parameters.PredSpec.{PredSpec}
use Rattle.bucket_meaning.specs.Kept.{count_in_u64}
use Rattle.predicate_state.specs.declared.event.PredEvent.{PredEvent}
use Rattle.predicate_state.specs.declared.event.PredEvent.TheVariants.{Start, Stop, StopAll}

-- An event, and the key on which it acts. A stop of all keys takes any key.
pub record KeyEvent (K : Type 0) : Type 0 where
  pub event : PredEvent
  pub key : K

-- What is known: whether a key that isn't listed is unknown, and else false; the keys with their counts, in order; and
-- how many keys found no room.
pub record PredicateState (K : Type 0) : Type 0 where
  pub unknown : Bool
  pub counts : List (K × ℕ)
  pub dropped : ℕ

-- a start makes a count one more; without nesting it is 1
abbrev pub count_after_start : Bool → ℕ → ℕ
count_after_start nesting count = if nesting then count_in_u64 (count + 1) else 1

-- a stop makes a count one less, and never below 0; without nesting it is 0
abbrev pub count_after_stop : Bool → ℕ → ℕ
count_after_stop nesting count = if nesting then count - 1 else 0

-- an event acts on its key alone, and not on all
abbrev pub is_of_one : PredEvent → Bool
is_of_one Start = true
is_of_one Stop = true
is_of_one StopAll = false

module _ {K : Type 0} where
  -- before the first event nothing is listed
  abbrev pub initial_state : PredSpec → PredicateState K
  initial_state spec = record { unknown = spec.unknown; counts = []; dropped = 0 }

  -- a new key is listed last; where the list is at its bound, nothing changes but the drops
  abbrev pub with_new_key : ℕ → PredicateState K → K → ℕ → PredicateState K
  with_new_key bound state key count =
      if nat_lt (length state.counts) bound
      then record state { counts = state.counts ++ (key, count) ∷ [] }
      else record state { dropped = count_in_u64 (state.dropped + 1) }

  -- after a stop of all keys no key is listed, and none is unknown
  abbrev pub state_after_stop_all : PredicateState K → PredicateState K
  state_after_stop_all state = record state { unknown = false; counts = [] }

module _ {K : Type 0} (same : K → K → Bool) where
  -- a listed key has another count, in its place
  abbrev pub with_key_count : PredicateState K → K → ℕ → PredicateState K
  with_key_count state key count = record state { counts = set_value (same key) state.counts count }

  -- a key leaves the list; the others keep their order
  abbrev pub without_key : PredicateState K → K → PredicateState K
  without_key state key = record state { counts = filter (λ entry. not (same key entry.0)) state.counts }

  -- a stop of a key that isn't listed matters only where it might have been started before; and one of a listed key,
  -- which leaves at 0 where all that isn't listed is false
  abbrev pub state_after_stop : PredSpec → PredicateState K → K → Option ℕ → PredicateState K
  state_after_stop spec state key None = if state.unknown then with_new_key spec.bound state key 0 else state
  state_after_stop spec state key (Some count) =
      let less = count_after_stop spec.nesting count in
      if less == 0 && not state.unknown then without_key state key else with_key_count state key less

  -- a start of a key that isn't listed, and of one that is
  abbrev pub state_after_start : PredSpec → PredicateState K → K → Option ℕ → PredicateState K
  state_after_start spec state key None = with_new_key spec.bound state key 1
  state_after_start spec state key (Some count) =
      with_key_count state key (count_after_start spec.nesting count)

  -- what one event makes of a state
  abbrev pub state_after : PredSpec → PredicateState K → PredEvent → K → PredicateState K
  state_after spec state Start key = state_after_start spec state key (lookup (same key) state.counts)
  state_after spec state Stop key = state_after_stop spec state key (lookup (same key) state.counts)
  state_after spec state StopAll key = state_after_stop_all state

  -- what these events make of a state, one after the other
  abbrev pub state_from : PredSpec → PredicateState K → List (KeyEvent K) → PredicateState K
  state_from spec state [] = state
  state_from spec state (first ∷ events) =
      state_from spec (state_after spec state first.event first.key) events

  -- the state of a predicate after all its events
  abbrev pub predicate_after : PredSpec → List (KeyEvent K) → PredicateState K
  predicate_after spec events = state_from spec (initial_state spec) events
