-- Worked tables and questions, by computing.
use Rattle.std.specs.Prelude.{pos}
use Rattle.std.proofs.Common.{◌≡◌, ℕ, ◌==◌, Bool, true, false, List, [], ◌∷◌, refl}
use Rattle.atom_record.specs.declared.value.Value.TheVariants.{Int}
use Rattle.atom_record.specs.declared.value.Leaf.{Leaf}
use Rattle.atom_record.specs.declared.value.Leaf.TheVariants.{Missing, One}
use Rattle.config_types.specs.declared.parameters.PredSpec.{PredSpec}
use Rattle.predicate_state.specs.declared.event.PredEvent.{PredEvent}
use Rattle.predicate_state.specs.declared.event.PredEvent.TheVariants.{Start, Stop, StopAll}
use Rattle.predicate_state.specs.declared.truth.Truth.{Truth}
use Rattle.predicate_state.specs.declared.truth.Truth.TheVariants.{False, Unknown, True}
use Rattle.predicate_state.specs.declared.bind.Bind.{Bind}
use Rattle.predicate_state.specs.PredicateStates.{PredicateState, KeyEvent, predicate_after}
use Rattle.predicate_state.specs.PredicateTruths.{key_truth, binds_truth}
use Rattle.predicate_state.specs.PredicateTable.{LeafKey}

abbrev spec : Bool → Bool → PredSpec
spec nesting unknown = record { nesting = nesting; unknown = unknown; bound = 2; leaves = 1 }

abbrev on : PredEvent → ℕ → KeyEvent ℕ
on event key = record { event = event; key = key }

abbrev after : PredSpec → List (KeyEvent ℕ) → PredicateState ℕ
after = predicate_after (λ one other. one == other)

abbrev truth : PredicateState ℕ → ℕ → Truth
truth = key_truth (λ one other. one == other)

-- two starts and one stop leave a count of 1
nested : after (spec true false) (on Start 7 ∷ on Start 7 ∷ on Stop 7 ∷ [])
    ≡ record { unknown = false; counts = (7, 1) ∷ []; dropped = 0 }
nested = refl

-- without nesting they leave nothing
not_nested : after (spec false false) (on Start 7 ∷ on Start 7 ∷ on Stop 7 ∷ [])
    ≡ record { unknown = false; counts = []; dropped = 0 }
not_nested = refl

-- a stop of a key that isn't listed leaves an entry, so the key is known to be false
stopped_first : after (spec true true) (on Stop 7 ∷ []) ≡ record { unknown = true; counts = (7, 0) ∷ []; dropped = 0 }
stopped_first = refl

-- a stop of all keys makes every key false
all_stopped : after (spec true true) (on Start 7 ∷ on StopAll 8 ∷ on Stop 9 ∷ [])
    ≡ record { unknown = false; counts = []; dropped = 0 }
all_stopped = refl

-- the third key finds no room, as often as it comes; a key that leaves makes room
no_room : after (spec true false)
    (on Start 7 ∷ on Start 8 ∷ on Start 9 ∷ on Start 9 ∷ on Stop 7 ∷ on Start 6 ∷ [])
    ≡ record { unknown = false; counts = (8, 1) ∷ (6, 1) ∷ []; dropped = 2 }
no_room = refl

abbrev known : PredicateState ℕ
known = record { unknown = true; counts = (7, 2) ∷ (8, 0) ∷ []; dropped = 0 }

-- a key is unknown until it is started or stopped
started_key : truth known 7 ≡ True
started_key = refl

stopped_key : truth known 8 ≡ False
stopped_key = refl

other_key : truth known 9 ≡ Unknown
other_key = refl

abbrev one : ℕ → Leaf
one number = One (Int (pos number))

abbrev bind : ℕ → Leaf → Bind
bind place value = record { place = place; value = value }

abbrev pairs : Bool → PredicateState LeafKey
pairs unknown = record {
  unknown = unknown;
  counts = (one 1 ∷ Missing ∷ [], 1) ∷ (one 1 ∷ one 5 ∷ [], 0) ∷ (one 2 ∷ one 5 ∷ [], 0) ∷ [];
  dropped = 0;
}

-- with every leaf bound, the one key decides; a missing leaf is a leaf
both_true : binds_truth 2 (pairs true) (bind 1 Missing ∷ bind 0 (one 1) ∷ []) ≡ True
both_true = refl

both_false : binds_truth 2 (pairs true) (bind 0 (one 1) ∷ bind 1 (one 5) ∷ []) ≡ False
both_false = refl

both_absent : binds_truth 2 (pairs true) (bind 0 (one 2) ∷ bind 1 Missing ∷ []) ≡ Unknown
both_absent = refl

-- with fewer, one that is true is enough, and none says that others are false
some_true : binds_truth 2 (pairs true) (bind 0 (one 1) ∷ []) ≡ True
some_true = refl

some_unknown : binds_truth 2 (pairs true) (bind 1 (one 5) ∷ []) ≡ Unknown
some_unknown = refl

none_true : binds_truth 2 (pairs false) (bind 1 (one 5) ∷ []) ≡ False
none_true = refl

-- a key without leaves is always bound
no_leaf : binds_truth 0 (record { unknown = true; counts = ([], 0) ∷ []; dropped = 0 }) [] ≡ False
no_leaf = refl
