-- What stays of inner keys after an atom: for private clauses.
use Rattle.std.specs.Prelude.{◌≡◌, ℕ, ◌<◌, nat_lt, Bool, true, false, not, ◌&&◌, List, slice_get, Option, Some, None}
use Rattle.std.specs.Borrow.{Bor}
use Rattle.field_select.specs.declared.leaf.FieldSet.{FieldSet}
use Rattle.predicate_state.specs.declared.truth.Truth.{Truth}
use Rattle.predicate_state.specs.PredicateTable.{LeafKey}
use Rattle.duration_metric.specs.declared.inner.Known.{Known}
use Rattle.client_engine.specs.Turning.{asks_for_turn}
use Rattle.client_engine.specs.Telling.{decides_inner}
use Rattle.client_engine.specs.declared.told.Told.{Told}
use Rattle.client_engine.specs.declared.turn.Turn.{Turn}
use Rattle.client_engine.specs.declared.stays.Before.{Before}
use Rattle.client_engine.specs.declared.stays.Stays.{Stays}
use Rattle.client_engine.specs.declared.stays.Stays.TheVariants.{Keys, Others, OtherStates, Truths, Nothing}

-- what stays of inner keys, so many of which were listed, where an atom touches the condition: all of those that don't
-- ask for the one key that it turns, and nothing without such a key
abbrev pub stays_apart : Option (Bor Turn) → ℕ → Stays
stays_apart None listed = Nothing
stays_apart (Some turn) listed = Others turn listed

-- what stays of inner keys, so many of which were listed, where an atom tells a state: their truths, and all of those
-- that aren't sliced by the state that it tells, if it tells one
abbrev pub stays_untold : Option (Bor Told) → ℕ → Stays
stays_untold None listed = Truths
stays_untold (Some told) listed = OtherStates told listed

-- what stays of inner keys after an atom: nothing where it touches the condition and tells a state, their truths where
-- it tells a state alone, and all where it does neither
abbrev pub stays_by : Bool → Bool → Before → Stays
stays_by true true before = Nothing
stays_by true false before = stays_apart before.turn before.listed
stays_by false true before = stays_untold before.told before.listed
stays_by false false before = Keys before.listed

-- the place from which on inner keys are asked
abbrev pub first_asked : Stays → ℕ
first_asked (Keys listed) = listed
first_asked (Others turn listed) = 0
first_asked (OtherStates told listed) = 0
first_asked Truths = 0
first_asked Nothing = 0

-- each is asked for its truth
abbrev pub is_nothing : Stays → Bool
is_nothing (Keys listed) = false
is_nothing (Others turn listed) = false
is_nothing (OtherStates told listed) = false
is_nothing Truths = false
is_nothing Nothing = true

-- all that is so of the inner key at a place stays, although others are asked before it and after it: it was listed,
-- and doesn't ask for the key that turned, or isn't sliced by the state that is told
abbrev pub is_kept : Stays → ℕ → FieldSet → LeafKey → Bool
is_kept (Keys listed) place fields key = false
is_kept (Others turn listed) place fields key = nat_lt place listed && not (asks_for_turn fields key turn.now)
is_kept (OtherStates told listed) place fields key = nat_lt place listed && not (decides_inner fields key told.now)
is_kept Truths place fields key = false
is_kept Nothing place fields key = false

-- the truth that was told last, where truths stay
abbrev pub truth_kept : Stays → Option Truth → Option Truth
truth_kept (Keys listed) was = None
truth_kept (Others turn listed) was = None
truth_kept (OtherStates told listed) was = was
truth_kept Truths was = was
truth_kept Nothing was = None

-- what is so now of those of these inner keys that are kept is what was told of them
abbrev pub KeepsThose : FieldSet → Stays → (LeafKey → Option Known) → (LeafKey → Known) → List LeafKey → Type 0
KeepsThose fields stays was now keys =
    (place : ℕ) (key : LeafKey) → is_kept stays place fields key ≡ true → slice_get keys place ≡ Some key
    → was key ≡ Some (now key)

-- the truths of these inner keys now are those that were told of them
abbrev pub KeepsTruths : (LeafKey → Option Known) → (LeafKey → Known) → List LeafKey → Type 0
KeepsTruths was now keys =
    (place : ℕ) (key : LeafKey) (known : Known) → slice_get keys place ≡ Some key → was key ≡ Some known
    → known.truth ≡ (now key).truth

-- what is so of inner keys now, which have these fields, has what stays of what was told of them
abbrev pub KeepsWhatStays : FieldSet → Stays → (LeafKey → Option Known) → (LeafKey → Known) → List LeafKey → Type 0
KeepsWhatStays fields (Keys listed) was now keys =
    (place : ℕ) (key : LeafKey) → place < listed → slice_get keys place ≡ Some key → was key ≡ Some (now key)
KeepsWhatStays fields (Others turn listed) was now keys = KeepsThose fields (Others turn listed) was now keys
KeepsWhatStays fields (OtherStates told listed) was now keys =
    KeepsThose fields (OtherStates told listed) was now keys × KeepsTruths was now keys
KeepsWhatStays fields Truths was now keys = KeepsTruths was now keys
KeepsWhatStays fields Nothing was now keys = Unit {0}
