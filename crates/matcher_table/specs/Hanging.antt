-- The slots that hang on simple matchers of an atom id, and the ids of a slot. No public clause cites this.
use Rattle.std.specs.Prelude.{◌≡◌, ◌≢◌, ◌⊎◌, ℕ, ◌<◌, nat_eq, nat_lt, if◌then◌else◌, List, [], ◌∷◌, ◌++◌, map, get_or, length, slice_index, Some}
use Rattle.std.specs.Global.{Vec}
use Rattle.std.specs.List.{remove}
use Rattle.std.specs.Option.{option_map_or}
use Rattle.indexmap.specs.IndexMap.{get}
use Rattle.config_types.specs.declared.matcher.SimpleMatcher.{SimpleMatcher}
use Rattle.matcher_eval.specs.AtomTests.{number_set}
use Rattle.matcher_table.specs.declared.shared.SharedMatcher.{SharedMatcher}
use Rattle.matcher_table.specs.declared.shared.SharedMatcher.TheVariants.{Simple}
use Rattle.matcher_table.specs.declared.hanging.AtomSlots.{AtomSlots}
use Rattle.matcher_table.specs.Slots.{children_of, times_among}

-- ids below this have their lists in a row
abbrev pub low_ids : ℕ
low_ids = 4096

-- the list at a place of a row of lists
abbrev pub slots_at : List (Vec ℕ) → ℕ → List ℕ
slots_at lists at = get_or (map (λ list. list.items) lists) at []

-- the slots under an id that is looked for in the map
abbrev pub high_slots : AtomSlots → ℕ → List ℕ
high_slots lists id = option_map_or (λ slots. slots.items) (get nat_eq lists.by_id id) []

-- the slots under an atom id, in the order in which they were made
abbrev pub slots_under : AtomSlots → ℕ → List ℕ
slots_under lists id = if nat_lt id low_ids then slots_at lists.low.items id else high_slots lists id

-- the ids under which a slot hangs
abbrev pub atom_ids : AtomSlots → ℕ → List ℕ
atom_ids lists slot = option_map_or (λ ids. ids) (get nat_eq lists.ids slot) []

-- a slot joined the list of an id
abbrev pub JoinsList : ℕ → AtomSlots → AtomSlots → ℕ → Type 0
JoinsList slot old new id = slots_under new id ≡ slots_under old id ++ slot ∷ []

-- the list of an id stays
abbrev pub KeepsList : AtomSlots → AtomSlots → ℕ → Type 0
KeepsList old new id = slots_under new id ≡ slots_under old id

-- a slot was not in the list, or was taken out of one place
abbrev pub LeavesList : ℕ → List ℕ → List ℕ → Type 0
LeavesList slot old new =
    ((times_among slot old ≡ 0) × (new ≡ old))
    ⊎ ((at : ℕ) × (at < length old) × (slice_index old at ≡ slot) × (new ≡ remove old at))

-- each id of one of these slots is among the ids
abbrev pub IsUnderAll : AtomSlots → List ℕ → List ℕ → Type 0
IsUnderAll lists slots ids =
    (c id : ℕ) → 0 < times_among c slots → 0 < times_among id (atom_ids lists c) → 0 < times_among id ids

-- a new slot stands at the end of the lists of its ids: of its own, and of those of its children
pub record HangsUnder (old : AtomSlots) (slot : ℕ) (shared : SharedMatcher) (new : AtomSlots) : Type 0 where
  pub joined : (id : ℕ) → 0 < times_among id (atom_ids new slot) → slots_under new id ≡ slots_under old id ++ slot ∷ []
  pub apart : (id : ℕ) → times_among id (atom_ids new slot) ≡ 0 → slots_under new id ≡ slots_under old id
  pub others : (s : ℕ) → s ≢ slot → atom_ids new s ≡ atom_ids old s
  pub own : (matcher : SimpleMatcher) → shared ≡ Simple matcher
      → 0 < times_among (number_set matcher.atom_id) (atom_ids new slot)
  pub children : IsUnderAll old (children_of (Some shared)) (atom_ids new slot)

-- a slot is out of the lists of its ids
pub record UnhangsFrom (old : AtomSlots) (slot : ℕ) (new : AtomSlots) : Type 0 where
  pub left : (id : ℕ) → 0 < times_among id (atom_ids old slot)
      → LeavesList slot (slots_under old id) (slots_under new id)
  pub apart : (id : ℕ) → times_among id (atom_ids old slot) ≡ 0 → slots_under new id ≡ slots_under old id
  pub others : (s : ℕ) → s ≢ slot → atom_ids new s ≡ atom_ids old s
