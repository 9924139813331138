-- Which names are noted for which ids.
use Rattle.std.specs.Prelude.{◌≡◌, ℕ, ◌==◌, ◌<◌, Bool, ◌&&◌, ◌||◌, not, List, [], length, if◌then◌else◌, IfSome}
use Rattle.std.specs.List.{list_any}
use Rattle.std.specs.Option.{option_map_or}
use Rattle.std.specs.Map.{lookup}
use Rattle.heard_ids.specs.declared.hearing.Hearing.{Hearing}
use Rattle.id_notes.specs.declared.notes.Notes.{Notes}
use Rattle.id_notes.specs.Marks.{is_marked}

-- with these ids, a name is noted for this id: one that hears every atom is noted for no id of its own
abbrev pub wants_id : Hearing → ℕ → Bool
wants_id hearing id = not hearing.all && list_any (λ heard. heard == id) hearing.ids

module _ {N : Type 0} where
  -- a name is one of these
  abbrev pub is_named : (N → N → Bool) → N → List N → Bool
  is_named same name names = list_any (same name) names

  -- the names that are noted for an id, and none where it isn't marked or there is no list
  abbrev pub names_under : Notes N → ℕ → List N
  names_under notes id =
      if is_marked notes.marks.items id
      then option_map_or (λ names. names.keys) (lookup (λ other. id == other) notes.by_id.entries) [] else []

  -- the names that are noted for every atom
  abbrev pub names_for_all : Notes N → List N
  names_for_all notes = notes.for_all.keys

  -- names, with this one added where that is so
  abbrev pub AddsIf : (N → N → Bool) → N → Bool → List N → List N → Type 0
  AddsIf same name is old new =
      (other : N) → is_named same other new ≡ (is_named same other old || (same other name && is))

  -- names, without this one where that is so
  abbrev pub DropsIf : (N → N → Bool) → N → Bool → List N → List N → Type 0
  DropsIf same name is old new =
      (other : N) → is_named same other new ≡ (is_named same other old && not (same other name && is))

  -- a name is noted for these ids too
  abbrev pub AddsUnder : (N → N → Bool) → N → (ℕ → Bool) → Notes N → Notes N → Type 0
  AddsUnder same name wants old new = (id : ℕ) → AddsIf same name (wants id) (names_under old id) (names_under new id)

  -- a name isn't noted for these ids any more
  abbrev pub DropsUnder : (N → N → Bool) → N → (ℕ → Bool) → Notes N → Notes N → Type 0
  DropsUnder same name wants old new =
      (id : ℕ) → DropsIf same name (wants id) (names_under old id) (names_under new id)

  -- an id that has a list has a name on it: one that nobody hears has none
  abbrev pub HasNoEmptyList : Notes N → Type 0
  HasNoEmptyList notes =
      (id : ℕ) → IfSome (lookup (λ other. id == other) notes.by_id.entries) (λ names. 0 < length names.keys)
