-- Which names are noted: for each id, and for every id, those of the live configurations that hear it.
use Rattle.std.specs.Prelude.{◌≡◌, ℕ, Bool, false, not, ◌&&◌, List, [], ◌++◌}
use Rattle.std.specs.Option.{option_map_or}
use Rattle.atom_record.specs.declared.log.LogFrame.{LogFrame}
use Rattle.client_engine.specs.declared.live_id.LiveId.{LiveId}
use Rattle.id_notes.specs.declared.notes.Notes.{Notes}
use Rattle.id_notes.specs.Noted.{wants_id, is_named, names_under, names_for_all}
use Rattle.hub_core.specs.declared.live_instance.LiveInstance.{LiveInstance}
use Rattle.hub_core.specs.Sleeping.{heard_id_of}
use Rattle.hub_core.specs.Slots.{same_id, slot_at}

-- what stands under a name wants to be noted for an id
abbrev pub wants_at : ℕ → LiveId → List (LiveId × LiveInstance) → Bool
wants_at id name rows = option_map_or (λ (live : LiveInstance). wants_id live.hearing id) (slot_at name rows) false

-- what stands under a name wants to be noted for every id
abbrev pub wants_all_at : LiveId → List (LiveId × LiveInstance) → Bool
wants_all_at name rows = option_map_or (λ (live : LiveInstance). live.hearing.all) (slot_at name rows) false

-- a name is noted just where what stands under it wants to be
pub record AreNoted (notes : Notes LiveId) (rows : List (LiveId × LiveInstance)) : Type 0 where
  pub ids : (id : ℕ) (name : LiveId) → is_named same_id name (names_under notes id) ≡ wants_at id name rows
  pub all : (name : LiveId) → is_named same_id name (names_for_all notes) ≡ wants_all_at name rows

-- where these rows were noted by those notes, others are by theirs
abbrev pub StayNoted : Notes LiveId → List (LiveId × LiveInstance) → Notes LiveId → List (LiveId × LiveInstance)
    → Type 0
StayNoted notes olds next news = AreNoted notes olds → AreNoted next news

-- a name is noted just where what stands under it wants to be, but for one, which is noted nowhere
pub record AreNotedBut (but : LiveId) (notes : Notes LiveId) (rows : List (LiveId × LiveInstance)) : Type 0 where
  pub ids : (id : ℕ) (name : LiveId) → is_named same_id name (names_under notes id)
      ≡ (not (same_id but name) && wants_at id name rows)
  pub all : (name : LiveId) → is_named same_id name (names_for_all notes)
      ≡ (not (same_id but name) && wants_all_at name rows)

-- no name is noted for an id and for every id
abbrev pub AreNotedApart : Notes LiveId → ℕ → Type 0
AreNotedApart notes id =
    (name : LiveId)
    → (is_named same_id name (names_under notes id) && is_named same_id name (names_for_all notes)) ≡ false

-- the names to which a frame comes
abbrev pub noted_for : Notes LiveId → LogFrame → List LiveId
noted_for notes frame =
    option_map_or (λ (id : ℕ). names_under notes id ++ names_for_all notes) (heard_id_of frame) []
