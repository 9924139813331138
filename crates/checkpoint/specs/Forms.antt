-- The saved form of a hub: bytes that mean something to this program alone.
use Rattle.std.specs.Prelude.{◌≡◌, ℕ, ◌^◌, Bool, List}
use Rattle.atom_record.specs.declared.atom.Atom.{Atom}
use Rattle.config_types.specs.declared.matcher.SimpleMatcher.{SimpleMatcher}
use Rattle.flat_form.specs.ItemRange.{CanBeSpelled}
use Rattle.flat_form.specs.ItemSpelling.{spelled_items}
use Rattle.session_frames.specs.declared.frame.Frame.{Frame}
use Rattle.hub_core.specs.declared.hub.Hub.{Hub}
use Rattle.hub_core.specs.HubStands.{HubStandsFor}
use Rattle.hub_core.specs.SavedHubs.{SavedHub, saved_items, IsSavedHub}
use Rattle.hub_core.specs.HubSaving.{saved_of}

-- the most bytes of a saved form
abbrev pub most_saved : ℕ
most_saved = 2 ^ 31

-- the bytes of the items of what is saved
abbrev pub saved_bytes : SavedHub → List ℕ
saved_bytes saved = spelled_items (saved_items saved)

-- This can be saved, and these are its bytes.
pub record IsFormOf (saved : SavedHub) (bytes : List ℕ) : Type 0 where
  pub valid : IsSavedHub saved
  pub can_be : CanBeSpelled (saved_items saved)
  pub spelled : bytes ≡ saved_bytes saved

-- the bytes are the saved form of nothing
abbrev pub IsFormOfNone : List ℕ → Type 0
IsFormOfNone bytes = (saved : SavedHub) → IsFormOf saved bytes → ⊥

-- What the judge of a hub says is a parameter of all that it stands for.
module _ (says : SimpleMatcher → Atom → Bool) where
  -- A hub of such a judge that stands for these frames is saved as these bytes.
  pub record IsSavedOf (J : Type 0) (frames : List Frame) (bytes : List ℕ) : Type 0 where
    pub hub : Hub J
    pub stands : HubStandsFor says hub frames
    pub form : IsFormOf (saved_of hub) bytes

  -- whatever session these bytes are saved of, the hub stands for it
  abbrev pub StandsForAllSaved : {J : Type 0} → List ℕ → Hub J → Type 0
  StandsForAllSaved {J} bytes hub = (frames : List Frame) → IsSavedOf J frames bytes → HubStandsFor says hub frames
