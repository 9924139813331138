-- Live configurations as they are saved: whose they are, and their bytes.
use Rattle.std.specs.Prelude.{◌≡◌, ℕ, List, Option, map}
use Rattle.std.specs.Map.{keys_of}
use Rattle.std.specs.Option.{option_map}
use Rattle.client_engine.specs.declared.live_id.LiveId.{LiveId}
use Rattle.hub_core.specs.declared.live_instance.LiveInstance.{LiveInstance}
use Rattle.hub_core.specs.CarriedConfigs.{Saved}
use Rattle.hub_core.specs.Slots.{slot_at}

-- a row as it is saved
abbrev pub saved_row : LiveId × LiveInstance → Saved
saved_row row = row.1.carried

-- all rows as they are saved, in their order
abbrev pub saved_rows : List (LiveId × LiveInstance) → List Saved
saved_rows rows = map saved_row rows

-- their names
abbrev pub names_of : List Saved → List LiveId
names_of all = map (λ (it : Saved). it.name) all

-- each row stands under its own name
abbrev pub AreNamed : List (LiveId × LiveInstance) → Type 0
AreNamed rows = keys_of rows ≡ names_of (saved_rows rows)

-- the bytes of what stands under a name, if something does
abbrev pub bytes_at : LiveId → List (LiveId × LiveInstance) → Option (List ℕ)
bytes_at name rows = option_map (λ (live : LiveInstance). live.carried.config) (slot_at name rows)

-- what stands under a name has the bytes that stood there
abbrev pub KeepConfigs : List (LiveId × LiveInstance) → List (LiveId × LiveInstance) → Type 0
KeepConfigs olds news = (name : LiveId) → bytes_at name news ≡ bytes_at name olds
