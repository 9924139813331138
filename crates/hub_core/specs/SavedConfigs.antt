-- The items of a live configuration, and which there are.
use Rattle.std.specs.Prelude.{◌≡◌, ℕ, ℤ, List, ◌++◌, Ok, length, FitsSigned}
use Rattle.std.specs.Int.{w32, cast_unsigned}
use Rattle.flat_form.specs.declared.item.Item.{Item}
use Rattle.flat_form.specs.Flat.{number_items, signed_items, IsSigned, chunk_items}
use Rattle.flat_form.specs.Savable.{AreSavable}
use Rattle.client_engine.specs.Running.{Running, linked_of}
use Rattle.client_engine.specs.SavedInstances.{instance_items, IsSavedInstance}
use Rattle.client_engine.specs.declared.live_id.LiveId.{LiveId}
use Rattle.hub_core.specs.CarriedConfigs.{Saved, linked_from}

-- a client is the number of its bits
abbrev pub uid_items : ℤ → List Item
uid_items uid = number_items (cast_unsigned w32 uid)

-- a client has 32 bits, one of them the sign
abbrev pub IsUid : ℤ → Type 0
IsUid uid = FitsSigned w32 uid

-- a name is its client and its id
abbrev pub name_items : LiveId → List Item
name_items name = uid_items name.uid ++ signed_items name.id

-- a live configuration is its name, its bytes, and its instance
abbrev pub carried_items : Saved → List Item
carried_items it = name_items it.name ++ (chunk_items it.config ++ instance_items it.instance)

-- the id has 64 bits
abbrev pub IsLiveName : LiveId → Type 0
IsLiveName name = IsUid name.uid × IsSigned name.id

-- It is linked as these bytes say for a client, and it can be saved.
pub record IsInstanceOf (uid : ℤ) (bytes : List ℕ) (it : Running) : Type 0 where
  pub linked : linked_from uid bytes ≡ Ok (linked_of it)
  pub saved : IsSavedInstance (linked_of it) it

-- Its instance is linked as its bytes say.
pub record IsCarried (it : Saved) : Type 0 where
  pub name : IsLiveName it.name
  pub instance : IsInstanceOf it.name.uid it.config it.instance

-- its items can be spelled
abbrev pub IsSavableConfig : Saved → Type 0
IsSavableConfig it = AreSavable (carried_items it)

-- what is counted of it: its items
abbrev pub carried_entries : Saved → ℕ
carried_entries it = length (carried_items it)
