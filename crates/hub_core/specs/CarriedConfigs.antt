-- A live configuration as it is saved, and what its bytes say. Nothing here names what holds it.
use Rattle.std.specs.Prelude.{◌≡◌, ℤ, ℕ, List, Result, Ok, Err}
use Rattle.config_types.specs.declared.config.Config.{Config}
use Rattle.config_decode.specs.Config.{config_of}
use Rattle.config_links.specs.declared.linked.Linked.{Linked}
use Rattle.config_links.specs.SoundConfig.{IsSoundConfig}
use Rattle.session_frames.specs.declared.reply.Refusal.{Refusal}
use Rattle.hub_meaning.specs.Acceptance.{config_read, linked_read}
use Rattle.client_engine.specs.Running.{Running, linked_of}
use Rattle.client_engine.specs.declared.live_id.LiveId.{LiveId}
use Rattle.hub_core.specs.declared.configs.Accepted.{Accepted}

-- Whose it is, its bytes, and its instance.
pub record Saved : Type 0 where
  pub name : LiveId
  pub config : List ℕ
  pub instance : Running

-- the linked form of what was read for a client, or the refusal
abbrev pub linked_by : ℤ → Result Config Refusal → Result Linked Refusal
linked_by uid (Err refusal) = Err refusal
linked_by uid (Ok config) = linked_read uid config

-- the linked form that the bytes of a configuration say for a client, or their refusal
abbrev pub linked_from : ℤ → List ℕ → Result Linked Refusal
linked_from uid bytes = linked_by uid (config_read (config_of bytes))

-- A configuration without faults: its linked form is what its bytes say for its client.
pub record IsAccepted (it : Accepted) : Type 0 where
  pub sound : IsSoundConfig it.linked
  pub read : linked_from it.name.uid it.config ≡ Ok it.linked

-- It has this name and these bytes, and is linked so.
pub record Carries (accepted : Accepted) (it : Saved) : Type 0 where
  pub name : it.name ≡ accepted.name
  pub config : it.config ≡ accepted.config
  pub linked : linked_of it.instance ≡ accepted.linked

-- It has the name and the bytes that it had, and is linked as it was.
pub record IsCarriedOn (old new : Saved) : Type 0 where
  pub name : new.name ≡ old.name
  pub config : new.config ≡ old.config
  pub linked : linked_of new.instance ≡ linked_of old.instance
