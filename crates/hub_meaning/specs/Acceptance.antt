-- Whether a client's configuration is accepted, or how its install is answered.
use Rattle.std.specs.Prelude.{ℕ, ℤ, ◌-◌, ◌^◌, min, nat_le, Bool, not, List, count_by, Option, Some, None, Result, Ok, Err, if◌then◌else◌}
use Rattle.std.specs.Ordering.{int_eq}
use Rattle.config_types.specs.declared.config.Config.{Config}
use Rattle.config_decode.specs.ConfigFault as fault
use Rattle.config_decode.specs.ConfigFault.{ConfigFault}
use Rattle.config_decode.specs.Config.{config_of}
use Rattle.session_frames.specs.declared.reply.Refusal.{Refusal}
use Rattle.session_frames.specs.declared.reply.Refusal.TheVariants.{TooLarge, Wire, Unsupported, Link}
use Rattle.session_frames.specs.declared.reply.ReplyBody.{ReplyBody}
use Rattle.session_frames.specs.declared.reply.ReplyBody.TheVariants.{Refused, ClientFull}
use Rattle.link_rules.specs.declared.fault.LinkFault.{LinkFault}
use Rattle.config_links.specs.declared.linked.Linked.{Linked}
use Rattle.config_links.specs.Verdict.{verdict, linked_form}

-- A live configuration: its id, what was decoded, and how many of the client's own frames came before its install.
pub record LiveConfig : Type 0 where
  pub id : ℤ
  pub config : Config
  pub place : ℕ

-- how many live configurations a client may have
abbrev pub most_configs : ℕ
most_configs = 10

-- a live configuration has another id
abbrev pub has_other_id : ℤ → LiveConfig → Bool
has_other_id id live = not (int_eq live.id id)

-- the client has as many of other ids as it may have
abbrev pub is_full : ℤ → List LiveConfig → Bool
is_full id configs = nat_le most_configs (count_by (has_other_id id) configs)

-- why bytes that aren't a configuration are refused
abbrev pub refusal_of : ConfigFault → Refusal
refusal_of (fault.TooLarge size) = TooLarge (min size (2 ^ 32 - 1))
refusal_of (fault.Wire wire) = Wire wire.cause wire.offset
refusal_of (fault.Unsupported path) = Unsupported path

-- what was decoded, or the refusal of bytes that aren't a configuration
abbrev pub config_read : Result Config ConfigFault → Result Config Refusal
config_read (Ok config) = Ok config
config_read (Err found) = Err (refusal_of found)

-- a linked form, unless the references have a fault
abbrev pub read_unless : Option LinkFault → Linked → Result Linked Refusal
read_unless (Some found) linked = Err (Link found.number found.reason found.value)
read_unless None linked = Ok linked

-- the linked form of a client's configuration, or its refusal
abbrev pub linked_read : ℤ → Config → Result Linked Refusal
linked_read uid config = read_unless (verdict config) (linked_form config uid)

-- a configuration is accepted if it was linked
abbrev pub accepted_as : Config → Result Linked Refusal → Result Config ReplyBody
accepted_as config (Ok linked) = Ok config
accepted_as config (Err refusal) = Err (Refused refusal)

-- what was decoded of a client is accepted or not: a full client is told so before the references are judged
abbrev pub accepted_read : ℤ → Bool → Result Config Refusal → Result Config ReplyBody
accepted_read uid full (Err refusal) = Err (Refused refusal)
accepted_read uid full (Ok config) =
    if full then Err (ClientFull most_configs) else accepted_as config (linked_read uid config)

-- what a client's install of an id brings, with these live before it, or the answer that refuses it
unfoldable pub acceptance : ℤ → ℤ → List ℕ → List LiveConfig → Result Config ReplyBody
acceptance uid id bytes configs = accepted_read uid (is_full id configs) (config_read (config_of bytes))
