-- What is found of a configuration by its bytes: it is sound, with so many entities, or it has one fault.
use Rattle.std.specs.Prelude.{ℕ, pos, List, length, Option, Some, None, Result, Ok, Err}
use Rattle.config_types.specs.declared.config.Config.{Config}
use Rattle.config_decode.specs.ConfigFault as config_faults
use Rattle.config_decode.specs.ConfigFault.{ConfigFault}
use Rattle.config_decode.specs.Config.{config_of}
use Rattle.link_rules.specs.declared.fault.LinkFault.{LinkFault}
use Rattle.config_links.specs.declared.linked.Linked.{Linked}
use Rattle.config_links.specs.Verdict.{verdict, linked_form}
use Rattle.config_check.specs.declared.finding.EntityCounts.{EntityCounts}
use Rattle.config_check.specs.declared.finding.Finding.{Finding}
use Rattle.config_check.specs.declared.finding.Finding.TheVariants.{Sound, TooLarge, Malformed, Unsupported, Unlinked}

-- how many entities of each kind a linked configuration has
abbrev pub entity_counts : Linked → EntityCounts
entity_counts linked = record {
  matchers = length linked.matchers;
  predicates = length linked.predicates;
  states = length linked.states;
  metrics = length linked.metrics;
}

-- what is found of a configuration with this verdict; the client is the one of uid 0
abbrev pub finding_by : Config → Option LinkFault → Finding
finding_by config None = Sound (entity_counts (linked_form config (pos 0)))
finding_by config (Some fault) = Unlinked fault

-- what is found of bytes that say this: the references of a configuration are judged, its form isn't
abbrev pub finding_on : Result Config ConfigFault → Finding
finding_on (Ok config) = finding_by config (verdict config)
finding_on (Err (config_faults.TooLarge size)) = TooLarge size
finding_on (Err (config_faults.Wire fault)) = Malformed fault
finding_on (Err (config_faults.Unsupported path)) = Unsupported path

-- what is found of the bytes of a configuration
unfoldable pub finding_of : List ℕ → Finding
finding_of bytes = finding_on (config_of bytes)
