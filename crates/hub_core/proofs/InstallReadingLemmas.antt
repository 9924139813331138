-- What was linked without a refusal.
use Rattle.std.proofs.Common.{◌≡◌, ℤ, Option, Some, None, Ok}
use Rattle.config_types.specs.declared.config.Config.{Config}
use Rattle.link_rules.specs.declared.fault.LinkFault.{LinkFault}
use Rattle.config_links.specs.declared.linked.Linked.{Linked}
use Rattle.config_links.specs.Verdict.{verdict, linked_form}
use Rattle.hub_meaning.specs.Acceptance.{read_unless, linked_read}

-- it is the linked form
pub linked_is : (uid : ℤ) (config : Config) (linked : Linked) → linked_read uid config ≡ Ok linked
    → linked ≡ linked_form config uid
linked_is uid config linked is = by_fault (verdict config) is where
  by_fault : (fault : Option LinkFault) → read_unless fault (linked_form config uid) ≡ Ok linked
      → linked ≡ linked_form config uid
  by_fault (Some found) same = absurd (cc)
  by_fault None same = cc
