-- What is asked of a configuration before its entities are looked at one by one: how many there are, their ids, and
-- where their names lead.
use Rattle.std.specs.Prelude.{[], ◌∷◌, Option}
use Rattle.link_rules.specs.declared.entities.Entities.{Entities}
use Rattle.link_rules.specs.declared.fault.LinkFault.{LinkFault}
use Rattle.link_rules.specs.declared.known.Ids.{Ids}
use Rattle.link_rules.specs.LinkFaults.{first_of}
use Rattle.link_rules.specs.Cycles.{cycle_fault}
use Rattle.link_rules.specs.EntityLimits.{limit_fault}
use Rattle.link_rules.specs.EntityIds.{no_id_fault, duplicate_id_fault, matcher_ids, predicate_ids, state_ids, metric_ids}
use Rattle.link_rules.specs.EntityNames.{unknown_matcher_fault, unknown_predicate_fault, unknown_state_fault}

-- the ids of each kind
abbrev pub ids_in : Entities → Ids
ids_in entities = record {
  matchers = matcher_ids entities;
  predicates = predicate_ids entities;
  states = state_ids entities;
  metrics = metric_ids entities;
}

-- numbers 1 to 3: how many there are, and their ids
unfoldable pub id_fault : Entities → Option LinkFault
id_fault entities = first_of (limit_fault entities ∷ no_id_fault entities ∷ duplicate_id_fault entities ∷ [])

-- numbers 4 to 6: names of matchers, predicates and states
unfoldable pub name_fault : Entities → Option LinkFault
name_fault entities = first_of
    (unknown_matcher_fault entities ∷ unknown_predicate_fault entities ∷ unknown_state_fault entities ∷ [])

-- numbers 4 to 8: where names lead, and what is below itself
unfoldable pub reference_fault : Entities → Option LinkFault
reference_fault entities = first_of (name_fault entities ∷ cycle_fault entities ∷ [])

-- the first fault, in the order of the numbers from 1 to 8
unfoldable pub rule_fault : Entities → Option LinkFault
rule_fault entities = first_of (id_fault entities ∷ reference_fault entities ∷ [])
