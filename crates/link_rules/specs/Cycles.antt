-- Matchers and predicates that reach themselves.
use Rattle.std.specs.Prelude.{ℕ, ℤ, pos, List, [], ◌∷◌, map, Option, Some}
use Rattle.std.specs.Option.{option_map, unwrap_or}
use Rattle.config_types.specs.declared.matcher.MatcherDef.{MatcherDef}
use Rattle.config_types.specs.declared.matcher.MatcherBody.{MatcherBody}
use Rattle.config_types.specs.declared.matcher.MatcherBody.TheVariants as matcher
use Rattle.config_types.specs.declared.predicate.PredicateDef.{PredicateDef}
use Rattle.config_types.specs.declared.predicate.PredicateBody.{PredicateBody}
use Rattle.config_types.specs.declared.predicate.PredicateBody.TheVariants as predicate
use Rattle.link_graph.specs.Ids.{IdNode, first_to_reach_itself}
use Rattle.link_rules.specs.declared.entities.Entities.{Entities}
use Rattle.link_rules.specs.declared.fault.LinkFault.{LinkFault}
use Rattle.link_rules.specs.LinkFaults.{fault, first_of}
use Rattle.link_rules.specs.EntityIds.{matcher_ids, predicate_ids, place_in}

-- a matcher reaches itself
abbrev pub matcher_cycle : ℕ
matcher_cycle = 7

-- a predicate reaches itself
abbrev pub predicate_cycle : ℕ
predicate_cycle = 8

-- the matchers that a combination names; a simple matcher names none
abbrev pub child_matchers : Option MatcherBody → List ℤ
child_matchers (Some (matcher.Combo combo)) = combo.children
child_matchers _ = []

-- the predicates that a combination names; a simple predicate names none
abbrev pub child_predicates : Option PredicateBody → List ℤ
child_predicates (Some (predicate.Combo combo)) = combo.children
child_predicates _ = []

-- a matcher's id, and those that it names
abbrev pub matcher_node : MatcherDef → IdNode
matcher_node def = record { id = unwrap_or def.id (pos 0); named = child_matchers def.body }

-- a predicate's id, and those that it names
abbrev pub predicate_node : PredicateDef → IdNode
predicate_node def = record { id = unwrap_or def.id (pos 0); named = child_predicates def.body }

-- the first of a kind from which a list of references leads to itself; the value is its id
abbrev pub cycle_in : ℕ → List IdNode → Option LinkFault
cycle_in number nodes = option_map (λ (node : IdNode). fault number 0 node.id) (first_to_reach_itself nodes)

-- number 7: the first matcher that reaches itself
abbrev pub matcher_cycle_fault : Entities → Option LinkFault
matcher_cycle_fault entities = cycle_in matcher_cycle (map matcher_node entities.matchers)

-- number 8: the first predicate that reaches itself
abbrev pub predicate_cycle_fault : Entities → Option LinkFault
predicate_cycle_fault entities = cycle_in predicate_cycle (map predicate_node entities.predicates)

-- numbers 7 and 8
unfoldable pub cycle_fault : Entities → Option LinkFault
cycle_fault entities = first_of (matcher_cycle_fault entities ∷ predicate_cycle_fault entities ∷ [])

-- the places of those that an entity names, where entities have these ids
abbrev pub places_of : List ℤ → IdNode → List ℕ
places_of known node = map (place_in known) node.named

-- for each matcher the places of those that it names
abbrev pub matcher_links : Entities → List (List ℕ)
matcher_links entities = map (places_of (matcher_ids entities)) (map matcher_node entities.matchers)

-- for each predicate the places of those that it names
abbrev pub predicate_links : Entities → List (List ℕ)
predicate_links entities = map (places_of (predicate_ids entities)) (map predicate_node entities.predicates)
