-- Matchers, predicates and states with places in the stead of ids. What a fault excludes has some form here, too.
use Rattle.std.specs.Prelude.{ℤ, pos, List, [], map, length, Option, Some, None}
use Rattle.std.specs.Option.{option_map, unwrap_or}
use Rattle.config_types.specs.declared.matcher.MatcherDef.{MatcherDef}
use Rattle.config_types.specs.declared.matcher.MatcherBody.{MatcherBody}
use Rattle.config_types.specs.declared.matcher.MatcherBody.TheVariants as matcher
use Rattle.config_types.specs.declared.matcher.Operation.{Operation}
use Rattle.config_types.specs.declared.matcher.Operation.TheVariants.{And}
use Rattle.config_types.specs.declared.predicate.PredicateDef.{PredicateDef}
use Rattle.config_types.specs.declared.predicate.PredicateBody.{PredicateBody}
use Rattle.config_types.specs.declared.predicate.PredicateBody.TheVariants as predicate
use Rattle.config_types.specs.declared.state.StateDef.{StateDef}
use Rattle.config_types.specs.declared.state.GroupDef.{GroupDef}
use Rattle.field_select.specs.WellFormed.{number_or_zero}
use Rattle.link_rules.specs.EntityIds.{place_in}
use Rattle.link_rules.specs.EntityLimits.{bound_or_default}
use Rattle.config_links.specs.declared.linked.LMatcher.{LMatcher}
use Rattle.config_links.specs.declared.linked.LMatcher.TheVariants as linked_matchers
use Rattle.config_links.specs.declared.linked.LPredicate.{LPredicate}
use Rattle.config_links.specs.declared.linked.LPredBody.{LPredBody}
use Rattle.config_links.specs.declared.linked.LPredBody.TheVariants as linked_bodies
use Rattle.config_links.specs.declared.linked.LState.{LState}
use Rattle.config_links.specs.declared.linked.LGroup.{LGroup}
use Rattle.config_links.specs.LinkReasons.{set_or_none}

-- the operation of a combination
abbrev pub operation_or_and : Option Operation → Operation
operation_or_and op = unwrap_or op And

-- a matcher's body, where matchers have these ids
abbrev pub matcher_form : List ℤ → Option MatcherBody → LMatcher
matcher_form known (Some (matcher.Simple simple)) = linked_matchers.Simple simple
matcher_form known (Some (matcher.Combo combo)) =
    linked_matchers.Combo (operation_or_and combo.op) (map (place_in known) combo.children)
matcher_form known None = linked_matchers.Combo And []

-- a matcher, where matchers have these ids
abbrev pub linked_matcher : List ℤ → MatcherDef → LMatcher
linked_matcher known def = matcher_form known def.body

-- a predicate's body, where matchers and predicates have these ids
abbrev pub linked_body : List ℤ → List ℤ → Option PredicateBody → LPredBody
linked_body matchers predicates (Some (predicate.Simple simple)) = linked_bodies.Simple
    (option_map (place_in matchers) simple.start)
    (option_map (place_in matchers) simple.stop)
    (option_map (place_in matchers) simple.stop_all)
    (set_or_none simple.dims)
    (record {
      nesting = simple.nesting;
      unknown = simple.unknown;
      bound = bound_or_default simple.bound;
      leaves = length (set_or_none simple.dims).leaves;
    })
linked_body matchers predicates (Some (predicate.Combo combo)) =
    linked_bodies.Combo (operation_or_and combo.op) (map (place_in predicates) combo.children)
linked_body matchers predicates None = linked_bodies.Combo And []

-- a predicate, where matchers and predicates have these ids
abbrev pub linked_predicate : List ℤ → List ℤ → PredicateDef → LPredicate
linked_predicate matchers predicates def =
    record { id = unwrap_or def.id (pos 0); body = linked_body matchers predicates def.body }

-- a group of values; one that names no id has 0
abbrev pub linked_group : GroupDef → LGroup
linked_group def = record { group = unwrap_or def.group (pos 0); values = def.values }

-- a state
abbrev pub linked_state : StateDef → LState
linked_state def = record { atom_id = number_or_zero def.atom_id; map = option_map (map linked_group) def.map }
