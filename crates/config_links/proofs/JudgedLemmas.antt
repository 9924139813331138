-- What is judged in steps is the first fault of all.
use Rattle.std.proofs.Common.{◌≡◌, ℤ, List, [], ◌∷◌, map, Option, Some, None, Result, Err, refl, sym, ap, ◌∙◌, subst}
use Rattle.config_types.specs.declared.config.Config.{Config}
use Rattle.link_rules.specs.declared.entities.Entities.{Entities}
use Rattle.link_rules.specs.declared.fault.LinkError.{LinkError}
use Rattle.link_rules.specs.declared.fault.LinkError.TheVariants.{Fault, Memory}
use Rattle.link_rules.specs.declared.fault.LinkFault.{LinkFault}
use Rattle.link_rules.specs.declared.known.Ids.{Ids}
use Rattle.link_rules.specs.Entities.{entities_of}
use Rattle.link_rules.specs.EntityIds.{metric_ids}
use Rattle.link_rules.specs.EntityNames.{unknown_watched, unknown_metric_fault}
use Rattle.link_rules.specs.LinkFaults.{Links, first_of}
use Rattle.link_rules.specs.LinkRules.{rule_fault, ids_in}
use Rattle.config_links.specs.declared.linked.LMatcher.{LMatcher}
use Rattle.config_links.specs.declared.linked.LPredicate.{LPredicate}
use Rattle.config_links.specs.declared.linked.LState.{LState}
use Rattle.config_links.specs.declared.linked.Linked.{Linked}
use Rattle.config_links.specs.declared.scope.Scope.{Scope}
use Rattle.config_links.specs.LinkedForm.{linked_matcher, linked_predicate, linked_state}
use Rattle.config_links.specs.Verdict.{verdict, linked_form, judged, first_fault, late_fault, scope_of, matchers_linked, predicates_linked, states_linked, bad_part_fault, bad_metric_fault, bad_alert_fault, hidden_fault, bad_type_fault}

module _ {A : Type 0} where
  in_steps : (rules parts metrics alerts hidden unknown : Option A)
      → first_of (rules ∷ first_of (parts ∷ metrics ∷ alerts ∷ hidden ∷ []) ∷ unknown ∷ [])
      ≡ first_of (rules ∷ first_of (parts ∷ first_of (metrics ∷ alerts ∷ hidden ∷ unknown ∷ []) ∷ []) ∷ [])
  in_steps (Some x) parts metrics alerts hidden unknown = refl
  in_steps None (Some x) metrics alerts hidden unknown = refl
  in_steps None None (Some x) alerts hidden unknown = refl
  in_steps None None None (Some x) hidden unknown = refl
  in_steps None None None None (Some x) unknown = refl
  in_steps None None None None None (Some x) = refl
  in_steps None None None None None None = refl

by_entities : (entities : Entities) → first_fault entities ≡ first_of (rule_fault entities ∷ late_fault entities ∷ [])
unfolding bad_type_fault unknown_metric_fault late_fault
by_entities entities =
    in_steps (rule_fault entities) (bad_part_fault entities.matchers entities.predicates entities.states)
    (bad_metric_fault (scope_of entities) entities.metrics)
    (bad_alert_fault (metric_ids entities) entities.metrics entities.alerts)
    (hidden_fault (metric_ids entities) entities.no_report) (unknown_watched (metric_ids entities) entities.alerts)

-- the first fault of a configuration is the one that is judged
pub is_judged : (config : Config) → verdict config ≡ judged config
unfolding verdict
is_judged config = by_entities (entities_of config)

-- so what was answered by the one is answered by the other
pub links_by_verdict : (result : Result Linked LinkError) (config : Config) (uid : ℤ)
    → Links result (judged config) (linked_form config uid) → Links result (verdict config) (linked_form config uid)
links_by_verdict result config uid h =
    subst (λ (fault : Option LinkFault). Links result fault (linked_form config uid)) (sym (is_judged config)) h

-- an error says nothing of what would be given
pub any_given : {S T : Type 0} (error : LinkError) (fault : Option LinkFault) (given : S) (wanted : T)
    → Links (Err error) fault given → Links (Err error) fault wanted
any_given (Fault found) fault given wanted h = h
any_given Memory fault given wanted h = tt

-- what metrics are linked with, made of these parts
pub scope_made : (entities : Entities) (ids : Ids) (parts : List LMatcher × List LPredicate × List LState)
    → ids ≡ ids_in entities
    → parts ≡ (
      map (linked_matcher ids.matchers) entities.matchers,
      map (linked_predicate ids.matchers ids.predicates) entities.predicates,
      map linked_state entities.states,
    )
    → record { ids = ids; matchers = parts.0; predicates = parts.1; states = parts.2 } ≡ scope_of entities
unfolding matchers_linked predicates_linked states_linked
scope_made entities ids parts is same =
    ap (λ (made : List LMatcher × List LPredicate × List LState).
    let scope : Scope = record { ids = ids; matchers = made.0; predicates = made.1; states = made.2 } in scope) same
    ∙ ap (λ (all : Ids). let scope : Scope = record {
      ids = all;
      matchers = map (linked_matcher all.matchers) entities.matchers;
      predicates = map (linked_predicate all.matchers all.predicates) entities.predicates;
      states = map linked_state entities.states;
    } in scope) is
