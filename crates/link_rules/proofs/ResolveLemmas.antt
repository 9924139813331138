-- Where ids and names have no fault, the matchers and the predicates that are named have their places.
use Rattle.std.proofs.Common.{◌≡◌, ℕ, ◌+◌, Bool, true, false, List, [], ◌∷◌, map, Option, Some, None, if◌then◌else◌, refl, ap, subst, ◌∙◌}
use Rattle.std.specs.Prelude.{ℤ, pos}
use Rattle.std.specs.Ordering.{int_eq}
use Rattle.std.specs.Option.{option_map, unwrap_or}
use Rattle.std.specs.List.{list_any, AllByRecursion}
use Rattle.config_types.specs.declared.matcher.MatcherDef.{MatcherDef}
use Rattle.config_types.specs.declared.matcher.MatcherBody.{MatcherBody}
use Rattle.config_types.specs.declared.matcher.MatcherBody.TheVariants as matcher
use Rattle.config_types.specs.declared.predicate.PredicateDef.{PredicateDef}
use Rattle.config_types.specs.declared.predicate.PredicateBody.{PredicateBody}
use Rattle.config_types.specs.declared.predicate.PredicateBody.TheVariants as predicate
use Rattle.distinct.specs.Repeats.{repeat_in}
use Rattle.link_graph.specs.Links.{HasNoCycle}
use Rattle.link_graph.specs.Ids.{IdNode}
use Rattle.link_rules.specs.declared.entities.Entities.{Entities}
use Rattle.link_rules.specs.LinkFaults.{fault, duplicate_id, matcher_kind, predicate_kind, unknown_matcher, unknown_predicate}
use Rattle.link_rules.specs.EntityLimits.{limit_fault, AreFew}
use Rattle.link_rules.specs.EntityIds.{no_id_from, set_ids, matcher_ids, predicate_ids, id_of_matcher, id_of_predicate, missing_ids, duplicate_ids, no_id_fault, duplicate_id_fault}
use Rattle.link_rules.specs.EntityNames.{first_unknown, matchers_of_matcher, predicates_of_predicate, unknown_matchers, unknown_predicates, unknown_matcher_fault, unknown_predicate_fault, unknown_state_fault}
use Rattle.link_rules.specs.LinkRules.{id_fault, name_fault}
use Rattle.link_rules.specs.Cycles.{child_matchers, child_predicates, matcher_node, predicate_node, matcher_links, predicate_links, matcher_cycle, predicate_cycle, matcher_cycle_fault, predicate_cycle_fault, cycle_fault}
use Rattle.link_rules.specs.CycleNodes.{ResolvesIn}
use Rattle.link_rules.proofs.LinkFaultLemmas.{none_of, none_in}
use Rattle.link_rules.proofs.LimitLemmas.{few}
use Rattle.link_rules.proofs.CycleLemmas.{AreKnown, resolves, no_cycle_of}

-- what was mapped was there
unmapped : {A B : Type 0} (f : A → B) (found : Option A) → option_map f found ≡ None → found ≡ None
unmapped f None h = refl
unmapped f (Some x) h = absurd (cc)

-- where each has an id, the ids are those of all
all_set : (kind place : ℕ) (ids : List (Option ℤ)) → no_id_from kind place ids ≡ None
    → set_ids ids ≡ map (λ id. unwrap_or id (pos 0)) ids
all_set kind place [] h = refl
all_set kind place (None ∷ ids) h = absurd (cc)
all_set kind place (Some id ∷ ids) h = ap (λ more. id ∷ more) (all_set kind (place + 1) ids h)

known_step : (is : Bool) (id : ℤ) (more : Option ℤ) → (if is then more else Some id) ≡ None
    → (is ≡ true) × (more ≡ None)
known_step true id more h = (refl, h)
known_step false id more h = absurd (cc)

-- where no name is unknown, each is known
names_known : (known ids : List ℤ) → first_unknown known (map Some ids) ≡ None
    → AllByRecursion (λ id. list_any (int_eq id) known ≡ true) ids
names_known known [] h = tt
names_known known (id ∷ ids) h =
    let both = known_step (list_any (int_eq id) known) id (first_unknown known (map Some ids)) h in
    (both.0, names_known known ids both.1)

matcher_known : (known : List ℤ) (def : MatcherDef) (body : Option MatcherBody) → def.body ≡ body
    → first_unknown known (matchers_of_matcher def) ≡ None
    → AllByRecursion (λ id. list_any (int_eq id) known ≡ true) (child_matchers body)
matcher_known known def (Some (matcher.Combo combo)) is h =
    names_known known combo.children
    (subst (λ (body : Option MatcherBody). first_unknown known
    (matchers_of_matcher (record { id = def.id; body = body })) ≡ None) is h)
matcher_known known def (Some (matcher.Simple simple)) is h = tt
matcher_known known def None is h = tt

matchers_known : (known : List ℤ) (defs : List MatcherDef)
    → AllByRecursion (λ def. first_unknown known (matchers_of_matcher def) ≡ None) defs
    → AreKnown known (map matcher_node defs)
matchers_known known [] all = tt
matchers_known known (def ∷ defs) all =
    (matcher_known known def def.body refl all.0, matchers_known known defs all.1)

predicate_known : (known : List ℤ) (def : PredicateDef) (body : Option PredicateBody) → def.body ≡ body
    → first_unknown known (predicates_of_predicate def) ≡ None
    → AllByRecursion (λ id. list_any (int_eq id) known ≡ true) (child_predicates body)
predicate_known known def (Some (predicate.Combo combo)) is h =
    names_known known combo.children
    (subst (λ (body : Option PredicateBody). first_unknown known
    (predicates_of_predicate (record { id = def.id; body = body })) ≡ None) is h)
predicate_known known def (Some (predicate.Simple simple)) is h = tt
predicate_known known def None is h = tt

predicates_known : (known : List ℤ) (defs : List PredicateDef)
    → AllByRecursion (λ def. first_unknown known (predicates_of_predicate def) ≡ None) defs
    → AreKnown known (map predicate_node defs)
predicates_known known [] all = tt
predicates_known known (def ∷ defs) all =
    (predicate_known known def def.body refl all.0, predicates_known known defs all.1)

matcher_ids_again : (defs : List MatcherDef)
    → map (λ id. unwrap_or id (pos 0)) (map id_of_matcher defs) ≡ map (λ (node : IdNode). node.id)
    (map matcher_node defs)
matcher_ids_again [] = refl
matcher_ids_again (def ∷ defs) = ap (λ more. unwrap_or def.id (pos 0) ∷ more) (matcher_ids_again defs)

predicate_ids_again : (defs : List PredicateDef)
    → map (λ id. unwrap_or id (pos 0)) (map id_of_predicate defs) ≡ map (λ (node : IdNode). node.id)
    (map predicate_node defs)
predicate_ids_again [] = refl
predicate_ids_again (def ∷ defs) = ap (λ more. unwrap_or def.id (pos 0) ∷ more) (predicate_ids_again defs)

module _ (entities : Entities) where
  id_parts : id_fault entities ≡ None
      → (limit_fault entities ≡ None) × (no_id_fault entities ≡ None) × (duplicate_id_fault entities ≡ None)
  unfolding id_fault
  id_parts h =
      let parts = none_of (limit_fault entities ∷ no_id_fault entities ∷ duplicate_id_fault entities ∷ []) h in
      (parts.0, parts.1.0, parts.1.1.0)

  name_parts : name_fault entities ≡ None
      → (unknown_matcher_fault entities ≡ None) × (unknown_predicate_fault entities ≡ None)
  unfolding name_fault
  name_parts h =
      let parts = none_of
      (unknown_matcher_fault entities ∷ unknown_predicate_fault entities ∷ unknown_state_fault entities ∷ []) h in
      (parts.0, parts.1.0)

  -- where ids have no fault, the ids of a kind are those of its entities
  pub matcher_ids_are : id_fault entities ≡ None
      → matcher_ids entities ≡ map (λ (node : IdNode). node.id) (map matcher_node entities.matchers)
  unfolding no_id_fault matcher_ids
  matcher_ids_are h =
      let parts = none_of (missing_ids entities) (id_parts h).1 in
      all_set matcher_kind 0 (map id_of_matcher entities.matchers) parts.0 ∙ matcher_ids_again entities.matchers

  pub predicate_ids_are : id_fault entities ≡ None
      → predicate_ids entities ≡ map (λ (node : IdNode). node.id) (map predicate_node entities.predicates)
  unfolding no_id_fault predicate_ids
  predicate_ids_are h =
      let parts = none_of (missing_ids entities) (id_parts h).1 in
      all_set predicate_kind 0 (map id_of_predicate entities.predicates) parts.1.0
      ∙ predicate_ids_again entities.predicates

  -- and no two are equal
  matchers_apart : id_fault entities ≡ None → repeat_in int_eq (matcher_ids entities) ≡ None
  unfolding duplicate_id_fault matcher_ids
  matchers_apart h =
      unmapped (fault duplicate_id matcher_kind) _ (none_of (duplicate_ids entities) (id_parts h).2).0

  predicates_apart : id_fault entities ≡ None → repeat_in int_eq (predicate_ids entities) ≡ None
  unfolding duplicate_id_fault predicate_ids
  predicates_apart h =
      unmapped (fault duplicate_id predicate_kind) _ (none_of (duplicate_ids entities) (id_parts h).2).1.0

  -- where names have no fault, each child is known
  matcher_names : name_fault entities ≡ None → AreKnown (matcher_ids entities) (map matcher_node entities.matchers)
  unfolding unknown_matcher_fault
  matcher_names h =
      let known = matcher_ids entities in
      let parts = none_of (unknown_matchers known entities) (name_parts h).0 in
      let each = none_in (λ def. first_unknown known (matchers_of_matcher def)) entities.matchers
      (unmapped (fault unknown_matcher matcher_kind) _ parts.0) in
      matchers_known known entities.matchers each

  predicate_names : name_fault entities ≡ None
      → AreKnown (predicate_ids entities) (map predicate_node entities.predicates)
  unfolding unknown_predicate_fault
  predicate_names h =
      let known = predicate_ids entities in
      let parts = none_of (unknown_predicates known entities) (name_parts h).1 in
      let each = none_in (λ def. first_unknown known (predicates_of_predicate def)) entities.predicates
      (unmapped (fault unknown_predicate predicate_kind) _ parts.0) in
      predicates_known known entities.predicates each

  -- the matchers that are named have their places, and so have the predicates
  pub matchers_resolve : id_fault entities ≡ None → name_fault entities ≡ None
      → ResolvesIn (matcher_ids entities) (map matcher_node entities.matchers)
  matchers_resolve numbered named =
      resolves (map matcher_node entities.matchers) (matcher_ids entities) (matcher_ids_are numbered)
      (matcher_names named) (matchers_apart numbered)

  pub predicates_resolve : id_fault entities ≡ None → name_fault entities ≡ None
      → ResolvesIn (predicate_ids entities) (map predicate_node entities.predicates)
  predicates_resolve numbered named =
      resolves (map predicate_node entities.predicates) (predicate_ids entities) (predicate_ids_are numbered)
      (predicate_names named) (predicates_apart numbered)

  pub few_entities : id_fault entities ≡ None → AreFew entities
  few_entities h = few entities (id_parts h).0

  -- where there is no fault of cycles, none reaches itself
  pub matchers_have_no_cycle : id_fault entities ≡ None → name_fault entities ≡ None → cycle_fault entities ≡ None
      → HasNoCycle (matcher_links entities)
  unfolding cycle_fault
  matchers_have_no_cycle numbered named none =
      let parts = none_of (matcher_cycle_fault entities ∷ predicate_cycle_fault entities ∷ []) none in
      no_cycle_of (map matcher_node entities.matchers) (matcher_ids entities) (matchers_resolve numbered named)
      (unmapped (λ (node : IdNode). fault matcher_cycle 0 node.id) _ parts.0)

  pub predicates_have_no_cycle : id_fault entities ≡ None → name_fault entities ≡ None → cycle_fault entities ≡ None
      → HasNoCycle (predicate_links entities)
  unfolding cycle_fault
  predicates_have_no_cycle numbered named none =
      let parts = none_of (matcher_cycle_fault entities ∷ predicate_cycle_fault entities ∷ []) none in
      no_cycle_of (map predicate_node entities.predicates) (predicate_ids entities) (predicates_resolve numbered named)
      (unmapped (λ (node : IdNode). fault predicate_cycle 0 node.id) _ parts.1.0)
