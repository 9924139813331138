-- Linked matchers, predicates and states are sound where no rule is broken and none of them has a reason.
use Rattle.std.proofs.Common.{◌≡◌, ◌≢◌, ℕ, ◌<◌, ◌≤◌, Bool, true, false, not, ◌&&◌, List, [], ◌∷◌, map, length, Option, Some, None, Ok, if◌then◌else◌, nat_lt, nat_le, AllPairs, refl, sym, ap, ◌∙◌, subst, arith}
use Rattle.std.specs.Prelude.{ℤ, pos, negsuc}
use Rattle.std.specs.Ordering.{int_eq}
use Rattle.std.specs.Option.{option_map}
use Rattle.std.specs.List.{All, AllByRecursion, list_any, list_all}
use Rattle.std.proofs.lemmas.Bool.{leb-true, ltb-true}
use Rattle.std.proofs.lemmas.List.{length-map, get_or-map}
use Rattle.std.proofs.lemmas.List.Elements.{All-from_recursion}
use Rattle.config_types.specs.declared.fields.FieldMatcher.{FieldMatcher}
use Rattle.config_types.specs.declared.matcher.MatcherDef.{MatcherDef}
use Rattle.config_types.specs.declared.matcher.MatcherBody.{MatcherBody}
use Rattle.config_types.specs.declared.matcher.MatcherBody.TheVariants as matcher
use Rattle.config_types.specs.declared.matcher.Operation.{Operation}
use Rattle.config_types.specs.declared.predicate.PredicateDef.{PredicateDef}
use Rattle.config_types.specs.declared.predicate.PredicateBody.{PredicateBody}
use Rattle.config_types.specs.declared.predicate.PredicateBody.TheVariants as predicate
use Rattle.config_types.specs.declared.state.StateDef.{StateDef}
use Rattle.config_types.specs.Askable.{greatest_atom_id, is_set_up_to, is_askable_test}
use Rattle.field_select.specs.FieldSets.{IsFieldSet}
use Rattle.field_select.specs.WellFormed.{is_number_to, number_in, number_or_zero, set_of}
use Rattle.field_select.proofs.LeafLemmas.{answer_is_set}
use Rattle.link_rules.specs.declared.fault.LinkFault.{LinkFault}
use Rattle.link_rules.specs.LinkFaults.{first_reason}
use Rattle.link_rules.specs.declared.limits.Limit.{Limit}
use Rattle.link_rules.specs.declared.limits.Limit.TheVariants.{PredicateBound}
use Rattle.link_rules.specs.EntityLimits.{most_bound, most_of, number_limit, predicate_limit, bound_or_default}
use Rattle.link_rules.specs.EntityIds.{place_in}
use Rattle.link_rules.specs.EntityNames.{first_unknown, matchers_of_matcher, matchers_of_predicate, predicates_of_predicate}
use Rattle.link_rules.specs.Cycles.{child_matchers, child_predicates, matcher_node, predicate_node, places_of}
use Rattle.link_rules.proofs.LinkFaultLemmas.{no_reason}
use Rattle.config_links.specs.declared.reasons.Reason.{Reason}
use Rattle.config_links.specs.LinkReasons.{least_reason, type_fault, takes_children, is_combo, set_or_none, may_stand, matcher_reasons, bad_matcher, predicate_reasons, bad_predicate, state_reasons, bad_state}
use Rattle.config_links.specs.LinkedForm.{operation_or_and, matcher_form, linked_matcher, linked_body, linked_predicate, linked_state}
use Rattle.config_links.specs.LinkScopes.{named_predicates, body_children}
use Rattle.config_links.specs.SoundConfig.{AreWithin, MayBeWithin, IsFromOne, IsBound, IsSoundSet, named_matchers, IsSoundMatcher, IsSoundBody, IsSoundPredicate, IsSoundState}
use Rattle.config_links.proofs.ReadyLemmas.{place_within, all_within}

-- a test that doesn't fail holds
pub holds : (test : Bool) → not test ≡ false → test ≡ true
holds true h = refl
holds false h = absurd (cc)

-- two tests that hold
pub both_hold : (one other : Bool) → one ≡ true → other ≡ true → (one && other) ≡ true
both_hold true other h k = k
both_hold false other h k = absurd (cc)

pub left_holds : (one other : Bool) → (one && other) ≡ true → one ≡ true
left_holds true other h = refl
left_holds false other h = absurd (cc)

pub right_holds : (one other : Bool) → (one && other) ≡ true → other ≡ true
right_holds true other h = h
right_holds false other h = absurd (cc)

-- where what was mapped isn't there, nothing was
pub nothing_mapped : {A B : Type 0} (f : A → B) (found : Option A) → option_map f found ≡ None → found ≡ None
nothing_mapped f None h = refl
nothing_mapped f (Some x) h = absurd (cc)

-- without a fault no test of a table holds
pub no_test : (id : Option ℤ) (rows : List (Reason × Bool)) → least_reason id rows ≡ None
    → AllByRecursion (λ (row : Reason × Bool). row.1 ≡ false) rows
no_test id rows h = no_reason rows (nothing_mapped (type_fault id) (first_reason rows) h)

-- a number that is set up to a greatest one is from 1 to it
pub number_from_one : (greatest : ℕ) (number : Option ℤ) → is_number_to greatest number ≡ true
    → IsFromOne greatest (number_or_zero number)
number_from_one greatest (Some (pos n)) is =
    let low : 0 < n = ltb-true 0 n (left_holds (nat_lt 0 n) (nat_le n greatest) is) in
    (omega arith, leb-true n greatest (right_holds (nat_lt 0 n) (nat_le n greatest) is))
number_from_one greatest (Some (negsuc n)) is = absurd (cc)
number_from_one greatest None is = absurd (cc)

pub set_from_one : (greatest : ℕ) (number : Option ℤ) → is_set_up_to greatest number ≡ true
    → IsFromOne greatest (number_or_zero number)
set_from_one greatest (Some (pos n)) is = (
  leb-true 1 n (left_holds (nat_le 1 n) (nat_le n greatest) is),
  leb-true n greatest (right_holds (nat_le 1 n) (nat_le n greatest) is),
)
set_from_one greatest (Some (negsuc n)) is = absurd (cc)
set_from_one greatest None is = absurd (cc)

-- no leaves are a set
none_is_set : IsFieldSet (set_or_none None)
none_is_set = record { each = λ k d within. absurd (omega arith); once = λ i j d before within. absurd (omega arith) }

-- the leaves of a tree that isn't ill-formed are a set, of the tree's atom
pub set_is_sound : (tree : Option FieldMatcher) → may_stand tree ≡ true → IsSoundSet (set_or_none tree)
set_is_sound (Some tree) is = record {
  fields = answer_is_set (Ok (set_of tree)) tree (is, refl);
  atom = λ some. number_from_one greatest_atom_id (number_in tree)
      (left_holds (is_number_to greatest_atom_id (number_in tree)) _ is);
}
set_is_sound None is = record { fields = none_is_set; atom = λ some. absurd (omega arith) }

pub limit_step : (within : Bool) (found : LinkFault) → (if within then None else Some found) ≡ None → within ≡ true
limit_step true found h = refl
limit_step false found h = absurd (cc)

-- a number within its limit, or the one that an absent one stands for
pub bound_fits : (limit : Limit) → most_of limit ≡ most_bound → (bound : Option ℤ) → number_limit limit bound ≡ None
    → IsBound (bound_or_default bound)
bound_fits limit most None h = (omega arith, omega arith)
bound_fits limit most (Some (pos n)) h =
    let is : is_number_to (most_of limit) (Some (pos n)) ≡ true = limit_step _ _ h in
    subst (λ (greatest : ℕ). IsFromOne greatest n) most (number_from_one (most_of limit) (Some (pos n)) is)
bound_fits limit most (Some (negsuc n)) h = absurd (cc)

-- the operation of a combination takes as many children
pub combo_takes : (op : Option Operation) (count : ℕ) → is_combo op count ≡ true
    → takes_children (operation_or_and op) count ≡ true
combo_takes (Some op) count h = h
combo_takes None count h = absurd (cc)

combo_sound : (known : List ℤ) (op : Option Operation) (children : List ℤ) → is_combo op (length children) ≡ true
    → takes_children (operation_or_and op) (length (map (place_in known) children)) ≡ true
combo_sound known op children is =
    ap (takes_children (operation_or_and op)) (length-map children (place_in known))
    ∙ combo_takes op (length children) is

module _ (known : List ℤ) (count : ℕ) (few : length known ≤ count) where
  -- the places of children that are known
  children_within : (ids : List ℤ) → first_unknown known (map Some ids) ≡ None
      → AreWithin count (map (place_in known) ids)
  children_within ids names =
      All-from_recursion (λ place. place < count) (map (place_in known) ids) (all_within known count few ids names)

  matcher_body_sound : (def : MatcherDef) (body : Option MatcherBody)
      → first_unknown known (matchers_of_matcher (record def { body = body })) ≡ None
      → AllByRecursion (λ (row : Reason × Bool). row.1 ≡ false) (matcher_reasons body)
      → IsSoundMatcher count (matcher_form known body)
  matcher_body_sound def (Some (matcher.Simple simple)) names tests =
      both_hold (is_set_up_to greatest_atom_id simple.atom_id) (list_all is_askable_test simple.tests)
      (holds _ tests.1.1.0) (holds _ tests.1.1.1.0)
  matcher_body_sound def (Some (matcher.Combo combo)) names tests =
      (combo_sound known combo.op combo.children (holds _ tests.1.0), children_within combo.children names)
  matcher_body_sound def None names tests = absurd (cc (tests.0))

  matchers_sound_by : (defs : List MatcherDef)
      → AllByRecursion (λ def. first_unknown known (matchers_of_matcher def) ≡ None) defs
      → AllByRecursion (λ def. bad_matcher def ≡ None) defs
      → AllByRecursion (IsSoundMatcher count) (map (linked_matcher known) defs)
  matchers_sound_by [] names good = tt
  matchers_sound_by (def ∷ defs) names good = (
    matcher_body_sound def def.body names.0 (no_test def.id (matcher_reasons def.body) good.0),
    matchers_sound_by defs names.1 good.1,
  )

  -- matchers whose children are known and that have no reason
  pub matchers_sound : (defs : List MatcherDef)
      → AllByRecursion (λ def. first_unknown known (matchers_of_matcher def) ≡ None) defs
      → AllByRecursion (λ def. bad_matcher def ≡ None) defs
      → All (IsSoundMatcher count) (map (linked_matcher known) defs)
  matchers_sound defs names good =
      All-from_recursion (IsSoundMatcher count) (map (linked_matcher known) defs) (matchers_sound_by defs names good)

  known_step : (is : Bool) (id : ℤ) (more : Option ℤ) → (if is then more else Some id) ≡ None
      → (is ≡ true) × (more ≡ None)
  known_step true id more h = (refl, h)
  known_step false id more h = absurd (cc)

  -- the place of the first of these names, if it is there, and no other is unknown
  pub first_name_within : (name : Option ℤ) (others : List (Option ℤ)) → first_unknown known (name ∷ others) ≡ None
      → MayBeWithin count (option_map (place_in known) name) × (first_unknown known others ≡ None)
  first_name_within None others h = (tt, h)
  first_name_within (Some id) others h =
      let both = known_step (list_any (int_eq id) known) id (first_unknown known others) h in
      let lt : place_in known id < length known = place_within known id both.0 in
      (omega (arith, lt, few), both.1)

module _ (matchers predicates : List ℤ) (some many : ℕ) (few : length matchers ≤ some)
    (few_too : length predicates ≤ many) where
  predicate_body_sound : (def : PredicateDef) (body : Option PredicateBody)
      → first_unknown matchers (matchers_of_predicate (record def { body = body })) ≡ None
      → first_unknown predicates (predicates_of_predicate (record def { body = body })) ≡ None
      → predicate_limit (record def { body = body }) ≡ None
      → AllByRecursion (λ (row : Reason × Bool). row.1 ≡ false) (predicate_reasons body)
      → IsSoundBody some many (linked_body matchers predicates body)
  predicate_body_sound def (Some (predicate.Simple simple)) starts names within tests =
      let start = first_name_within matchers some few simple.start (simple.stop ∷ simple.stop_all ∷ []) starts in
      let stop = first_name_within matchers some few simple.stop (simple.stop_all ∷ []) start.1 in
      let stop_all = first_name_within matchers some few simple.stop_all [] stop.1 in
      record {
        starts = start.0;
        stops = stop.0;
        stops_all = stop_all.0;
        fields = set_is_sound simple.dims (holds _ tests.1.1.0);
        leaves = refl;
        bound = bound_fits PredicateBound refl simple.bound within;
      }
  predicate_body_sound def (Some (predicate.Combo combo)) starts names within tests = (
    combo_sound predicates combo.op combo.children (holds _ tests.1.0),
    children_within predicates many few_too combo.children names,
  )
  predicate_body_sound def None starts names within tests = absurd (cc (tests.0))

  predicates_sound_by : (defs : List PredicateDef)
      → AllByRecursion (λ def. first_unknown matchers (matchers_of_predicate def) ≡ None) defs
      → AllByRecursion (λ def. first_unknown predicates (predicates_of_predicate def) ≡ None) defs
      → AllByRecursion (λ def. predicate_limit def ≡ None) defs
      → AllByRecursion (λ def. bad_predicate def ≡ None) defs
      → AllByRecursion (IsSoundPredicate some many) (map (linked_predicate matchers predicates) defs)
  predicates_sound_by [] starts names within good = tt
  predicates_sound_by (def ∷ defs) starts names within good = (
    predicate_body_sound def def.body starts.0 names.0 within.0 (no_test def.id (predicate_reasons def.body) good.0),
    predicates_sound_by defs starts.1 names.1 within.1 good.1,
  )

  -- predicates whose names are known, whose bounds are within the limit and that have no reason
  pub predicates_sound : (defs : List PredicateDef)
      → AllByRecursion (λ def. first_unknown matchers (matchers_of_predicate def) ≡ None) defs
      → AllByRecursion (λ def. first_unknown predicates (predicates_of_predicate def) ≡ None) defs
      → AllByRecursion (λ def. predicate_limit def ≡ None) defs
      → AllByRecursion (λ def. bad_predicate def ≡ None) defs
      → All (IsSoundPredicate some many) (map (linked_predicate matchers predicates) defs)
  predicates_sound defs starts names within good =
      All-from_recursion (IsSoundPredicate some many) (map (linked_predicate matchers predicates) defs)
      (predicates_sound_by defs starts names within good)

states_sound_by : (defs : List StateDef) → AllByRecursion (λ def. bad_state def ≡ None) defs
    → AllByRecursion IsSoundState (map linked_state defs)
states_sound_by [] good = tt
states_sound_by (def ∷ defs) good =
    let tests = no_test def.id (state_reasons def) good.0 in
    (set_from_one greatest_atom_id def.atom_id (holds _ tests.0), states_sound_by defs good.1)

-- states that have no reason
pub states_sound : (defs : List StateDef) → AllByRecursion (λ def. bad_state def ≡ None) defs
    → All IsSoundState (map linked_state defs)
states_sound defs good = All-from_recursion IsSoundState (map linked_state defs) (states_sound_by defs good)

-- what a linked matcher names are the places of those that it names by id
matcher_names_again : (known : List ℤ) (body : Option MatcherBody)
    → map (place_in known) (child_matchers body) ≡ named_matchers (matcher_form known body)
matcher_names_again known (Some (matcher.Simple simple)) = refl
matcher_names_again known (Some (matcher.Combo combo)) = refl
matcher_names_again known None = refl

pub matcher_links_again : (known : List ℤ) (defs : List MatcherDef)
    → map (places_of known) (map matcher_node defs) ≡ map named_matchers (map (linked_matcher known) defs)
matcher_links_again known [] = refl
matcher_links_again known (def ∷ defs) =
    let first = matcher_names_again known def.body in
    let later = matcher_links_again known defs in
    cc

predicate_names_again : (matchers known : List ℤ) (body : Option PredicateBody)
    → map (place_in known) (child_predicates body) ≡ body_children (linked_body matchers known body)
predicate_names_again matchers known (Some (predicate.Simple simple)) = refl
predicate_names_again matchers known (Some (predicate.Combo combo)) = refl
predicate_names_again matchers known None = refl

pub predicate_links_again : (matchers known : List ℤ) (defs : List PredicateDef)
    → map (places_of known) (map predicate_node defs)
    ≡ map named_predicates (map (linked_predicate matchers known) defs)
predicate_links_again matchers known [] = refl
predicate_links_again matchers known (def ∷ defs) =
    let first = predicate_names_again matchers known def.body in
    let later = predicate_links_again matchers known defs in
    cc

-- where what is made of items differs, so do the items' values
pub apart_mapped : {A B : Type 0} (f : A → B) (xs : List A) → AllPairs (λ one later. one ≢ later) (map f xs)
    → AllPairs (λ one later. f one ≢ f later) xs
apart_mapped f xs apart i j d before within e =
    let in_j : j < length xs = within in
    let in_i : i < length xs = omega (arith, before, within) in
    apart i j (f d) before (omega (arith, within, length-map xs f))
    (get_or-map f xs i d (f d) in_i ∙ e ∙ sym (get_or-map f xs j d (f d) in_j))
