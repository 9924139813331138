-- The links of a metric are sound where none of its reasons on them holds.
use Rattle.std.proofs.Common.{◌≡◌, ◌≢◌, ℕ, ◌<◌, ◌≤◌, true, not, ◌==◌, List, [], ◌∷◌, ◌++◌, map, length, get_or, Option, Some, None, is_some, slice_get, All, AllPairs, refl, sym, ap, ◌∙◌, subst, arith}
use Rattle.std.specs.Prelude.{ℤ, pos}
use Rattle.std.specs.Ordering.{int_eq}
use Rattle.std.specs.Option.{option_to_list, unwrap_or}
use Rattle.std.specs.List.{AllByRecursion, list_any, list_all}
use Rattle.std.proofs.lemmas.Bool.Decides.{Decides-int_eq, Decides-eqb}
use Rattle.std.proofs.lemmas.List.{length-map}
use Rattle.std.proofs.lemmas.List.Elements.{All-from_recursion}
use Rattle.config_types.specs.declared.metric.LinkDef.{LinkDef}
use Rattle.distinct.specs.Repeats.{repeat_in, AreApart}
use Rattle.distinct.proofs.ApartLemmas.{apart_without_repeat}
use Rattle.field_select.specs.declared.leaf.LeafPath.{LeafPath}
use Rattle.field_select.specs.FieldSets.{IsLeaf, same_leaf}
use Rattle.link_rules.specs.EntityIds.{place_in, set_ids}
use Rattle.link_rules.specs.EntityNames.{link_condition}
use Rattle.config_links.specs.declared.linked.LPredicate.{LPredicate}
use Rattle.config_links.specs.declared.linked.LLink.{LLink}
use Rattle.config_links.specs.declared.scope.Scope.{Scope}
use Rattle.config_links.specs.declared.sets.LinkSets.{LinkSets}
use Rattle.config_links.specs.LinkReasons.{may_stand, set_or_none}
use Rattle.config_links.specs.LinkScopes.{predicate_named, spec_in, dims_in}
use Rattle.config_links.specs.MetricTrees.{link_stands, sets_of_link}
use Rattle.config_links.specs.MetricLinks.{rising_places, leaf_bound, is_even, is_reached, condition_place, is_asked, named_condition, is_one_of, is_bound, leaf_place, linked_link}
use Rattle.config_links.specs.SoundConfig.{AreWithin, IsSoundLink}
use Rattle.config_links.proofs.LinkOrderLemmas.{places_within, places_rise, some_place, leaves_kept, leaves_once}
use Rattle.config_links.proofs.SoundParts.{left_holds, right_holds, set_is_sound, apart_mapped}
use Rattle.config_links.proofs.SoundNames.{Known, MayBeKnown, led_to, same_place, pairs_mapped, place_below, not_zero, something_found}

module _ (scope : Scope) (many : length scope.ids.predicates ≤ length scope.predicates) (condition : Option ℤ) where
  abbrev links_sound_here : List LLink → Type 0
  links_sound_here links = AllByRecursion (IsSoundLink scope.predicates (condition_place scope condition)) links

  -- the places of leaves that are each one of these
  places_below : (atom : ℕ) (leaves : List LeafPath) (own : ℕ) (found : List LeafPath)
      → list_all (is_one_of atom leaves own) found ≡ true
      → AllByRecursion (λ place. place < length leaves) (map (leaf_place leaves) found)
  places_below atom leaves own [] all = tt
  places_below atom leaves own (leaf ∷ found) all =
      let here = left_holds (is_one_of atom leaves own leaf) (list_all (is_one_of atom leaves own) found) all in
      let is = right_holds (own == atom) (list_any (same_leaf leaf) leaves) here in (
        place_below (same_leaf leaf) leaves is,
        places_below atom leaves own found
            (right_holds (is_one_of atom leaves own leaf) (list_all (is_one_of atom leaves own) found) all),
      )

  -- a link whose condition is known, and of which each test holds
  link_sound : (def : LinkDef) (id : Option ℤ) → def.condition ≡ id → MayBeKnown scope.ids.predicates id
      → link_stands def ≡ true → is_even (sets_of_link def) ≡ true
      → is_asked scope condition id ≡ true
      → is_bound scope (record (sets_of_link def) { condition = id }) ≡ true
      → IsSoundLink scope.predicates (condition_place scope condition)
      (linked_link scope (record (sets_of_link def) { condition = id }))
  link_sound def None is known stands even asked bound = absurd (cc)
  link_sound def (Some id) is known stands even asked bound =
      let in_what = set_or_none def.in_what in
      let in_condition = set_or_none def.in_condition in
      let place = place_in scope.ids.predicates id in
      let at : predicate_named scope id ≡ slice_get scope.predicates place =
      led_to scope.predicates scope.ids.predicates id known in
      let below : place < length scope.ids.predicates = place_below (int_eq id) scope.ids.predicates known in
      let some = left_holds (not (length in_what.leaves == 0)) (length in_what.leaves == length in_condition.leaves)
      even in
      let same : length in_what.leaves ≡ length in_condition.leaves =
      (Decides-eqb (length in_what.leaves) (length in_condition.leaves)).0
      (right_holds (not (length in_what.leaves == 0)) (length in_what.leaves == length in_condition.leaves) even) in
      let dims = dims_in (predicate_named scope id) in
      let places : AreWithin (length dims.leaves) (map (leaf_place dims.leaves) in_condition.leaves) =
      All-from_recursion (λ p. p < length dims.leaves) (map (leaf_place dims.leaves) in_condition.leaves)
      (places_below dims.atom_id dims.leaves in_condition.atom_id in_condition.leaves bound) in
      let named = map (leaf_place dims.leaves) in_condition.leaves in
      let as_many : length named ≡ length in_what.leaves =
      length-map in_condition.leaves (leaf_place dims.leaves) ∙ sym same in
      let some_leaf : 1 ≤ length in_what.leaves = not_zero (length in_what.leaves) some in
      let sound = set_is_sound def.in_what (left_holds (may_stand def.in_what) (may_stand def.in_condition) stands) in
      let count = length dims.leaves in
      let many_places = length-map (rising_places count named) (leaf_bound named in_what.leaves) in
      let one_place : 1 ≤ length (rising_places count named) =
      some_place count named (omega (arith, as_many, some_leaf)) places in
      record {
        within = omega (arith, below, many);
        simple = subst (λ (found : Option LPredicate). spec_in found ≢ None) at
            (something_found (spec_in (predicate_named scope id))
            (left_holds (is_some (spec_in (predicate_named scope id)))
            (is_reached scope.predicates (condition_place scope condition) place) asked));
        asked = right_holds (is_some (spec_in (predicate_named scope id)))
            (is_reached scope.predicates (condition_place scope condition) place) asked;
        fields = record {
          fields = record {
            each = leaves_kept count named in_what.leaves as_many IsLeaf sound.fields.each;
            once = leaves_once count named in_what.leaves as_many sound.fields.once;
          };
          atom = λ any. sound.atom some_leaf;
        };
        some = omega (arith, one_place, many_places);
        even = sym many_places;
        bound = subst (λ (found : Option LPredicate). AreWithin (length (dims_in found).leaves)
            (rising_places count named)) at (places_within count named);
        rise = places_rise count named;
      }

  -- links whose conditions are known, and of which each test holds
  links_sound_by : (defs : List LinkDef) → AllByRecursion (MayBeKnown scope.ids.predicates) (map link_condition defs)
      → list_all link_stands defs ≡ true
      → list_all is_even (map sets_of_link defs) ≡ true
      → list_all (λ (sets : LinkSets). is_asked scope condition sets.condition) (map sets_of_link defs) ≡ true
      → list_all (is_bound scope) (map sets_of_link defs) ≡ true
      → links_sound_here (map (linked_link scope) (map sets_of_link defs))
  links_sound_by [] known stand even asked bound = tt
  links_sound_by (def ∷ defs) known stand even asked bound = (
    link_sound def def.condition refl known.0 (left_holds _ (list_all link_stands defs) stand)
        (left_holds _ (list_all is_even (map sets_of_link defs)) even)
        (left_holds _ (list_all (λ (sets : LinkSets). is_asked scope condition sets.condition)
        (map sets_of_link defs)) asked)
        (left_holds _ (list_all (is_bound scope) (map sets_of_link defs)) bound),
    links_sound_by defs known.1 (right_holds (link_stands def) _ stand)
        (right_holds (is_even (sets_of_link def)) _ even)
        (right_holds (is_asked scope condition def.condition) _ asked)
        (right_holds (is_bound scope (sets_of_link def)) _ bound),
  )

  pub links_sound : (defs : List LinkDef) → AllByRecursion (MayBeKnown scope.ids.predicates) (map link_condition defs)
      → list_all link_stands defs ≡ true
      → list_all is_even (map sets_of_link defs) ≡ true
      → list_all (λ (sets : LinkSets). is_asked scope condition sets.condition) (map sets_of_link defs) ≡ true
      → list_all (is_bound scope) (map sets_of_link defs) ≡ true
      → All (IsSoundLink scope.predicates (condition_place scope condition))
      (map (linked_link scope) (map sets_of_link defs))
  links_sound defs known stand even asked bound =
      All-from_recursion (IsSoundLink scope.predicates (condition_place scope condition))
      (map (linked_link scope) (map sets_of_link defs)) (links_sound_by defs known stand even asked bound)

  -- the id of a link's condition
  abbrev condition_id : LinkDef → ℤ
  condition_id def = unwrap_or def.condition (pos 0)

  one_set : (id : Option ℤ) (others ids : List ℤ) → is_asked scope condition id ≡ true → others ≡ ids
      → option_to_list id ++ others ≡ unwrap_or id (pos 0) ∷ ids
  one_set None others ids asked same = absurd (cc)
  one_set (Some id) others ids asked same = ap (λ more. id ∷ more) same

  -- where each link's condition is asked, each has one
  all_set : (defs : List LinkDef)
      → list_all (λ (sets : LinkSets). is_asked scope condition sets.condition) (map sets_of_link defs) ≡ true
      → set_ids (map named_condition (map sets_of_link defs)) ≡ map condition_id defs
  all_set [] asked = refl
  all_set (def ∷ defs) asked =
      one_set def.condition (set_ids (map named_condition (map sets_of_link defs))) (map condition_id defs)
      (left_holds (is_asked scope condition def.condition)
      (list_all (λ (sets : LinkSets). is_asked scope condition sets.condition) (map sets_of_link defs)) asked)
      (all_set defs (right_holds (is_asked scope condition def.condition) _ asked))

  one_known : (id : Option ℤ) → is_asked scope condition id ≡ true → MayBeKnown scope.ids.predicates id
      → Known scope.ids.predicates (unwrap_or id (pos 0))
  one_known None asked known = absurd (cc)
  one_known (Some id) asked known = known

  all_known : (defs : List LinkDef) → AllByRecursion (MayBeKnown scope.ids.predicates) (map link_condition defs)
      → list_all (λ (sets : LinkSets). is_asked scope condition sets.condition) (map sets_of_link defs) ≡ true
      → AllByRecursion (λ def. Known scope.ids.predicates (condition_id def)) defs
  all_known [] known asked = tt
  all_known (def ∷ defs) known asked = (
    one_known def.condition
        (left_holds (is_asked scope condition def.condition)
        (list_all (λ (sets : LinkSets). is_asked scope condition sets.condition) (map sets_of_link defs)) asked)
        known.0,
    all_known defs known.1 (right_holds (is_asked scope condition def.condition) _ asked),
  )

  -- no two links are to the same predicate
  pub links_apart : (defs : List LinkDef) → AllByRecursion (MayBeKnown scope.ids.predicates) (map link_condition defs)
      → list_all (λ (sets : LinkSets). is_asked scope condition sets.condition) (map sets_of_link defs) ≡ true
      → repeat_in int_eq (set_ids (map named_condition (map sets_of_link defs))) ≡ None
      → AllPairs (λ (link later : LLink). link.predicate ≢ later.predicate)
      (map (linked_link scope) (map sets_of_link defs))
  links_apart defs known asked none =
      let ids : AreApart (map condition_id defs) =
      subst AreApart (all_set defs asked) (apart_without_repeat int_eq Decides-int_eq _ none) in
      let each = All-from_recursion (λ def. Known scope.ids.predicates (condition_id def)) defs
      (all_known defs known asked) in
      let defs_apart = apart_mapped condition_id defs ids in
      pairs_mapped (linked_link scope) (λ (link later : LLink). link.predicate ≢ later.predicate)
      (map sets_of_link defs)
      (pairs_mapped sets_of_link (λ (one later : LinkSets). (linked_link scope one).predicate ≢
      (linked_link scope later).predicate) defs
      (λ i j d before within e.
      defs_apart i j d before within
      (same_place scope.ids.predicates (condition_id (get_or defs i d)) (condition_id (get_or defs j d))
      (each i d (omega (arith, before, within))) (each j d within) e)))
