-- The links of a metric to predicates: what they can't be, and their linked form.
use Rattle.std.specs.Prelude.{◌≡◌, ℕ, ◌<◌, ℤ, pos, ◌==◌, slice_index_or, Bool, false, not, ◌&&◌, ◌||◌, List, [], ◌∷◌, length, map, filter, nat_eq, Option, Some, None, is_none, is_some}
use Rattle.std.specs.Option.{option_map, unwrap_or}
use Rattle.std.specs.Ordering.{int_eq}
use Rattle.std.specs.List.{list_all, list_any, range_with_len}
use Rattle.distinct.specs.Places.{first_place}
use Rattle.distinct.specs.Repeats.{repeat_in}
use Rattle.field_select.specs.declared.leaf.FieldSet.{FieldSet}
use Rattle.field_select.specs.declared.leaf.LeafPath.{LeafPath}
use Rattle.field_select.specs.FieldSets.{same_leaf}
use Rattle.link_graph.specs.Within.{leads_within}
use Rattle.link_rules.specs.declared.entities.Metric.{Metric}
use Rattle.link_rules.specs.declared.fault.LinkFault.{LinkFault}
use Rattle.link_rules.specs.EntityIds.{set_ids, place_in}
use Rattle.config_links.specs.declared.linked.LLink.{LLink}
use Rattle.config_links.specs.declared.linked.LPredicate.{LPredicate}
use Rattle.config_links.specs.declared.scope.Scope.{Scope}
use Rattle.config_links.specs.declared.table.DimsTable.{DimsTable}
use Rattle.config_links.specs.declared.sets.LinkSets.{LinkSets}
use Rattle.config_links.specs.declared.reasons.Reason.{Reason}
use Rattle.config_links.specs.declared.reasons.Reason.TheVariants.{BadFields, UnevenLink, LinkNotAsked, LinkOutside, NoWhat}
use Rattle.config_links.specs.LinkReasons.{least_reason, no_leaf}
use Rattle.config_links.specs.LinkScopes.{predicate_named, spec_in, dims_in, named_predicates}
use Rattle.config_links.specs.MetricTrees.{metric_stands, metric_sets}

-- two sets have as many leaves, and not none
abbrev pub are_as_many : FieldSet → FieldSet → Bool
are_as_many one other = not (length one.leaves == 0) && (length one.leaves == length other.leaves)

-- the two sides of a link have as many leaves, and not none
abbrev pub is_even : LinkSets → Bool
is_even sets = are_as_many sets.in_what sets.in_condition

-- references lead from the predicate at the first place, where there is one, to that at the second
abbrev pub leads_from : List LPredicate → Option ℕ → ℕ → Bool
leads_from predicates (Some from) to = leads_within (length predicates) (map named_predicates predicates) from to
leads_from predicates None to = false

-- the predicate at a place is that of a condition, or is reached by it
abbrev pub is_reached : List LPredicate → Option ℕ → ℕ → Bool
is_reached predicates (Some from) to = (from == to) || leads_from predicates (Some from) to
is_reached predicates None to = false

-- each predicate has its mark exactly if that of a condition reaches it
abbrev pub AreMarked : List LPredicate → Option ℕ → List Bool → Type 0
AreMarked predicates from marks =
    (to : ℕ) → to < length predicates → slice_index_or marks to false ≡ leads_from predicates from to

-- the place of a condition, where there is one
abbrev pub condition_place : Scope → Option ℤ → Option ℕ
condition_place scope condition = option_map (place_in scope.ids.predicates) condition

-- a link's condition is a simple predicate that the metric's condition is or reaches
abbrev pub is_asked : Scope → Option ℤ → Option ℤ → Bool
is_asked scope condition (Some link) =
    is_some (spec_in (predicate_named scope link))
    && is_reached scope.predicates (condition_place scope condition) (place_in scope.ids.predicates link)
is_asked scope condition None = false

-- the condition that a link names
abbrev pub named_condition : LinkSets → Option ℤ
named_condition sets = sets.condition

-- the condition of each link is asked where that of the metric is, and no two links have the same
abbrev pub are_asked : Scope → Option ℤ → List LinkSets → Bool
are_asked scope condition links =
    list_all (λ (sets : LinkSets). is_asked scope condition sets.condition) links
    && is_none (repeat_in int_eq (set_ids (map named_condition links)))

-- a leaf of the second atom is one of these leaves of the first
abbrev pub is_one_of : ℕ → List LeafPath → ℕ → LeafPath → Bool
is_one_of atom leaves own leaf = (own == atom) && list_any (same_leaf leaf) leaves

-- each leaf of a set is one of these, and of the same atom
abbrev pub are_one_of : ℕ → List LeafPath → FieldSet → Bool
are_one_of atom leaves set = list_all (is_one_of atom leaves set.atom_id) set.leaves

-- of each of these the set is of these leaves, and of the same atom
abbrev pub are_all_of : {S : Type 0} → (S → FieldSet) → ℕ → List LeafPath → List S → Bool
are_all_of set_of atom leaves holders = list_all (λ holder. are_one_of atom leaves (set_of holder)) holders

-- the dimensions of a predicate, in a table
abbrev pub table_of : FieldSet → DimsTable
table_of set = record { atom_id = set.atom_id; leaves = set.leaves }

-- each leaf of a set is one of these dimensions, and of the same atom
abbrev pub is_within : FieldSet → FieldSet → Bool
is_within dims set = are_one_of dims.atom_id dims.leaves set

-- the dimensions of a link's predicate
abbrev pub link_dims : Scope → LinkSets → FieldSet
link_dims scope sets = dims_in (predicate_named scope (unwrap_or sets.condition (pos 0)))

-- the fields of a link in its condition are among that predicate's dimensions
abbrev pub is_bound : Scope → LinkSets → Bool
is_bound scope sets = is_within (link_dims scope sets) sets.in_condition

-- which of these leaves a leaf is
abbrev pub leaf_place : List LeafPath → LeafPath → ℕ
leaf_place leaves leaf = unwrap_or (first_place (same_leaf leaf) leaves) 0

-- which of its predicate's dimensions the leaves of a link are
abbrev pub link_places : Scope → LinkSets → List ℕ
link_places scope sets = map (leaf_place (link_dims scope sets).leaves) sets.in_condition.leaves

-- the places that are named, of so many, in rising order
abbrev pub rising_places : ℕ → List ℕ → List ℕ
rising_places count named = filter (λ place. list_any (nat_eq place) named) (range_with_len 0 count)

-- the leaf that has its turn where a place is named
abbrev pub leaf_bound : List ℕ → List LeafPath → ℕ → LeafPath
leaf_bound named leaves place = slice_index_or leaves (unwrap_or (first_place (nat_eq place) named) 0) no_leaf

-- the leaves that have their turns where places are named, of so many, and those places in rising order
abbrev pub leaves_and_places : ℕ → List ℕ → List LeafPath → List LeafPath × List ℕ
leaves_and_places count named leaves =
    (map (leaf_bound named leaves) (rising_places count named), rising_places count named)

-- the places that a link's leaves are bound to, in rising order
abbrev pub bound_places : Scope → LinkSets → List ℕ
bound_places scope sets = rising_places (length (link_dims scope sets).leaves) (link_places scope sets)

-- the leaves of what is counted, in the order of their places
abbrev pub bound_leaves : Scope → LinkSets → List LeafPath
bound_leaves scope sets = map (leaf_bound (link_places scope sets) sets.in_what.leaves) (bound_places scope sets)

-- the leaves and the places of a link
abbrev pub bound_parts : Scope → LinkSets → List LeafPath × List ℕ
bound_parts scope sets = (bound_leaves scope sets, bound_places scope sets)

-- a link, with the place of its predicate; its leaves stand in the order of the predicate's dimensions that they are
-- bound to
abbrev pub linked_link : Scope → LinkSets → LLink
linked_link scope sets = record {
  predicate = place_in scope.ids.predicates (unwrap_or sets.condition (pos 0));
  in_what = record { atom_id = sets.in_what.atom_id; leaves = bound_leaves scope sets };
  places = bound_places scope sets;
}

-- the links of a metric
abbrev pub linked_links : Scope → Metric → List LLink
linked_links scope metric = map (linked_link scope) (metric_sets metric).links

-- what the trees and the links of a metric can't be
abbrev pub link_reasons : Scope → Metric → List (Reason × Bool)
link_reasons scope metric =
    (BadFields, not (metric_stands metric))
    ∷ (UnevenLink, not (list_all is_even (metric_sets metric).links))
    ∷ (LinkNotAsked, not (are_asked scope metric.common.condition (metric_sets metric).links))
    ∷ (LinkOutside, not (list_all (is_bound scope) (metric_sets metric).links))
    ∷ (NoWhat, is_none metric.common.what)
    ∷ []

-- the fault of a metric's trees, its links or its missing name
unfoldable pub bad_links : Scope → Metric → Option LinkFault
bad_links scope metric = least_reason metric.common.id (link_reasons scope metric)
