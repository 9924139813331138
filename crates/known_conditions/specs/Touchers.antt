-- The matchers that touch a predicate, and the atoms that change a state of a metric: for private clauses.
use Rattle.std.specs.Prelude.{ℕ, ◌==◌, Bool, false, List, [], length, map, slice_get, Option, Some, None, if◌then◌else◌, get_or}
use Rattle.std.specs.List.{flat_map, list_any, range_with_len}
use Rattle.std.specs.Option.{option_map_or}
use Rattle.config_links.specs.declared.linked.LPredicate.{LPredicate}
use Rattle.config_links.specs.declared.linked.LSlice.{LSlice}
use Rattle.config_links.specs.declared.linked.LState.{LState}
use Rattle.config_links.specs.MetricLinks.{is_reached}
use Rattle.config_links.specs.OwnMatchers.{predicate_matchers}
use Rattle.metric_meaning.specs.Histories.{truth_at}

-- the matchers of the predicate that is found at a place
abbrev pub matchers_found : Option LPredicate → List ℕ
matchers_found None = []
matchers_found (Some predicate) = predicate_matchers predicate.body

-- those of the predicate at a place, if it is the one at the root or is reached from it
abbrev pub matchers_below : List LPredicate → ℕ → ℕ → List ℕ
matchers_below predicates root place =
    if is_reached predicates (Some root) place then matchers_found (slice_get predicates place) else []

-- the matchers that start or stop the predicate at the root, or one that is reached from it
abbrev pub touchers : List LPredicate → ℕ → List ℕ
touchers predicates root = flat_map (matchers_below predicates root) (range_with_len 0 (length predicates))

-- the same of each predicate
abbrev pub all_touchers : List LPredicate → List (List ℕ)
all_touchers predicates = map (touchers predicates) (range_with_len 0 (length predicates))

-- one of these matchers holds
abbrev pub one_holds : List Bool → List ℕ → Bool
one_holds truths matchers = list_any (λ matcher. truth_at matcher truths) matchers

-- a state that was found is told by atoms of this id
abbrev pub is_told_by : ℕ → Option LState → Bool
is_told_by id found = option_map_or (λ (state : LState). id == state.atom_id) found false

-- one of the states that these slices name is
abbrev pub tells_one : List LState → ℕ → List LSlice → Bool
tells_one states id slices = list_any (λ (slice : LSlice). is_told_by id (slice_get states slice.state)) slices

-- the matchers that touch the predicate that is named, if one is
abbrev pub touchers_named : List LPredicate → Option ℕ → List ℕ
touchers_named predicates None = []
touchers_named predicates (Some root) = get_or (all_touchers predicates) root []
