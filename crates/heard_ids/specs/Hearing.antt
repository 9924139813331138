-- The frames that a linked configuration hears: of all other atoms none of the matchers that it heeds holds, and none
-- of its states is told.
use Rattle.std.specs.Prelude.{ℕ, zero, suc, ◌==◌, Bool, false, List, [], ◌∷◌, ◌++◌, map, length, slice_get, Option, Some, None}
use Rattle.std.specs.List.{flat_map, list_any, range_with_len}
use Rattle.matcher_eval.specs.AtomTests.{number_set}
use Rattle.matcher_eval.specs.Combined.{combined_truth}
use Rattle.link_graph.specs.Unrolling.{unroll}
use Rattle.config_links.specs.declared.linked.LMatcher.{LMatcher}
use Rattle.config_links.specs.declared.linked.LMatcher.TheVariants as linked_matchers
use Rattle.config_links.specs.declared.linked.LPredicate.{LPredicate}
use Rattle.config_links.specs.declared.linked.LState.{LState}
use Rattle.config_links.specs.declared.linked.Linked.{Linked}
use Rattle.config_links.specs.OwnMatchers.{predicate_matchers, metric_matchers}

-- the id of a simple matcher, and no id of a combination
abbrev pub matched_id : LMatcher → List ℕ
matched_id (linked_matchers.Simple simple) = number_set simple.atom_id ∷ []
matched_id (linked_matchers.Combo op children) = []

-- the ids whose atoms and pulls a configuration hears: those of its simple matchers and of its states
abbrev pub heard_ids : Linked → List ℕ
heard_ids linked = flat_map matched_id linked.matchers ++ map (λ (state : LState). state.atom_id) linked.states

-- a configuration hears the atoms and pulls of an id
abbrev pub is_heard : Linked → ℕ → Bool
is_heard linked id = list_any (λ heard. heard == id) (heard_ids linked)

-- the matchers that a configuration heeds: those of its predicates, then those of its metrics
abbrev pub heeded_matchers : Linked → List ℕ
heeded_matchers linked =
    flat_map (λ (predicate : LPredicate). predicate_matchers predicate.body) linked.predicates
    ++ flat_map metric_matchers linked.metrics

-- the truth of a matcher where no simple one holds, and where the truth at each place is given
abbrev pub idle_from : (ℕ → Bool) → Option LMatcher → Bool
idle_from truth None = false
idle_from truth (Some (linked_matchers.Simple simple)) = false
idle_from truth (Some (linked_matchers.Combo op children)) = combined_truth op (map truth children)

-- the same of the matcher at a place
abbrev pub idle_step : List LMatcher → (ℕ → Bool) → ℕ → Bool
idle_step matchers truth place = idle_from truth (slice_get matchers place)

-- the matcher at a place holds where no simple one does: references are followed as deep as there are matchers
abbrev pub holds_idle : List LMatcher → ℕ → Bool
holds_idle matchers = unroll (idle_step matchers) false (length matchers)

-- the truth of each matcher where no simple one holds, in config order
abbrev pub silent_truths : List LMatcher → List Bool
silent_truths matchers = map (holds_idle matchers) (range_with_len 0 (length matchers))

-- the truth that is listed for a place, and none past the end
abbrev pub truth_listed : ℕ → List Bool → Bool
truth_listed place [] = false
truth_listed zero (truth ∷ truths) = truth
truth_listed (suc place) (truth ∷ truths) = truth_listed place truths

-- one of the matchers at these places holds
abbrev pub some_holds : List Bool → List ℕ → Bool
some_holds truths places = list_any (λ place. truth_listed place truths) places

-- a configuration hears every atom: one of the matchers that it heeds holds where no simple one does, as a negation may
abbrev pub hears_all : Linked → Bool
hears_all linked = some_holds (silent_truths linked.matchers) (heeded_matchers linked)
