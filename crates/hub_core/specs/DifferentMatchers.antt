-- How many different simple matchers of an atom's id are live.
use Rattle.std.specs.Prelude.{ℕ, Bool, List, [], ◌∷◌, length, flat_map, if◌then◌else◌}
use Rattle.std.specs.List.{list_any}
use Rattle.atom_record.specs.declared.atom.Atom.{Atom}
use Rattle.config_types.specs.declared.matcher.SimpleMatcher.{SimpleMatcher}
use Rattle.config_types.specs.contracts.matcher.SimpleMatcherPartialEq.TheImpl as simple
use Rattle.config_links.specs.declared.linked.LMatcher.{LMatcher}
use Rattle.config_links.specs.declared.linked.LMatcher.TheVariants.{Simple, Combo}
use Rattle.matcher_truths.specs.MatcherTruths.{is_of_atom}
use Rattle.client_engine.specs.declared.live_id.LiveId.{LiveId}
use Rattle.hub_core.specs.declared.live_instance.LiveInstance.{LiveInstance}

-- two simple matchers have equal atom ids and equal lists of tests
abbrev pub is_same_matcher : SimpleMatcher → SimpleMatcher → Bool
is_same_matcher = simple.ghosts.eq

-- a matcher that is simple and of an atom's id, and nothing else
abbrev pub asked_matcher : Atom → LMatcher → List SimpleMatcher
asked_matcher atom (Simple matcher) = if is_of_atom atom matcher then matcher ∷ [] else []
asked_matcher atom (Combo op children) = []

-- the simple matchers of an atom's id in all these configurations
abbrev pub asked_matchers : Atom → List (LiveId × LiveInstance) → List SimpleMatcher
asked_matchers atom rows =
    flat_map (λ (row : LiveId × LiveInstance). flat_map (asked_matcher atom) row.1.carried.instance.matchers) rows

-- each of them once, as it last comes
abbrev pub different : List SimpleMatcher → List SimpleMatcher
different [] = []
different (matcher ∷ later) =
    if list_any (is_same_matcher matcher) later then different later else matcher ∷ different later

-- how many different ones there are
abbrev pub count_different : Atom → List (LiveId × LiveInstance) → ℕ
count_different atom rows = length (different (asked_matchers atom rows))
