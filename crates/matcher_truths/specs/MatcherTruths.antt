-- The truth of each matcher of a configuration on an atom, under a judge who says it of the simple ones.
use Rattle.std.specs.Prelude.{ℕ, ◌==◌, Bool, false, ◌&&◌, List, map, length, Option, Some, None}
use Rattle.std.specs.List.{slice_get, range_with_len}
use Rattle.atom_record.specs.declared.atom.Atom.{Atom}
use Rattle.config_types.specs.declared.matcher.SimpleMatcher.{SimpleMatcher}
use Rattle.config_types.specs.Askable.{IsAskable}
use Rattle.matcher_eval.specs.AtomTests.{number_set}
use Rattle.matcher_eval.specs.Combined.{combined_truth}
use Rattle.link_graph.specs.Unrolling.{unroll}
use Rattle.config_links.specs.declared.linked.LMatcher.{LMatcher}
use Rattle.config_links.specs.declared.linked.LMatcher.TheVariants.{Simple, Combo}
use Rattle.config_links.specs.SoundConfig.{named_matchers}

-- the places that each matcher names, in config order
abbrev pub named_places : List LMatcher → List (List ℕ)
named_places matchers = map named_matchers matchers

-- a simple matcher is of an atom's id
abbrev pub is_of_atom : Atom → SimpleMatcher → Bool
is_of_atom atom simple = atom.id == number_set simple.atom_id

module _ (says : SimpleMatcher → Atom → Bool) (atom : Atom) where
  -- a simple matcher of another atom's id is false, and of the others the judge says it
  abbrev pub simple_truth : SimpleMatcher → Bool
  simple_truth simple = is_of_atom atom simple && says simple atom

  -- the truth of a matcher, where the truth at each place is given
  abbrev pub truth_from : (ℕ → Bool) → Option LMatcher → Bool
  truth_from truth None = false
  truth_from truth (Some (Simple simple)) = simple_truth simple
  truth_from truth (Some (Combo op children)) = combined_truth op (map truth children)

  module _ (matchers : List LMatcher) where
    -- the truth of the matcher at a place, where the truth at each place is given
    abbrev pub truth_step : (ℕ → Bool) → ℕ → Bool
    truth_step truth place = truth_from truth (slice_get matchers place)

    -- the truth of the matcher at a place: references are followed as deep as there are matchers
    abbrev pub matches : ℕ → Bool
    matches = unroll truth_step false (length matchers)

    -- the truth of each matcher, in config order
    abbrev pub all_truths : List Bool
    all_truths = map matches (range_with_len 0 (length matchers))

-- a judge may be asked about a simple matcher
abbrev pub MayBeAsked : LMatcher → Type 0
MayBeAsked (Simple simple) = IsAskable simple
MayBeAsked (Combo op children) = Unit {0}
