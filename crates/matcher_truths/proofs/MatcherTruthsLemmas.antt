-- A matcher's truth comes from those of its children.
use Rattle.std.proofs.Common.{◌≡◌, ℕ, ◌<◌, Bool, false, List, length, Option, Some, None, refl, sym, ap, subst, arith}
use Rattle.std.specs.List.{Contains, slice_get}
use Rattle.std.proofs.lemmas.List.{length-map}
use Rattle.atom_record.specs.declared.atom.Atom.{Atom}
use Rattle.config_types.specs.declared.matcher.SimpleMatcher.{SimpleMatcher}
use Rattle.config_links.specs.declared.linked.LMatcher.{LMatcher}
use Rattle.config_links.specs.declared.linked.LMatcher.TheVariants.{Simple, Combo}
use Rattle.config_links.specs.SoundConfig.{named_matchers}
use Rattle.link_graph.specs.Links.{Refers, AreInRange, HasNoCycle}
use Rattle.link_graph.specs.Unrolling.{LooksDown}
use Rattle.link_graph.proofs.DepthLaws.{ends_from_no_cycle}
use Rattle.link_graph.proofs.NodeLemmas.{map_same, children_of}
use Rattle.link_graph.proofs.UnrollingLaws.{equation}
use Rattle.matcher_eval.specs.Combined.{combined_truth}
use Rattle.matcher_truths.specs.MatcherTruths.{named_places, truth_from, truth_step, matches}

module _ (says : SimpleMatcher → Atom → Bool) (atom : Atom) (matchers : List LMatcher) where
  same_truth : (f g : ℕ → Bool) (m : LMatcher) → ((y : ℕ) → Contains (named_matchers m) y → f y ≡ g y)
      → truth_from says atom f (Some m) ≡ truth_from says atom g (Some m)
  same_truth f g (Simple simple) same = refl
  same_truth f g (Combo op children) same = ap (combined_truth op) (map_same f g children same)

  same_found : (f g : ℕ → Bool) (x : ℕ) (found : Option LMatcher) → slice_get matchers x ≡ found
      → ((y : ℕ) → Refers (named_places matchers) x y → f y ≡ g y) → truth_from says atom f found
      ≡ truth_from says atom g found
  same_found f g x None e same = refl
  same_found f g x (Some m) e same =
      same_truth f g m (λ y named. same y (subst (λ (xs : List ℕ). Contains xs y)
      (sym (children_of named_matchers matchers x m e)) named))

  -- the truth of a matcher comes from the truths of those that it names
  truth_looks_down : LooksDown (named_places matchers) (truth_step says atom matchers)
  truth_looks_down f g x same = same_found f g x (slice_get matchers x) refl same

  -- without a cycle each place's truth is that of its matcher, by the truths at its children's places
  pub equation_without_cycle : AreInRange (named_places matchers) → HasNoCycle (named_places matchers) → (x : ℕ)
      → x < length matchers → matches says atom matchers x
      ≡ truth_from says atom (matches says atom matchers) (slice_get matchers x)
  equation_without_cycle in_range no_cycle x here =
      let many : length (named_places matchers) ≡ length matchers = length-map matchers named_matchers in
      equation (named_places matchers) (truth_step says atom matchers) false truth_looks_down
      (length (named_places matchers)) x (length matchers)
      (ends_from_no_cycle (named_places matchers) no_cycle in_range x (omega arith)) (omega arith)
