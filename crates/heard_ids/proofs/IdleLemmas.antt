-- The truths of matchers where no simple one holds, along an order in which each comes after those that it names.
use Rattle.std.proofs.Common.{◌≡◌, ℕ, ◌+◌, ◌<◌, ◌≤◌, Bool, false, List, length, get_or, set, take, take_all, Option, Some, None, inl, inr, refl, sym, ap, subst, ◌∙◌, arith}
use Rattle.std.specs.List.{Contains, slice_get}
use Rattle.std.proofs.lemmas.Bool.{cases_eq}
use Rattle.std.proofs.lemmas.List.{length-map, take_more, get_or-set_same, get_or-set_other}
use Rattle.std.proofs.lemmas.List.Elements.{Contains-push_cases}
use Rattle.std.proofs.lemmas.List.FromFn.{fill_by_all}
use Rattle.config_links.specs.declared.linked.LMatcher.{LMatcher}
use Rattle.config_links.specs.declared.linked.LMatcher.TheVariants.{Simple, Combo}
use Rattle.config_links.specs.SoundConfig.{named_matchers}
use Rattle.link_graph.specs.Links.{Refers, AreInRange, HasNoCycle, IsOrder}
use Rattle.link_graph.specs.Unrolling.{LooksDown}
use Rattle.link_graph.proofs.DepthLaws.{ends_from_no_cycle}
use Rattle.link_graph.proofs.NodeLemmas.{map_same, children_of}
use Rattle.link_graph.proofs.UnrollingLaws.{equation}
use Rattle.matcher_eval.specs.Combined.{combined_truth}
use Rattle.matcher_truths.specs.MatcherTruths.{named_places}
use Rattle.heard_ids.specs.Hearing.{idle_from, idle_step, holds_idle, silent_truths, truth_listed}
use Rattle.heard_ids.proofs.HeededLemmas.{listed_there}

-- the places of an order so far have their truths
abbrev pub AreIdleSoFar : List LMatcher → List ℕ → ℕ → List Bool → Type 0
AreIdleSoFar matchers order i truths =
    (p : ℕ) → Contains (take i order) p → get_or truths p false ≡ holds_idle matchers p

module _ (matchers : List LMatcher) where
  same_idle : (f g : ℕ → Bool) (m : LMatcher) → ((y : ℕ) → Contains (named_matchers m) y → f y ≡ g y)
      → idle_from f (Some m) ≡ idle_from g (Some m)
  same_idle f g (Simple simple) same = refl
  same_idle f g (Combo op children) same = ap (combined_truth op) (map_same f g children same)

  same_found : (f g : ℕ → Bool) (x : ℕ) (found : Option LMatcher) → slice_get matchers x ≡ found
      → ((y : ℕ) → Refers (named_places matchers) x y → f y ≡ g y) → idle_from f found ≡ idle_from g found
  same_found f g x None is same = refl
  same_found f g x (Some m) is same =
      same_idle f g m (λ y named. same y (subst (λ (xs : List ℕ). Contains xs y)
      (sym (children_of named_matchers matchers x m is)) named))

  -- the truth of a matcher comes from the truths of those that it names
  idle_looks_down : LooksDown (named_places matchers) (idle_step matchers)
  idle_looks_down f g x same = same_found f g x (slice_get matchers x) refl same

  module _ (in_range : AreInRange (named_places matchers)) (no_cycle : HasNoCycle (named_places matchers)) where
    idle_equation : (x : ℕ) → x < length matchers
        → holds_idle matchers x ≡ idle_from (holds_idle matchers) (slice_get matchers x)
    idle_equation x here =
        let many : length (named_places matchers) ≡ length matchers = length-map matchers named_matchers in
        equation (named_places matchers) (idle_step matchers) false idle_looks_down
        (length (named_places matchers)) x (length matchers)
        (ends_from_no_cycle (named_places matchers) no_cycle in_range x (omega arith)) (omega arith)

    module _ (order : List ℕ) (is_order : IsOrder (named_places matchers) order) where
      -- what stands in the order is a place
      pub place_there : (i : ℕ) → i < length order → get_or order i 0 < length matchers
      place_there i h = omega (arith, is_order.in_range i 0 h, length-map matchers named_matchers)

      -- one more, from those that it names
      pub one_more : (i : ℕ) → i < length order → (truths : List Bool) → length truths ≡ length matchers
          → AreIdleSoFar matchers order i truths → (m : LMatcher)
          → slice_get matchers (get_or order i 0) ≡ Some m → (truth : Bool)
          → truth ≡ idle_from (λ place. truth_listed place truths) (Some m)
          → AreIdleSoFar matchers order (i + 1) (set truths (get_or order i 0) truth)
      one_more i h truths long so_far m found truth is p seen =
          let x = get_or order i 0 in
          let own : truth ≡ holds_idle matchers x =
          is ∙ same_idle (λ place. truth_listed place truths) (holds_idle matchers) m
          (λ y named. listed_there y truths ∙ so_far y (is_order.after i y h (subst (λ (xs : List ℕ). Contains xs y)
          (sym (children_of named_matchers matchers x m found)) named)))
          ∙ sym (idle_equation x (place_there i h) ∙ ap (idle_from (holds_idle matchers)) found) in
          elim (cases_eq x p) [
            | inl same ↦
                subst (λ (q : ℕ). get_or (set truths x truth) q false ≡ holds_idle matchers q) same
                (get_or-set_same truths x truth false (omega (arith, long, place_there i h)) ∙ own)
            | inr other ↦
                get_or-set_other truths x p truth false (λ same. other (sym same))
                ∙ elim (Contains-push_cases (take i order) x p
                (subst (λ (xs : List ℕ). Contains xs p) (take_more order i 0 h) seen)) [
                  | inl before ↦ so_far p before
                  | inr same ↦ absurd (other same)
                ]
          ]

      -- all
      pub all_idle : (i : ℕ) → length order ≤ i → (truths : List Bool) → length truths ≡ length matchers
          → AreIdleSoFar matchers order i truths → truths ≡ silent_truths matchers
      all_idle i end truths long so_far =
          fill_by_all (holds_idle matchers) truths (length matchers) false long
          (λ p here. so_far p (subst (λ (xs : List ℕ). Contains xs p) (sym (take_all i order end))
          (is_order.each p (omega (arith, here, length-map matchers named_matchers)))))
