-- Marks of what a predicate reaches say what a search from it finds.
use Rattle.std.proofs.Common.{◌≡◌, ℕ, zero, suc, ◌<◌, ◌≤◌, Bool, false, List, [], length, map, Some, slice_index_or, Result, Ok, Err, IfOk, refl, sym, ◌∙◌, subst, arith}
use Rattle.std.proofs.lemmas.List.{length-map, get_or_past}
use Rattle.link_graph.specs.Links.{children_at, MarksReached}
use Rattle.link_graph.specs.Within.{leads_within}
use Rattle.link_graph.proofs.CallerLemmas.{marks_within}
use Rattle.config_links.specs.declared.linked.LPredicate.{LPredicate}
use Rattle.config_links.specs.LinkScopes.{named_predicates}
use Rattle.config_links.specs.MetricLinks.{AreMarked}

module _ (predicates : List LPredicate) (from : ℕ) where
  -- the places that each predicate names
  abbrev pub links : List (List ℕ)
  links = map named_predicates predicates

  -- there are as many lists of names as predicates
  same : length links ≡ length predicates
  same = length-map predicates named_predicates

  -- the marks of what a predicate reaches are what a search from it finds
  marked : (marks : List Bool) → MarksReached links from marks → AreMarked predicates (Some from) marks
  marked marks are to here =
      let there : to < length links = omega (arith, here, same) in
      subst (λ (most : ℕ). slice_index_or marks to false ≡ leads_within most links from to) same
      (marks_within links from marks are to there)

  -- so it is of what a call answers
  pub marked_result : {E : Type 0} (result : Result (List Bool) E) → IfOk result (MarksReached links from)
      → IfOk result (AreMarked predicates (Some from))
  marked_result (Ok marks) are = marked marks are
  marked_result (Err error) are = tt

  -- where nothing is named, no reference leads anywhere
  leads_nowhere : (most to : ℕ) → children_at links from ≡ [] → leads_within most links from to ≡ false
  leads_nowhere zero to none = refl
  leads_nowhere (suc most) to none =
      rw none refl

  -- past the end nothing is reached
  pub none_marked : length predicates ≤ from → AreMarked predicates (Some from) []
  none_marked past to here =
      let beyond : children_at links from ≡ [] = get_or_past links from [] (omega (arith, past, same)) in
      let nowhere : leads_within (length predicates) links from to ≡ false =
      leads_nowhere (length predicates) to beyond in
      let unmarked : slice_index_or [] to false ≡ false = get_or_past [] to false (omega arith) in
      unmarked ∙ sym nowhere
