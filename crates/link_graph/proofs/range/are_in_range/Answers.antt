use Rattle.std.proofs.Common.{◌≡◌, ◌<◌, ℕ, List, length, map, get_or, refl, sym, subst, ap, ◌∙◌, arith, inl, inr}
use Rattle.std.specs.List.{All}
use Rattle.std.proofs.lemmas.Bool.{cases_lt}
use Rattle.std.proofs.lemmas.List.{length-map}
use Rattle.link_graph.specs.Links.{children_at, Refers}
use Rattle.link_graph.proofs.ReachesLaws.{reaches_once}
use Rattle.link_graph.proofs.NodeLemmas.{children_in_range}
use Rattle.link_graph.proofs.DepthLaws.{reaches_from_within}
use Rattle.link_graph.proofs.range.are_in_range.Goals as goal

pub loop-at-preserved : goal.loop-at-preserved
loop-at-preserved g c x lower =
    let links = map g.N.Node.names c.args.nodes.now in
    elim (cases_lt x c.loop-at.at) [
      | inl before ↦ c.loop-at.invariant x before
      | inr here ↦
          let same : c.loop-at.at ≡ x = omega arith in
          subst (λ (children : List ℕ). All (λ y. y < length c.args.nodes.now) children)
          (c.children_of.ensures ∙ ap (children_at links) same) (c.if-not-all_below.ensures.yes refl)
    ]

-- where each place that is named is there, so are those that this one names
pub returns-then-not-all_below-clause-no : goal.returns-then-not-all_below-clause-no
returns-then-not-all_below-clause-no g c _ in_range =
    c.if-not-all_below.ensures.no refl
    (subst (λ (children : List ℕ). All (λ y. y < length c.args.nodes.now) children) (sym c.children_of.ensures)
    (children_in_range g.N.Node.names c.args.nodes.now c.loop-at.at in_range))

pub returns-clause-yes : goal.returns-clause-yes
returns-clause-yes g c _ x y r =
    let links = map g.N.Node.names c.args.nodes.now in
    let many : length links ≡ length c.args.nodes.now = length-map c.args.nodes.now g.N.Node.names in
    let here : x < c.loop-at.at = omega (arith, reaches_from_within links x y (reaches_once (Refers links) x y r)) in
    let below : get_or (children_at links x) r.0 y < length c.args.nodes.now = c.loop-at.invariant x here r.0 y r.1 in
    omega (arith, below, r.2)
