use Rattle.std.proofs.Common.{◌≡◌, ℕ, List, Option, map, subst, inl, inr, arith}
use Rattle.std.specs.Option.{IfSome}
use Rattle.std.proofs.lemmas.Bool.{cases_lt, both_ways}
use Rattle.std.proofs.lemmas.List.{length-map}
use Rattle.link_graph.specs.Reaches.{Reaches}
use Rattle.link_graph.specs.Links.{Refers, IsOrder}
use Rattle.link_graph.proofs.DepthLaws.{no_cycle_from_order, reaches_from_within}
use Rattle.link_graph.proofs.reach.first_on_cycle.Goals as goal

-- an order leaves no room for a cycle
pub returns-in-Some-clause-none : goal.returns-in-Some-clause-none
returns-in-Some-clause-none g c =
    let links = map g.N.Node.names c.args.nodes.now in
    no_cycle_from_order links c.in-Some.field-0
    (subst (λ (found : Option (List ℕ)). IfSome found (IsOrder links)) c.in-Some.is c.in_ok-order_of.ensures.order)

pub loop-at-preserved : goal.loop-at-preserved
loop-at-preserved g c x lower w =
    let links = map g.N.Node.names c.args.nodes.now in
    elim (cases_lt x c.loop-at.at) [
      | inl before ↦ c.loop-at.invariant x before w
      | inr here ↦
          let same : x ≡ c.loop-at.at = omega arith in
          both_ways c.in_ok-reaches_itself.field-0 c.if-branch.false
          (c.in_ok-reaches_itself.ensures.1 (subst (λ (y : ℕ). Reaches (Refers links) y y) same w))
    ]

pub returns-clause-none : goal.returns-clause-none
returns-clause-none g c x w =
    let links = map g.N.Node.names c.args.nodes.now in
    c.loop-at.invariant x (omega (arith, reaches_from_within links x x w, length-map c.args.nodes.now g.N.Node.names)) w
