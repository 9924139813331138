use Rattle.std.proofs.Common.{ℕ, List, map, sym, subst, arith}
use Rattle.std.proofs.lemmas.List.{length-map}
use Rattle.link_graph.specs.Links.{IsOrder}
use Rattle.link_graph.proofs.OrderLemmas.{order_from_walk}
use Rattle.link_graph.proofs.order.order_of.Goals as goal

pub returns-clause-order : goal.returns-clause-order
returns-clause-order g c =
    let links = map g.N.Node.names c.args.nodes.now in
    let walk = c.loop-root.walk in
    subst (λ (order : List ℕ). IsOrder links order) (sym c.from_vec.ensures)
    (order_from_walk links walk.marks.items walk.next.items walk.way.items walk.order.items
    c.loop-root.invariant.walk c.loop-root.invariant.back
    (λ x here. c.loop-root.invariant.came x (omega (arith, here, length-map c.args.nodes.now g.N.Node.names))))
