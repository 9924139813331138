use Rattle.std.proofs.Common.{◌≡◌, ◌≢◌, ℕ, ◌<◌, [], map}
use Rattle.link_graph.specs.declared.walk.Mark.TheVariants.{New}
use Rattle.link_graph.specs.Descent.{mark_at, HoldsWalk}
use Rattle.link_graph.proofs.order.order_of.Given as goal

abbrev pub invariant-loop-root : goal.invariant-loop-root
invariant-loop-root g l = record {
  walk : HoldsWalk (map g.N.Node.names l.nodes) l.walk;
  back : l.walk.way.items ≡ [];
  came : (x : ℕ) → x < l.root → mark_at l.walk.marks.items x ≢ New;
}
