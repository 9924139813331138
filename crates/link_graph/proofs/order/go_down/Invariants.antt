use Rattle.std.proofs.Common.{◌≢◌, map}
use Rattle.link_graph.specs.declared.walk.Mark.TheVariants.{New}
use Rattle.link_graph.specs.Descent.{mark_at, HoldsWalk, left_of, StayMarked}
use Rattle.link_graph.proofs.order.go_down.Given as goal

abbrev pub invariant-loop-walk : goal.invariant-loop-walk
invariant-loop-walk g l = record {
  walk : HoldsWalk (map g.N.Node.names l.nodes) l.walk;
  root : mark_at l.walk.marks.items l.root ≢ New;
  marked : StayMarked l.fn.walk l.walk;
}

abbrev pub decreases-loop-walk : goal.decreases-loop-walk
decreases-loop-walk g l = left_of l.walk
