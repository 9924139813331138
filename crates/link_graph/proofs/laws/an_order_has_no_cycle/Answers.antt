use Rattle.link_graph.proofs.DepthLaws.{no_cycle_from_order}
use Rattle.link_graph.proofs.laws.an_order_has_no_cycle.Goals as goal

pub returns : goal.returns
returns c links order is_order = no_cycle_from_order links order is_order
