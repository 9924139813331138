use Rattle.link_graph.proofs.DepthLaws.{ends_from_no_cycle}
use Rattle.link_graph.proofs.laws.without_a_cycle_all_end.Goals as goal

pub returns : goal.returns
returns c links in_range no_cycle x here = ends_from_no_cycle links no_cycle in_range x here
