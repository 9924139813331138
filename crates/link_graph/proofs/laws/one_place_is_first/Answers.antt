use Rattle.link_graph.proofs.DepthLaws.{one_first}
use Rattle.link_graph.proofs.laws.one_place_is_first.Goals as goal

pub returns : goal.returns
returns c = record {
  one = λ links x y first. one_first links x y first.0 first.1;
  cycle = λ links x first no_cycle. no_cycle x first.on_cycle;
}
