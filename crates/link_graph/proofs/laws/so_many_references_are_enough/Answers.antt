use Rattle.link_graph.proofs.IdsReach.{found_reaches, reaches_found, leads_reaches, reaches_leads}
use Rattle.link_graph.proofs.laws.so_many_references_are_enough.Goals as goal

pub returns : goal.returns
returns c = record {
  ids = λ nodes x y. (found_reaches nodes x y, reaches_found nodes x y);
  places = λ links x y. (leads_reaches links x y, reaches_leads links x y);
}
