use Rattle.std.proofs.Common.{◌≡◌, ◌++◌, map, drop}
use Rattle.std.specs.List.{list_all}
use Rattle.config_links.specs.MetricTrees.{state_link_stands, sets_of_state_link}
use Rattle.config_links.proofs.sets.state_links_in.Given as goal

-- what is left stands exactly if all does, and what was read and what is left are all
abbrev pub invariant-loop-link : goal.invariant-loop-link
invariant-loop-link l = record {
  judged : list_all state_link_stands (drop l.link-index l.links) ≡ list_all state_link_stands l.links;
  sets : l.sets ++ map sets_of_state_link (drop l.link-index l.links) ≡ map sets_of_state_link l.links;
}
