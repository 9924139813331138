use Rattle.std.proofs.Common.{◌≡◌, ◌++◌, map}
use Rattle.std.specs.List.{list_all}
use Rattle.std.specs.Vec.Iter.{into_iter_items}
use Rattle.config_links.specs.MetricLinks.{is_bound, linked_link}
use Rattle.config_links.proofs.links.links_in.Given as goal

-- what is left is bound exactly if all are, and what was linked and what is left are all
abbrev pub invariant-loop-sets : goal.invariant-loop-sets
invariant-loop-sets l = record {
  judged : list_all (is_bound l.scope) (into_iter_items l.sets-iterator) ≡ list_all (is_bound l.scope) l.fn.links;
  linked : l.linked ++ map (linked_link l.scope) (into_iter_items l.sets-iterator)
      ≡ map (linked_link l.scope) l.fn.links;
}
