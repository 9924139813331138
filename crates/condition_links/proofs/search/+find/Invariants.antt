use Rattle.std.proofs.Common.{◌≡◌, map, take}
use Rattle.condition_links.specs.Conditions.{predicate_truth}
use Rattle.condition_links.specs.FoundTruths.{AreFound}
use Rattle.condition_links.specs.SeenTruths.{seen_of}
use Rattle.condition_links.proofs.search.+find.Given as goal

abbrev pub decreases-find : goal.decreases-find
decreases-find l = l.depth

abbrev pub invariant-loop-child : goal.invariant-loop-child
invariant-loop-child l = record {
  seen : l.seen ≡ seen_of (map (predicate_truth l.tables l.binds l.nodes) (take l.child-index l.child-items));
  found : AreFound (predicate_truth l.tables l.binds l.nodes) l.found;
}
