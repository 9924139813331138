-- What the links from one on ask.
use Rattle.std.proofs.Common.{◌≡◌, map, drop}
use Rattle.std.specs.List.{range_with_len}
use Rattle.metric_meaning.specs.MetricConditions.{binds_at}
use Rattle.known_conditions.proofs.asked.ask_all.Given as goal

abbrev pub invariant-loop-at : goal.invariant-loop-at
invariant-loop-at g l =
    l.binds.items ≡ map (binds_at (drop l.at l.links) (g.A.Asked.reading l.asked)) (range_with_len 0 l.predicates)
