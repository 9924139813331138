use Rattle.std.proofs.Common.{rules}
use Rattle.link_graph_tests.proofs.tests.nodes.is_first.Goals as goal

pub first_on_cycle-requires-clause-in_range : goal.first_on_cycle-requires-clause-in_range
first_on_cycle-requires-clause-in_range c = c.are_in_range.ensures.yes (search rules)
