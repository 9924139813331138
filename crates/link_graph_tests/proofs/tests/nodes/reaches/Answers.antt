use Rattle.std.proofs.Common.{rules}
use Rattle.link_graph_tests.proofs.tests.nodes.reaches.Goals as goal

pub reached_from-requires-clause-in_range : goal.reached_from-requires-clause-in_range
reached_from-requires-clause-in_range c = c.are_in_range.ensures.yes (search rules)
