use Rattle.std.proofs.Common.{rules}
use Rattle.link_graph_tests.proofs.tests.nodes.has_order.Goals as goal

pub order_of-requires-clause-in_range : goal.order_of-requires-clause-in_range
order_of-requires-clause-in_range c = c.are_in_range.ensures.yes (search rules)
