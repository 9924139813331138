use Rattle.held_slots.proofs.HoldingLaws.{held_tree}
use Rattle.held_slots.proofs.laws.held_slots_have_their_trees.Goals as goal

pub returns : goal.returns
returns c table slots matchers in_range no_cycle sound holds =
    held_tree matchers in_range no_cycle table slots sound holds
