use Rattle.matcher_table.proofs.IndexLaws.{not_equal}
use Rattle.matcher_table.proofs.index.SlotIndex.add.Goals as goal

pub returns-clause-others : goal.returns-clause-others
returns-clause-others c wanted other =
    c.in-Ok.ensures.updates.2 wanted (not_equal c.args.shared wanted other)
