-- What stands at the place of the leaf.
use Rattle.condition_links.proofs.BindsLemmas.{one_read}
use Rattle.condition_links.proofs.links.one_value.Goals as goal

pub returns-in-One : goal.returns-in-One
returns-in-One c =
    one_read c.args.leaves.now c.args.key.now c.args.leaf.now c.in_ok-place.place c.in-One.value
    c.in_ok-place.ensures (rw (c.in-One.is) at c.in_ok-value.ensures)
