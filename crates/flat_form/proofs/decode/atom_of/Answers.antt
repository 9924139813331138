-- What the payload is read as is the item.
use Rattle.std.proofs.Common.{rules}
use Rattle.flat_form.specs.ItemReading.{item_at}
use Rattle.flat_form.proofs.decode.atom_of.Goals as goal

pub returns-in-Ok : goal.returns-in-Ok
unfolding item_at
returns-in-Ok c = rw c.in_ok-payload.ensures (search rules)
