-- In the same field and at the same index, the sub decides.
use Rattle.std.proofs.Common.{rules}
use Rattle.atom_record.proofs.parse.Place.stands_above.Goals as goal

pub returns-then-below-self-4 : goal.returns-then-below-self-4
returns-then-below-self-4 c = search rules
