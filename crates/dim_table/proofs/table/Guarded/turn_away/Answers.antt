-- The count goes up by one, up to its type's end.
use Rattle.std.proofs.Common.{rules}
use Rattle.dim_table.proofs.table.Guarded.turn_away.Goals as goal

pub returns : goal.returns
returns g c = search rules
