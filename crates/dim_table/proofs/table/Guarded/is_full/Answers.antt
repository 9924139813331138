-- The map's count is the number of rows.
use Rattle.std.proofs.Common.{rules}
use Rattle.dim_table.proofs.table.Guarded.is_full.Goals as goal

pub returns : goal.returns
returns g c = search rules
