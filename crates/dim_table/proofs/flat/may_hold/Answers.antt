-- The tests are those of `IsBounded`.
use Rattle.std.proofs.Common.{rules}
use Rattle.dim_table.proofs.flat.may_hold.Goals as goal

pub returns-then-bound : goal.returns-then-bound
returns-then-bound c = search rules

pub returns-else-bound : goal.returns-else-bound
returns-else-bound c = search rules
