-- The count of faults alone goes up.
use Rattle.std.proofs.Common.{rules}
use Rattle.sd_io.proofs.mem_source.MemSource.count_fault.Goals as goal

pub returns : goal.returns
returns c = search rules
