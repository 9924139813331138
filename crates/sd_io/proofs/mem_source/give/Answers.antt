-- As many bytes as all three allow are copied.
use Rattle.std.proofs.Common.{rules}
use Rattle.sd_io.proofs.mem_source.give.Goals as goal

pub returns-clause-most : goal.returns-clause-most
returns-clause-most c = search rules
