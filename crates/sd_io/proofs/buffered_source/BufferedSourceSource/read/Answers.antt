-- A call that fails is counted, and one that gives bytes is not.
use Rattle.std.proofs.Common.{rules}
use Rattle.sd_io.proofs.buffered_source.BufferedSourceSource.read.Goals as goal

pub returns-in-Err-clause-counts : goal.returns-in-Err-clause-counts
returns-in-Err-clause-counts g c = search rules

pub returns-in-Err-clause-read : goal.returns-in-Err-clause-read
returns-in-Err-clause-read g c = search rules
