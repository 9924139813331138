-- The start comes before the end.
use Rattle.std.proofs.Common.{rules}
use Rattle.bucket_clock.proofs.flat.ClockFlat.flatten.Goals as goal

pub returns-clause-added : goal.returns-clause-added
returns-clause-added c = search rules
