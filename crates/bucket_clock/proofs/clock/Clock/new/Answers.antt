-- The first bucket is full.
use Rattle.std.proofs.Common.{rules}
use Rattle.bucket_clock.proofs.clock.Clock.new.Goals as goal

pub returns-clause-value : goal.returns-clause-value
returns-clause-value c = search rules

pub returns-clause-stands : goal.returns-clause-stands
returns-clause-stands c = search rules

pub invariant_of-result : goal.invariant_of-result
invariant_of-result c = search rules
