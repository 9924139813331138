-- What passes the tests is sound.
use Rattle.std.proofs.Common.{rules}
use Rattle.bucket_clock.proofs.clock.Clock.restore.Goals as goal

pub returns-then-next_end-start-clause-sound : goal.returns-then-next_end-start-clause-sound
returns-then-next_end-start-clause-sound c = search rules
