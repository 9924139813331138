-- A sound configuration is a check that is done.
use Rattle.std.proofs.Common.{rules}
use Rattle.statsd_cli.proofs.top.ending_after.Goals as goal

pub returns-in-Ok-Sound : goal.returns-in-Ok-Sound
returns-in-Ok-Sound c = search rules
