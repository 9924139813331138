-- Each digit leaves fewer.
use Rattle.std.proofs.Common.{length}
use Rattle.statsd_cli.proofs.command.+number_within.Given as goal

abbrev pub decreases-number_within : goal.decreases-number_within
decreases-number_within l = length l.digits.now
