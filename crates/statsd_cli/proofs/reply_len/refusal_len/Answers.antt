-- A path has four bytes a number.
use Rattle.std.proofs.Common.{ap, arith, length}
use Rattle.statsd_cli.proofs.LoadLemmas.{length-path}
use Rattle.statsd_cli.proofs.reply_len.refusal_len.Goals as goal

pub returns-in-Unsupported-clause-len : goal.returns-in-Unsupported-clause-len
returns-in-Unsupported-clause-len c =
    rw c.in-Unsupported.is (omega (arith, ap length c.as_slice.ensures.numbers, length-path c.in-Unsupported.path))
