-- The command of the words was done, and so it came to what that command does.
use Rattle.statsd_cli.proofs.CompletesLemmas.{asked_completes}
use Rattle.statsd_cli.proofs.top.statsd_top.Goals as goal

pub returns-clause-complete : goal.returns-clause-complete
returns-clause-complete g c =
    asked_completes _ c.of.result _ _ _ c.obey-ending.result c.of.ensures.command c.status.ensures
    c.obey-ending.ensures.did
