-- The clock of the reader is that of the hub.
use Rattle.statsd_cli.proofs.ServingLemmas.{fresh_resumed}
use Rattle.statsd_cli.proofs.serving.Serving.resumed.Goals as goal

pub returns-clause-fresh : goal.returns-clause-fresh
returns-clause-fresh c = fresh_resumed _ c.clock.result c.resumed.ensures c.clock.ensures.stands
