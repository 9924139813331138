-- The reader and the hub are at the beginning of the log.
use Rattle.statsd_cli.proofs.ServingLemmas.{fresh_new}
use Rattle.statsd_cli.proofs.serving.Serving.new.Goals as goal

pub returns-clause-fresh : goal.returns-clause-fresh
returns-clause-fresh c = fresh_new _ c.new.ensures c.new-4.ensures.stands
