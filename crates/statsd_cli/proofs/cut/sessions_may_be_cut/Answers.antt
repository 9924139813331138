-- The law of the definitions.
use Rattle.statsd_cli.proofs.MoreLemmas.{text_cut}
use Rattle.statsd_cli.proofs.cut.sessions_may_be_cut.Goals as goal

pub returns : goal.returns
returns c = text_cut
