-- For all three kinds.
use Rattle.gauge_metric.proofs.JoiningLemmas.{pushed_join, pulled_join, events_join}
use Rattle.gauge_metric.proofs.laws.crossings_join.Goals as goal

pub returns-clause-pushed : goal.returns-clause-pushed
returns-clause-pushed c = pushed_join

pub returns-clause-pulled : goal.returns-clause-pulled
returns-clause-pulled c = pulled_join

pub returns-clause-events : goal.returns-clause-events
returns-clause-events c = events_join
