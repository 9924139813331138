-- For both kinds.
use Rattle.value_metric.proofs.JoiningLemmas.{pushed_join, pulled_join}
use Rattle.value_metric.proofs.laws.crossings_join.Goals as goal

pub returns-clause-pushed : goal.returns-clause-pushed
returns-clause-pushed c = pushed_join

pub returns-clause-pulled : goal.returns-clause-pulled
returns-clause-pulled c = pulled_join
