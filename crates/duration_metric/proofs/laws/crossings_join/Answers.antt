-- For both kinds.
use Rattle.duration_metric.proofs.JoiningLemmas.{sums_join, sparse_join}
use Rattle.duration_metric.proofs.laws.crossings_join.Goals as goal

pub returns-clause-sums : goal.returns-clause-sums
returns-clause-sums c = sums_join

pub returns-clause-longest : goal.returns-clause-longest
returns-clause-longest c = sparse_join
