use Rattle.count_metric.proofs.JoiningLemmas.{counts_join}
use Rattle.count_metric.proofs.laws.crossings_join.Goals as goal

pub returns : goal.returns
returns c = counts_join
