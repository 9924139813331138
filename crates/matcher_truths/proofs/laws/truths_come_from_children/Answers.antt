use Rattle.matcher_truths.proofs.MatcherTruthsLemmas.{equation_without_cycle}
use Rattle.matcher_truths.proofs.laws.truths_come_from_children.Goals as goal

pub returns : goal.returns
returns c = equation_without_cycle
