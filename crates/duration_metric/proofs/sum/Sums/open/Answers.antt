-- Keys that have a row keep it.
use Rattle.std.proofs.lemmas.Result.{on_ok_weaker}
use Rattle.duration_metric.proofs.SumTallyLemmas.{tally_opens}
use Rattle.duration_metric.proofs.sum.Sums.open.Goals as goal

pub returns-clause-tally : goal.returns-clause-tally
returns-clause-tally c = on_ok_weaker c.begin_all.result (tally_opens c.args.self.now c.begin_all.new.table)
    c.begin_all.ensures.keys
