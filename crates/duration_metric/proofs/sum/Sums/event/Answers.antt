-- An event came.
use Rattle.std.proofs.lemmas.Result.{on_ok_weaker}
use Rattle.duration_metric.specs.SumParts.{seen}
use Rattle.duration_metric.proofs.SumMovesLemmas.{got, on_ok_three}
use Rattle.duration_metric.proofs.SumTallyLemmas.{tally_stays}
use Rattle.duration_metric.proofs.sum.Sums.event.Goals as goal

pub returns-clause-moves : goal.returns-clause-moves
returns-clause-moves c = on_ok_three c.act.result
    (got (seen c.args.self.now) c.act.new.self c.args.at c.args.ev.now) c.act.ensures.calls c.act.ensures.counts
    c.act.ensures.steady

pub returns-clause-tally : goal.returns-clause-tally
returns-clause-tally c = on_ok_weaker c.act.result (tally_stays c.args.self.now c.act.new.self) c.act.ensures.counts
