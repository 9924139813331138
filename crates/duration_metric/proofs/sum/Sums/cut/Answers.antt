-- The open part was cut.
use Rattle.std.proofs.lemmas.Result.{on_ok_weaker}
use Rattle.duration_metric.specs.SumParts.{seen}
use Rattle.duration_metric.proofs.SumLemmas.{cuts}
use Rattle.duration_metric.proofs.sum.Sums.cut.Goals as goal

pub returns-clause-moves : goal.returns-clause-moves
returns-clause-moves c = on_ok_weaker c.open.result
    (cuts (seen c.args.self.now) (seen c.close.new.self) (seen c.open.new.self) c.args.at c.in_ok-close.ensures.closes)
    c.open.ensures.opens

pub returns-clause-tally : goal.returns-clause-tally
returns-clause-tally c = on_ok_weaker c.open.result
    (λ opens right. opens (c.in_ok-close.ensures.tally right)) c.open.ensures.tally
