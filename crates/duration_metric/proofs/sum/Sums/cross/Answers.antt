-- The open part is closed, the next part begins, and the full buckets between them are kept.
use Rattle.std.proofs.Common.{arith, refl}
use Rattle.std.proofs.lemmas.Result.{on_ok_weaker}
use Rattle.duration_metric.specs.SumParts.{seen}
use Rattle.duration_metric.proofs.SumLemmas.{crosses}
use Rattle.duration_metric.proofs.SumTallyLemmas.{tally_alike}
use Rattle.duration_metric.proofs.sum.Sums.cross.Goals as goal

pub returns-clause-moves : goal.returns-clause-moves
returns-clause-moves c = on_ok_weaker c.keep_full.result
    (λ adds. crosses (seen c.args.self.now) (seen c.close.new.self) (seen c.open.new.self) c.keep_full.new.kept
    c.saturating_add-self.result c.args.crossings c.in_ok-close.ensures.closes
    (λ fits. omega (arith, fits, c.saturating_mul-full.ensures, c.saturating_add-self.ensures))
    c.in_ok-open.ensures.opens adds)
    c.keep_full.ensures

pub returns-clause-tally : goal.returns-clause-tally
returns-clause-tally c = on_ok_weaker c.keep_full.result
    (λ adds right. tally_alike c.open.new.self _ refl refl refl
    (c.in_ok-open.ensures.tally
    (tally_alike c.close.new.self _ refl refl refl (c.in_ok-close.ensures.tally right))))
    c.keep_full.ensures
