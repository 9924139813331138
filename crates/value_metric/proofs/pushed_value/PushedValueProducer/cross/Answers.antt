-- The open part is closed, and the full buckets after it have no row.
use Rattle.std.proofs.Common.{arith}
use Rattle.value_metric.proofs.PushedLemmas.{crosses}
use Rattle.value_metric.proofs.pushed_value.PushedValueProducer.cross.Goals as goal

pub returns : goal.returns
returns c = crosses c.args.self.now (record { books = c.close.new.self }) c.args.crossings
    c.saturating_add-self.result c.in_ok-close.ensures
    (λ fits. omega (arith, fits, c.saturating_mul-full.ensures, c.saturating_add-self.ensures))
