-- Of no calls.
use Rattle.std.proofs.Common.{refl}
use Rattle.duration_metric.proofs.SumLemmas.{starts}
use Rattle.duration_metric.proofs.SumTallyLemmas.{tally_begins}
use Rattle.duration_metric.proofs.sum.Sums.new.Goals as goal

pub returns-clause-stands : goal.returns-clause-stands
returns-clause-stands c size =
    starts _ (record { base = c.args.base; size = size; spec = c.args.spec }) c.new.ensures.stands
    c.new-3.ensures.empty refl c.new-4.ensures.stands refl c.new.ensures.settled c.new.ensures.empty

pub returns-clause-tally : goal.returns-clause-tally
returns-clause-tally c = tally_begins _ c.new.ensures.empty c.new.ensures.settled.none_gone c.new-2.ensures
