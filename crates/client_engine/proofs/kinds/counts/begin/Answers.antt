-- The clock and the producer begin with the same numbers.
use Rattle.std.proofs.Common.{[], refl}
use Rattle.metric_calls.specs.CountCalls.{count_params}
use Rattle.client_engine.proofs.CountsLemmas.{counts_begin}
use Rattle.client_engine.proofs.kinds.counts.begin.Goals as goal

pub returns : goal.returns
returns c = λ installed is along.
    counts_begin installed c.args.base c.args.metric.now c.args.overflow c.new.result c.args.watches.items is
    c.requires.fits c.requires.counts
    (c.new.ensures (count_params c.args.base c.args.metric.now c.args.overflow) [] refl refl
    c.new-producer.ensures) along
