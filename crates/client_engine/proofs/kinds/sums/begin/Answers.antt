-- The clock and the producer begin with the same numbers.
use Rattle.std.proofs.Common.{[], refl}
use Rattle.metric_calls.specs.DurationCalls.{duration_params}
use Rattle.client_engine.proofs.SumsLemmas.{sums_begin}
use Rattle.client_engine.proofs.kinds.sums.begin.Goals as goal

pub returns : goal.returns
returns c = λ installed is sound kind.
    sums_begin c.args.metric.now c.args.spec installed c.args.base c.new.result is sound kind c.requires.fits
    (c.new.ensures (duration_params c.args.base c.args.metric.now c.args.spec) [] refl refl c.new-producer.ensures)
