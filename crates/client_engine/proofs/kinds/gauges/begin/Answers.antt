-- The clock and the producer begin with the same numbers.
use Rattle.std.proofs.Common.{[], refl}
use Rattle.metric_calls.specs.PushedGaugeCalls.{gauge_params}
use Rattle.client_engine.proofs.GaugesLemmas.{gauges_begin}
use Rattle.client_engine.proofs.kinds.gauges.begin.Goals as goal

pub returns : goal.returns
returns c = λ installed fields is gauge.
    gauges_begin c.args.metric.now fields c.args.samples gauge installed c.args.base c.new.result is c.requires.fits
    (c.new.ensures (gauge_params c.args.base c.args.metric.now c.args.samples) [] refl refl c.new-producer.ensures)
