-- The clock and the producer begin with the same numbers.
use Rattle.std.proofs.Common.{[], refl}
use Rattle.metric_calls.specs.ValueCalls.{value_params}
use Rattle.client_engine.proofs.ValuesLemmas.{values_begin}
use Rattle.client_engine.proofs.kinds.values.begin.Goals as goal

pub returns : goal.returns
returns c = λ installed source is values.
    values_begin c.args.metric.now source c.args.aggregation values installed c.args.base c.new.result is
    c.requires.fits
    (c.new.ensures (value_params c.args.base c.args.metric.now c.args.aggregation) [] refl refl
    c.new-producer.ensures)
