-- The clock and the producer begin at the same time.
use Rattle.std.proofs.Common.{[], refl}
use Rattle.client_engine.proofs.EventsLemmas.{events_begin}
use Rattle.client_engine.proofs.kinds.events.begin.Goals as goal

pub returns : goal.returns
returns c = λ installed is.
    events_begin installed c.args.base c.args.metric.now c.new.result is c.requires.fits c.requires.events
    (c.new.ensures c.args.base [] refl refl (c.new-producer.ensures c.args.base))
