-- The law of each part.
use Rattle.value_metric.proofs.ReadAheadLemmas.{are_read_ahead}
use Rattle.value_metric.proofs.read_ahead.intervals_are_read_ahead.Goals as goal

pub returns : goal.returns
returns c = are_read_ahead
