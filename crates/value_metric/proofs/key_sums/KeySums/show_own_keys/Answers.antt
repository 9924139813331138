-- The map's keys are distinct by its test, so no two are the same.
use Rattle.std.proofs.lemmas.Map.Made.{AllPairs-from_IsDistinct}
use Rattle.atom_record.specs.Equal.{metric_key_exact}
use Rattle.value_metric.proofs.key_sums.KeySums.show_own_keys.Goals as goal

pub returns : goal.returns
returns c = rw (← c.self.view_is) (AllPairs-from_IsDistinct metric_key_exact _ c.len-count.ensures.unique)
