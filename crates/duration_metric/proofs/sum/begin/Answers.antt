-- A key has its row, or it is admitted or turned away.
use Rattle.std.proofs.Common.{inr, refl}
use Rattle.duration_metric.proofs.sum.begin.Goals as goal

pub returns : goal.returns
returns c = inr (refl, c.in_ok-admit_copy.field-0, c.in_ok-admit_copy.ensures.answer)
