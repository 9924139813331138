-- It is caught up by the last frame.
use Rattle.std.proofs.Common.{refl}
use Rattle.hub_core.proofs.live_instance.LiveInstance.wake.Goals as goal

pub returns-clause-same : goal.returns-clause-same
returns-clause-same c = record { slots = refl; carried = c.wake.ensures.same; hearing = refl }
