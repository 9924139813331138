-- A report leaves the slots.
use Rattle.std.proofs.Common.{refl}
use Rattle.hub_core.proofs.live_instance.LiveInstance.show_awake.Goals as goal

pub returns-clause-slots : goal.returns-clause-slots
returns-clause-slots c = record { slots = refl; carried = c.show.ensures.same; hearing = refl }
