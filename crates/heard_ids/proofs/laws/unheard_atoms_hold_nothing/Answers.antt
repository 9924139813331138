use Rattle.heard_ids.proofs.HearingLaws.{unheard_holds_nothing}
use Rattle.heard_ids.proofs.laws.unheard_atoms_hold_nothing.Goals as goal

pub returns : goal.returns
returns c says atom linked not_all unheard = unheard_holds_nothing says atom linked unheard not_all
