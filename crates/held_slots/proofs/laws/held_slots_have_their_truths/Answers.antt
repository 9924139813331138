use Rattle.held_slots.proofs.TruthLaws.{held_truths}
use Rattle.held_slots.proofs.laws.held_slots_have_their_truths.Goals as goal

pub returns : goal.returns
returns c = held_truths
