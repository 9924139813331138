use Rattle.held_slots.proofs.HoldingLaws.{hold_keeps, release_keeps, evaluation_keeps}
use Rattle.held_slots.proofs.laws.others_keep_what_is_held.Goals as goal

pub returns-clause-hold : goal.returns-clause-hold
returns-clause-hold c = hold_keeps

pub returns-clause-release : goal.returns-clause-release
returns-clause-release c = release_keeps

pub returns-clause-evaluate : goal.returns-clause-evaluate
returns-clause-evaluate c = evaluation_keeps
