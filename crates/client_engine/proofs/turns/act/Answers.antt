use Rattle.client_engine.proofs.turns.act.Goals as goal

-- it is shown
pub returns-in-Some : goal.returns-in-Some
returns-in-Some g c = rw c.in-Some.is c.event_of.ensures
