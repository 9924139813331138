use Rattle.metric_lane.proofs.lane.Lane.tell.Goals as goal

-- the event is handed on
pub returns-in-Some : goal.returns-in-Some
returns-in-Some g c = rw c.in-Some.is c.event.ensures
