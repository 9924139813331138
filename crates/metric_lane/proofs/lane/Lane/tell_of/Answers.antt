use Rattle.metric_lane.proofs.lane.Lane.tell_of.Goals as goal

-- the event is shown
pub returns-in-Some : goal.returns-in-Some
returns-in-Some g c = rw c.in-Some.is c.event_of.ensures
