-- The watches are told the ends that the lane then crosses.
use Rattle.std.proofs.lemmas.Result.{on_ok_weaker}
use Rattle.client_engine.proofs.kinds.counts.CountLane.cross.Goals as goal

pub returns : goal.returns
returns c =
    on_ok_weaker c.cross.result (rw (← c.self.view_is) (λ crosses. (crosses, c.tell_ends.ensures))) c.cross.ensures
