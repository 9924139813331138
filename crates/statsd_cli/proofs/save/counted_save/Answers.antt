-- The session was served to its end, and its form was written; or it ended before.
use Rattle.statsd_cli.proofs.SaveLemmas.{saves_nothing, saves_served}
use Rattle.statsd_cli.proofs.save.counted_save.Goals as goal

pub returns-in-Done : goal.returns-in-Done
returns-in-Done g c =
    let served = c.in-Done.ensures in
    saves_served _ _ _ c.new-serving.result c.serve_all.new.serving served.0 c.new-serving.ensures.clock
    c.new-serving.ensures.stands served.1 _ _ (rw c.into_hub-hub.ensures at c.put_hub.ensures)

pub returns-in_default : goal.returns-in_default
returns-in_default g c =
    let served = c.serve_all.ensures in
    saves_nothing _ _ _ c.new-serving.result c.serve_all.new.serving served.0 c.new-serving.ensures.clock
    c.serve_all.result c.in_default.not-Done served.1
