-- The metric takes the frame where its book was told it and its lane takes it.
use Rattle.std.proofs.lemmas.Result.{on_ok_weaker}
use Rattle.client_engine.specs.Bringing.{handed_with}
use Rattle.client_engine.proofs.TrackLemmas.{track_logs}
use Rattle.client_engine.proofs.track.Track.log.Goals as goal

pub returns-clause-logs : goal.returns-clause-logs
returns-clause-logs g c =
    let brought = c.args.brought.now in
    let track = c.args.self.now in
    let heard = c.hear-is_active in
    on_ok_weaker c.log.result
    (track_logs track.metric track.lane c.log.new.self track.acts heard.new.acts
    (handed_with c.args.conditions.now brought) brought.frame.now brought.matched.now heard.result heard.ensures.told
    heard.ensures.active) c.log.ensures.logs
