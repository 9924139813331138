-- A metric takes the run where its lane does.
use Rattle.std.proofs.lemmas.Result.{on_ok_weaker}
use Rattle.bucket_clock.specs.Clock.{frame_at}
use Rattle.client_engine.proofs.AloneLemmas.{track_run}
use Rattle.client_engine.proofs.track.Track.cross.Goals as goal

pub returns-clause-takes : goal.returns-clause-takes
returns-clause-takes c =
    let track = c.args.self.now in
    on_ok_weaker c.cross.result
    (λ takes. track_run (frame_at c.args.at c.args.is_pull) track.metric track.lane c.cross.new.self track.acts
    (takes track.metric)) c.cross.ensures
