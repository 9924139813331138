-- A run from the beginning on, after a hub that has seen no frame.
use Rattle.statsd_cli.proofs.RunLemmas.{replays}
use Rattle.statsd_cli.proofs.replay.counted_replay.Goals as goal

pub returns : goal.returns
returns g c =
    replays _ _ c.new-serving.result _ c.new-serving.ensures.clock c.new-serving.ensures.stands c.answer_all.ensures
