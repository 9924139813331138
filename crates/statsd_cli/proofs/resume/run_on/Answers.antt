-- The session begins at the time of its hub.
use Rattle.statsd_cli.proofs.RunLemmas.{runs_from}
use Rattle.statsd_cli.proofs.resume.run_on.Goals as goal

pub returns : goal.returns
returns g c =
    runs_from _ _ c.resumed-serving.result _ _ _ c.resumed-serving.ensures.clock c.resumed-serving.ensures.hub
    c.answer_all.ensures
