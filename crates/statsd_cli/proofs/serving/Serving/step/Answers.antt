-- One frame more comes after those of the log.
use Rattle.statsd_cli.proofs.ServingLemmas.{steps_after}
use Rattle.statsd_cli.proofs.serving.Serving.step.Goals as goal

pub returns-in-Ok : goal.returns-in-Ok
returns-in-Ok g c = λ origin frames a.
    steps_after origin _ _ frames _ _ _ c.serve_next.result (c.in-Ok.ensures origin frames a) c.serve_next.ensures

pub returns-in-Err : goal.returns-in-Err
returns-in-Err g c = λ origin frames a. c.in-Err.ensures origin frames a
