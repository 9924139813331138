-- The replies that are owed are written, or the run ends so.
use Rattle.statsd_cli.proofs.RunLemmas.{ends_along, ends_in_reply, goes_along}
use Rattle.statsd_cli.proofs.replay.answer_next.Goals as goal

pub returns-in-Ended : goal.returns-in-Ended
returns-in-Ended g c = λ origin empty along.
    ends_along origin empty _ _ _ along _ c.in-Ended.ending (c.in-Ended.ensures origin along.frames along.served)

pub returns-in-Ok : goal.returns-in-Ok
returns-in-Ok g c = λ origin empty along.
    goes_along origin empty _ _ _ along _ _ _ (c.in-Served.ensures origin along.frames along.served)
    c.in-Ok.ensures.bytes c.in-Ok.ensures.cause.later

pub returns-in-Err : goal.returns-in-Err
returns-in-Err g c = λ origin empty along.
    ends_in_reply origin empty _ _ _ along _ _ _ (c.in-Served.ensures origin along.frames along.served)
    c.in-Err.ensures.bytes c.in-Err.ensures.cause.failed
