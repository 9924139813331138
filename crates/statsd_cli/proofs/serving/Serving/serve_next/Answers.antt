-- One frame was served, or the session ended here.
use Rattle.std.proofs.Common.{Err, refl, sym, ap, subst}
use Rattle.session_frames.specs.Frames.{IsInTime}
use Rattle.statsd_cli.proofs.ServingLemmas.{ends_done, ends_here, ends_in_step, ends_refused, serves_one}
use Rattle.statsd_cli.proofs.serving.Serving.serve_next.Goals as goal

pub returns-in-Err : goal.returns-in-Err
returns-in-Err g c = λ origin frames a.
    let cause = c.in-Err.ensures.cause in
    rw c.ending_without.ensures (ends_here origin _ _ frames _ (ends_refused origin _ _ frames a _ _ c.in-Err.e
    (c.in-Err.ensures.refuses a.unended) cause.later (λ is. cause.failed (ap Err is))))

pub returns-in_default : goal.returns-in_default
returns-in_default g c = λ origin frames a.
    ends_here origin _ _ frames _ (ends_done origin _ _ frames a _ _ refl
    (rw c.in_default.is at (c.in-Ok.ensures.gives a.unended)))

pub returns-in-Ok-serve : goal.returns-in-Ok-serve
returns-in-Ok-serve g c = λ origin frames a.
    let good = rw c.in-Some.is at c.in-Ok.ensures.faultless in
    serves_one origin _ _ frames _ _ c.in-Some.frame c.in-Ok-serve.reply a
    (rw c.in-Some.is at (c.in-Ok.ensures.gives a.unended))
    (λ before stood. c.in-Ok-serve.ensures.serves _ (a.stands before stood)
    (subst (λ clock. IsInTime clock c.in-Some.frame) (sym (a.timed before stood)) good.1))
    c.in-Ok.ensures.cause.later

pub returns-in-Err-serve : goal.returns-in-Err-serve
returns-in-Err-serve g c = λ origin frames a.
    ends_here origin _ _ frames _ (ends_in_step origin _ _ frames a _ _ c.in-Some.frame
    (rw c.in-Some.is at (c.in-Ok.ensures.gives a.unended)))
