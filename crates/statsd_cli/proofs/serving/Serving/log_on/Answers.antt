-- Each frame of the log is one more; where none stands there, nothing was taken.
use Rattle.std.proofs.Common.{◌≤◌, refl, sym, subst, arith}
use Rattle.std.proofs.lemmas.Result.{err_from_is_err_and}
use Rattle.atom_record.specs.declared.log.LogFrame.{LogFrame}
use Rattle.session_frames.specs.declared.frame.Frame.TheVariants.{Log}
use Rattle.session_frames.specs.Frames.{log_time}
use Rattle.session_frames.specs.LogRooms.{frame_in}
use Rattle.statsd_cli.proofs.ServingLemmas.{comes_nearer, ends_in_log, logs_one, none_logged, still_logged}
use Rattle.statsd_cli.proofs.serving.Serving.log_on.Goals as goal

pub logs-init : goal.logs-init
logs-init g c = λ origin frames a. none_logged origin _ _ frames a

pub returns-in_default : goal.returns-in_default
returns-in_default g c = λ origin frames a.
    let still = rw c.in_default.is at c.take_log.ensures.nothing in
    still_logged origin _ _ frames _ _ _ (c.logs.invariant origin frames a) still.1 still.0 refl

pub returns-in_err-log : goal.returns-in_err-log
returns-in_err-log g c = λ origin frames a.
    let failed = err_from_is_err_and c.from_residual.result c.from_residual.ensures.1 in
    rw failed.1 (ends_in_log origin _ _ frames _ _ _ (c.logs.invariant origin frames a)
    (frame_in c.in-Some.kind c.take_log.new.room) c.in-Some.ensures.gives)

pub logs-smaller : goal.logs-smaller
logs-smaller g c =
    comes_nearer _ _ _ _ (Log (frame_in c.in-Some.kind c.take_log.new.room)) c.in-Some.ensures.gives

pub logs-preserved : goal.logs-preserved
logs-preserved g c = λ origin frames a.
    let frame : LogFrame = frame_in c.in-Some.kind c.take_log.new.room in
    let h = c.logs.invariant origin frames a in
    let later = c.take_log.ensures.no_fault in
    logs_one origin _ _ frames _ _ _ h frame c.in-Some.ensures.gives
    (λ before stood. c.in_ok-log.ensures.stands _ (h.served.stands before stood)
    (subst (λ clock. clock ≤ log_time frame) (sym (h.served.timed before stood)) c.in-Some.ensures.faultless.1))
    (omega (arith, later))
