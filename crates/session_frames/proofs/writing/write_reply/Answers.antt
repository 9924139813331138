use Rattle.sd_io.proofs.CausesLemmas.{IsPut-after, IsPut-before}
use Rattle.session_frames.proofs.WritingLemmas.{reply_bytes-parts}
use Rattle.session_frames.proofs.writing.write_reply.Goals as goal

pub returns-in_err-put : goal.returns-in_err-put
returns-in_err-put g c =
    let head = rw c.head.ensures at c.in_err-put.ensures in
    rw (reply_bytes-parts c.args.reply.now) (IsPut-before _ _ c.from_residual.result _ _ _ c.from_residual.ensures.0
    head)

pub returns : goal.returns
returns g c =
    let head = rw c.head.ensures at c.in_ok-put.ensures in
    rw (reply_bytes-parts c.args.reply.now) (IsPut-after _ _ _ c.write_body.result _ _ head.bytes head.cause.later
    c.write_body.ensures)
