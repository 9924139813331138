-- The length is put, and then the bytes.
use Rattle.sd_io.proofs.CausesLemmas.{IsPut-after, IsPut-before}
use Rattle.statsd_cli.proofs.save.put_framed.Goals as goal

pub returns-in_err-put : goal.returns-in_err-put
returns-in_err-put g c =
    let length = rw c.to_le_bytes.ensures at c.in_err-put.ensures in
    IsPut-before _ _ c.from_residual.result _ _ _ c.from_residual.ensures.0 length

pub returns : goal.returns
returns g c =
    let length = rw c.to_le_bytes.ensures at c.in_ok-put.ensures in
    IsPut-after _ _ _ c.put-2.result _ _ length.bytes length.cause.later c.put-2.ensures
