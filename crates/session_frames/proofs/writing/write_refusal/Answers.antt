use Rattle.sd_io.proofs.CausesLemmas.{IsPut-after, IsPut-before}
use Rattle.session_frames.proofs.writing.write_refusal.Goals as goal

-- the class and the count, and then the path
pub returns-in_err-put-in-Unsupported : goal.returns-in_err-put-in-Unsupported
returns-in_err-put-in-Unsupported g c =
    let head = rw c.as_slice-numbers.ensures.numbers at c.in_err-put-in-Unsupported.ensures in
    rw c.in-Unsupported.is (IsPut-before _ _ c.from_residual.result _ _ _ c.from_residual.ensures.0 head)

pub returns-in_ok-put-in-Unsupported : goal.returns-in_ok-put-in-Unsupported
returns-in_ok-put-in-Unsupported g c =
    let head = rw c.as_slice-numbers.ensures.numbers at c.in_ok-put-in-Unsupported.ensures in
    let path = rw c.as_slice-numbers.ensures.numbers at c.write_path.ensures in
    rw c.in-Unsupported.is (IsPut-after _ _ _ c.write_path.result _ _ head.bytes head.cause.later path)
