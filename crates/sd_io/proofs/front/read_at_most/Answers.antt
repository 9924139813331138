-- Where memory is wanting, what came so far was taken.
use Rattle.std.proofs.lemmas.Result.{err_from_is_err_and}
use Rattle.sd_io.proofs.CausesLemmas.{Takes-trans}
use Rattle.sd_io.proofs.FrontLemmas.{cuts-Memory}
use Rattle.sd_io.proofs.front.read_at_most.Goals as goal

pub returns-in_err-extend_from_slice-clause-broken : goal.returns-in_err-extend_from_slice-clause-broken
returns-in_err-extend_from_slice-clause-broken g c =
    let failed = err_from_is_err_and c.from_residual-in_err-extend_from_slice.result
    c.from_residual-in_err-extend_from_slice.ensures.1 in
    rw (failed.1, failed.2) (cuts-Memory _ _ _ (Takes-trans (g.S.Source.state c.args.input.now)
    (g.S.Source.state c.reads.input) (g.S.Source.state c.read.new.self) c.reads.bytes.items _ c.reads.invariant.consumes
    c.in_ok-count.ensures.bytes.0))
