-- Where memory is wanting, what came so far was taken.
use Rattle.std.proofs.lemmas.Result.{err_from_is_err_and}
use Rattle.sd_io.proofs.CausesLemmas.{Takes-nil, Takes-trans}
use Rattle.statsd_cli.proofs.FormLemmas.{wants_memory}
use Rattle.statsd_cli.proofs.saved_form.take_whole.Goals as goal

pub returns-in_err-piece-clause-lacks : goal.returns-in_err-piece-clause-lacks
returns-in_err-piece-clause-lacks g c =
    let failed = err_from_is_err_and c.from_residual.result c.from_residual.ensures.1 in
    rw (failed.1, failed.2) (wants_memory _ _ c.args.count _ (Takes-nil (g.S.Source.state c.args.input.now)))

pub returns-in_err-extend_from_slice-clause-lacks : goal.returns-in_err-extend_from_slice-clause-lacks
returns-in_err-extend_from_slice-clause-lacks g c =
    let failed = err_from_is_err_and c.from_residual-in_err-extend_from_slice.result
    c.from_residual-in_err-extend_from_slice.ensures.1 in
    rw (failed.1, failed.2) (wants_memory _ _ c.args.count _ (Takes-trans (g.S.Source.state c.args.input.now)
    (g.S.Source.state c.reads.input) (g.S.Source.state c.read.new.self) c.reads.bytes.items _ c.reads.invariant.consumes
    c.in_ok-got.ensures.bytes.0))
