-- The input was a report, and the output failed at its line.
use Rattle.std.proofs.Common.{◌≡◌, ℕ, List, Err, ap, subst, ◌∙◌}
use Rattle.std.proofs.lemmas.Result.{err_from_is_err_and}
use Rattle.report_writer.specs.declared.tree.ReportTree.{ReportTree}
use Rattle.report_show.specs.Show.{IsReport}
use Rattle.report_print.specs.Prints.{report_line}
use Rattle.report_print.proofs.PrintsLemmas.{cut_short}
use Rattle.report_print.proofs.print.print_report.Goals as goal

pub returns-in_err-put : goal.returns-in_err-put
returns-in_err-put g c =
    let taken : List ℕ = c.in_ok-bytes.bytes.items in
    let tree : ReportTree = c.in_ok-tree.tree in
    let report : IsReport taken tree =
    subst (λ (bytes : List ℕ). IsReport bytes tree) c.deref.ensures.value c.in_ok-tree.ensures in
    let line : c.deref-2.result.now ≡ report_line tree = c.deref-2.ensures.value ∙ c.in_ok-line.ensures in
    let fails = err_from_is_err_and c.from_residual-in_err-put.result c.from_residual-in_err-put.ensures.1 in
    cut_short _ _ taken tree c.in_ok-bytes.ensures.consumes c.in_ok-bytes.ensures.whole report c.deref-2.result.now line
    c.in_err-put.ensures.bytes c.in_err-put.ensures.cause.failed c.from_residual-in_err-put.result
    (fails.1 ∙ ap Err fails.2)
