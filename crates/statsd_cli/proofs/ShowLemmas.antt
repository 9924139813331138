-- On specs/Show.antt: a print that nothing hinders ends by whether the bytes are a report.
use Rattle.std.proofs.Common.{◌≡◌, ℕ, List, Option, Some, None, Result, Ok, Err, inl, inr}
use Rattle.std.specs.Prelude.{IfSome}
use Rattle.sd_io.specs.States.{Output, Ports, ports, input_with}
use Rattle.report_print.specs.declared.error.ReportFault.TheVariants.{TooLong, NotReport}
use Rattle.report_print.specs.declared.error.PrintError.{PrintError}
use Rattle.report_print.specs.declared.error.PrintError.TheVariants.{Refused, Read, Write, Memory}
use Rattle.report_print.specs.Prints.{Prints}
use Rattle.report_print.proofs.PrintsLemmas.{some_report, too_many, no_report}
use Rattle.statsd_cli.specs.Endings.{status_of}
use Rattle.statsd_cli.specs.Show.{print_ending, IsReportJudged}
use Rattle.statsd_cli.specs.Does.{IsUndisturbed}

-- of an input that tells its bytes, and what is left of them
printed_at : (bytes rest : List ℕ) (read_old read_now : ℕ) (o n : Output) (status : ℕ) (answer : Result Unit PrintError)
    → status ≡ status_of (print_ending answer)
    → Prints (ports (input_with (Some bytes) read_old) o) (ports (input_with (Some rest) read_now) n) answer
    → IsUndisturbed (ports (input_with (Some bytes) read_old) o) (ports (input_with (Some rest) read_now) n)
    → IsReportJudged bytes status
printed_at bytes rest read_old read_now o n status (Ok done) is prints still =
    let printed = prints.outcome in
    inl (
      is,
      some_report bytes prints.taken rest prints.consumes printed.tree printed.is_taken.at_end
          printed.is_taken.is_report,
    )
printed_at bytes rest read_old read_now o n status (Err (Refused TooLong)) is prints still =
    inr (inl (is, too_many bytes prints.taken rest prints.consumes prints.outcome.0))
printed_at bytes rest read_old read_now o n status (Err (Refused NotReport)) is prints still =
    let refused = prints.outcome.0 in
    inr (inl (is, no_report bytes prints.taken rest prints.consumes refused.0 refused.2))
printed_at bytes rest read_old read_now o n status (Err Read) is prints still = absurd (still.reads prints.outcome.1)
printed_at bytes rest read_old read_now o n status (Err Write) is prints still =
    absurd (still.writes prints.outcome.rose)
printed_at bytes rest read_old read_now o n status (Err Memory) is prints still = inr (inr is)

printed_with : (left left_now : Option (List ℕ)) (read_old read_now : ℕ) (o n : Output) (status : ℕ)
    (answer : Result Unit PrintError)
    → status ≡ status_of (print_ending answer)
    → Prints (ports (input_with left read_old) o) (ports (input_with left_now read_now) n) answer
    → IsUndisturbed (ports (input_with left read_old) o) (ports (input_with left_now read_now) n)
    → IfSome left (λ bytes. IsReportJudged bytes status)
printed_with None left_now read_old read_now o n status answer is prints still = tt
printed_with (Some bytes) None read_old read_now o n status answer is prints still = absurd prints.consumes
printed_with (Some bytes) (Some rest) read_old read_now o n status answer is prints still =
    printed_at bytes rest read_old read_now o n status answer is prints still

-- A print ends by whether the bytes are a report, unless the outside fails or memory is wanting.
pub printed : (old new : Ports) (status : ℕ) (answer : Result Unit PrintError)
    → status ≡ status_of (print_ending answer)
    → Prints old new answer
    → IsUndisturbed old new
    → IfSome old.input.left (λ bytes. IsReportJudged bytes status)
printed old new status answer is prints still =
    printed_with old.input.left new.input.left old.input.faults new.input.faults old.output new.output status answer is
    prints still
