-- The print of a report: how it ended, by its answer.
use Rattle.std.specs.Prelude.{◌≡◌, ℕ, ◌⊎◌, List, Result, Ok, Err}
use Rattle.report_print.specs.declared.error.PrintError.{PrintError}
use Rattle.report_print.specs.declared.error.PrintError.TheVariants.{Refused, Read, Write, Memory}
use Rattle.report_print.specs.Prints.{IsSomeReport}
use Rattle.statsd_cli.specs.declared.ending.Ending.{Ending}
use Rattle.statsd_cli.specs.declared.ending.Ending.TheVariants.{Done, ReportRefused, ReadFault, WriteFault, NoMemory}
use Rattle.statsd_cli.specs.Endings.{status_done, status_no_memory, status_report_refused}

-- how a print ends, by its answer
abbrev pub print_ending : Result Unit PrintError → Ending
print_ending (Ok done) = Done
print_ending (Err (Refused fault)) = ReportRefused fault
print_ending (Err Read) = ReadFault
print_ending (Err Write) = WriteFault
print_ending (Err Memory) = NoMemory

-- the status says whether the bytes are a report, unless memory was wanting
abbrev pub IsReportJudged : List ℕ → ℕ → Type 0
IsReportJudged bytes status =
    ((status ≡ status_done) × IsSomeReport bytes)
    ⊎ ((status ≡ status_report_refused) × (IsSomeReport bytes → ⊥))
    ⊎ (status ≡ status_no_memory)
