-- What the print of a report takes of its input, and what it writes.
use Rattle.std.specs.Prelude.{◌≡◌, ℕ, ◌≤◌, List, [], ◌++◌, length, codes, Result, Ok, Err}
use Rattle.serde_json.specs.Written.{compact_text}
use Rattle.sd_io.specs.States.{Ports}
use Rattle.sd_io.specs.Causes.{Gains, GainsFront, IsAtEnd, Rose, Takes}
use Rattle.sd_io.specs.declared.front.FrontError.{FrontError}
use Rattle.sd_io.specs.declared.front.FrontError.TheVariants as front
use Rattle.report_writer.specs.declared.tree.ReportTree.{ReportTree}
use Rattle.report_show.specs.declared.show_error.ShowError.{ShowError}
use Rattle.report_show.specs.declared.show_error.ShowError.TheVariants as show
use Rattle.report_show.specs.Show.{most_report_bytes, IsReport, IsSpelledByNone}
use Rattle.report_json.specs.ReportJson.{report_json}
use Rattle.report_print.specs.declared.error.ReportFault.{ReportFault}
use Rattle.report_print.specs.declared.error.ReportFault.TheVariants.{TooLong, NotReport}
use Rattle.report_print.specs.declared.error.PrintError.{PrintError}
use Rattle.report_print.specs.declared.error.PrintError.TheVariants.{Refused, Read, Write, Memory}

-- as many bytes are taken at most: one more than a report may have
abbrev pub most_report_taken : ℕ
most_report_taken = 16777217

-- the line of a report: its JSON, and a newline
abbrev pub report_line : ReportTree → List ℕ
report_line tree = compact_text (report_json tree) ++ codes "\n"

-- why a report isn't printed whose input wasn't read whole
abbrev pub unread_report : FrontError → PrintError
unread_report front.Read = Read
unread_report front.Memory = Memory

-- why bytes aren't printed that aren't read as a report
abbrev pub unshown_report : ShowError → PrintError
unshown_report (show.TooLong size) = Refused TooLong
unshown_report show.NotReport = Refused NotReport
unshown_report show.Memory = Memory

-- The input was taken to its end, and is a report of this tree.
pub record IsReportTaken (taken : List ℕ) (tree : ReportTree) (new : Ports) : Type 0 where
  pub at_end : IsAtEnd new.input.left
  pub is_report : IsReport taken tree

-- The input was one report, and its line was written.
pub record IsPrinted (taken : List ℕ) (old new : Ports) : Type 0 where
  pub tree : ReportTree
  pub is_taken : IsReportTaken taken tree new
  pub written : Gains old.output new.output (report_line tree)

-- The input was one report, and the output failed: a front of its line was written, and the fault was counted.
pub record IsPrintCutShort (taken : List ℕ) (old new : Ports) : Type 0 where
  pub tree : ReportTree
  pub is_taken : IsReportTaken taken tree new
  pub written : GainsFront old.output new.output (report_line tree)
  pub rose : Rose old.output.faults new.output.faults

-- bytes are no report: they are too many, or the input has ended and no well-formed tree is spelled so
abbrev pub IsRefused : ReportFault → List ℕ → Ports → Type 0
IsRefused TooLong taken new = length taken ≡ most_report_taken
IsRefused NotReport taken new =
    IsAtEnd new.input.left × (length taken ≤ most_report_bytes) × IsSpelledByNone taken

-- what was taken and written, by the answer: the line of the report, a front of it, or nothing; a fault of the input or
-- the output was counted there
abbrev pub PrintOutcome : List ℕ → Ports → Ports → Result Unit PrintError → Type 0
PrintOutcome taken old new (Ok done) = IsPrinted taken old new
PrintOutcome taken old new (Err (Refused fault)) =
    IsRefused fault taken new × Gains old.output new.output []
PrintOutcome taken old new (Err Read) = Gains old.output new.output [] × Rose old.input.faults new.input.faults
PrintOutcome taken old new (Err Write) = IsPrintCutShort taken old new
PrintOutcome taken old new (Err Memory) = Gains old.output new.output []

-- Bytes were taken from the front of an input, as many as may be a report and one more at most, and it was answered so.
pub record Prints (old new : Ports) (answer : Result Unit PrintError) : Type 0 where
  pub taken : List ℕ
  pub consumes : Takes old.input new.input taken
  pub outcome : PrintOutcome taken old new answer

-- the bytes are a report
abbrev pub IsSomeReport : List ℕ → Type 0
IsSomeReport bytes = (tree : ReportTree) × IsReport bytes tree
