-- What `read_tree` answers of any bytes.
use Rattle.std.specs.Prelude.{◌≡◌, ℕ, ◌<◌, ◌≤◌, List, length, Result, Ok, Err}
use Rattle.report_writer.specs.ReportSpelling.{report_message}
use Rattle.report_writer.specs.declared.tree.ReportTree.{ReportTree}
use Rattle.report_show.specs.declared.show_error.ShowError.{ShowError}
use Rattle.report_show.specs.declared.show_error.ShowError.TheVariants.{TooLong, NotReport, Memory}
use Rattle.report_show.specs.WellFormed.{IsWellFormed}

-- the greatest length of a report
abbrev pub most_report_bytes : ℕ
most_report_bytes = 16777216

-- the bytes are a report of this tree
pub record IsReport (bytes : List ℕ) (tree : ReportTree) : Type 0 where
  pub short : length bytes ≤ most_report_bytes
  pub well_formed : IsWellFormed tree
  pub spelled : bytes ≡ report_message tree

-- no well-formed tree is spelled so
abbrev pub IsSpelledByNone : List ℕ → Type 0
IsSpelledByNone bytes = (tree : ReportTree) → IsWellFormed tree → bytes ≡ report_message tree → ⊥

-- the one tree whose report these bytes are, or why there is none
abbrev pub ReadsTree : List ℕ → Result ReportTree ShowError → Type 0
ReadsTree bytes (Ok tree) = IsReport bytes tree
ReadsTree bytes (Err (TooLong size)) = (size ≡ length bytes) × (most_report_bytes < length bytes)
ReadsTree bytes (Err NotReport) = (length bytes ≤ most_report_bytes) × IsSpelledByNone bytes
ReadsTree bytes (Err Memory) = length bytes ≤ most_report_bytes

-- two well-formed trees with the same bytes are equal
abbrev pub HaveOneTree : Type 0
HaveOneTree = (tree other : ReportTree) → IsWellFormed tree → IsWellFormed other
    → report_message tree ≡ report_message other → tree ≡ other
