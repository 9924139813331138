-- What a check takes of its input, and what it writes.
use Rattle.std.specs.Prelude.{◌≡◌, ℕ, List, [], Result, Ok, Err}
use Rattle.sd_io.specs.States.{Ports}
use Rattle.sd_io.specs.Causes.{Gains, GainsFront, Rose, Takes}
use Rattle.sd_io.specs.Fronts.{IsFrontTaken}
use Rattle.sd_io.specs.declared.front.FrontError.{FrontError}
use Rattle.sd_io.specs.declared.front.FrontError.TheVariants as front
use Rattle.config_check.specs.declared.error.CheckError.{CheckError}
use Rattle.config_check.specs.declared.error.CheckError.TheVariants.{Read, Write, Memory}
use Rattle.config_check.specs.declared.finding.Finding.{Finding}
use Rattle.config_check.specs.Findings.{finding_of}
use Rattle.config_check.specs.FindingLines.{finding_line}

-- as many bytes are taken at most: one more than a configuration may have
abbrev pub most_taken : ℕ
most_taken = 262145

-- why a check ended before it began to judge: its input wasn't read whole
abbrev pub check_error : FrontError → CheckError
check_error front.Read = Read
check_error front.Memory = Memory

-- The output failed: a front of the line of what is found of the bytes taken was written, and the fault was counted.
pub record IsLineCutShort (taken : List ℕ) (old new : Ports) : Type 0 where
  pub is_taken : IsFrontTaken most_taken taken new.input
  pub written : GainsFront old.output new.output (finding_line (finding_of taken))
  pub rose : Rose old.output.faults new.output.faults

-- what was taken and written, by the answer of a check: the line of what was found, a front of it, or nothing; a fault
-- of the input or the output was counted there
abbrev pub CheckOutcome : List ℕ → Ports → Ports → Result Finding CheckError → Type 0
CheckOutcome taken old new (Ok finding) =
    IsFrontTaken most_taken taken new.input × (finding ≡ finding_of taken)
    × Gains old.output new.output (finding_line finding)
CheckOutcome taken old new (Err Write) = IsLineCutShort taken old new
CheckOutcome taken old new (Err Read) = Gains old.output new.output [] × Rose old.input.faults new.input.faults
CheckOutcome taken old new (Err Memory) = Gains old.output new.output []

-- A check took bytes from the front of its input, and was answered so.
pub record Checks (old new : Ports) (answer : Result Finding CheckError) : Type 0 where
  pub taken : List ℕ
  pub consumes : Takes old.input new.input taken
  pub outcome : CheckOutcome taken old new answer
