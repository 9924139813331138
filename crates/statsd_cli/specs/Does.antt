-- What a command does, by cases: how it ended, what it took and wrote, and what was told of that.
use Rattle.std.specs.Prelude.{◌≡◌, ℕ, Result}
use Rattle.sd_io.specs.States.{Ports}
use Rattle.sd_io.specs.Causes.{Rose}
use Rattle.config_check.specs.declared.error.CheckError.{CheckError}
use Rattle.config_check.specs.declared.finding.Finding.{Finding}
use Rattle.config_check.specs.Checks.{Checks}
use Rattle.report_print.specs.declared.error.PrintError.{PrintError}
use Rattle.report_print.specs.Prints.{Prints}
use Rattle.statsd_cli.specs.declared.command.Command.{Command}
use Rattle.statsd_cli.specs.declared.command.Command.TheVariants.{Replay, Check, Show, Save, Resume, Load, Unknown}
use Rattle.statsd_cli.specs.declared.ending.Ending.{Ending}
use Rattle.statsd_cli.specs.declared.ending.Ending.TheVariants.{Usage}
use Rattle.statsd_cli.specs.Endings.{status_of, IsNoted}
use Rattle.statsd_cli.specs.Check.{check_ending}
use Rattle.statsd_cli.specs.Show.{print_ending}
use Rattle.statsd_cli.specs.Load.{IsLoaded}
use Rattle.statsd_cli.specs.Run.{IsRun}
use Rattle.statsd_cli.specs.Save.{IsSessionSaved}
use Rattle.statsd_cli.specs.Resume.{IsResumed}
use Rattle.statsd_cli.specs.Streams.{Streams}

-- A check ended by its answer.
pub record IsChecked (old new : Ports) (ending : Ending) : Type 0 where
  pub answer : Result Finding CheckError
  pub is : ending ≡ check_ending answer
  pub checks : Checks old new answer

-- A print of a report ended by its answer.
pub record IsReportShown (old new : Ports) (ending : Ending) : Type 0 where
  pub answer : Result Unit PrintError
  pub is : ending ≡ print_ending answer
  pub prints : Prints old new answer

-- Words of no command were refused: nothing was read or written.
pub record IsUsage (old new : Ports) (ending : Ending) : Type 0 where
  pub is : ending ≡ Usage
  pub still : new ≡ old

-- what a command took of the input and wrote to the output, where it ended so
abbrev pub Did : Command → Ports → Ports → Ending → Type 0
Did Replay old new ending = IsRun old new ending
Did Check old new ending = IsChecked old new ending
Did Show old new ending = IsReportShown old new ending
Did Save old new ending = IsSessionSaved old new ending
Did Resume old new ending = IsResumed old new ending
Did (Load seed frames) old new ending = IsLoaded seed frames old new ending
Did Unknown old new ending = IsUsage old new ending

-- A command was done: the status and the note say how it ended, and the input and the output bear that out.
pub record Does (command : Command) (status : ℕ) (old new : Streams) : Type 0 where
  pub ending : Ending
  pub is : status ≡ status_of ending
  pub did : Did command old.ports new.ports ending
  pub noted : IsNoted old.notes new.notes ending

-- No fault was counted on the input or the output.
pub record IsUndisturbed (old new : Ports) : Type 0 where
  pub reads : Rose old.input.faults new.input.faults → ⊥
  pub writes : Rose old.output.faults new.output.faults → ⊥
