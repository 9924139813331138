-- On specs/Does.antt: what the status alone tells. 2 comes with words of no command and with no others; 4 and 5 come
-- where the count of faults of the input, of the output, rose.
use Rattle.std.proofs.Common.{◌≡◌, ℕ, ◌<◌, Result, Ok, Err, refl, sym, ap, ◌∙◌, arith}
use Rattle.sd_io.specs.States.{Ports}
use Rattle.sd_io.specs.Causes.{Rose}
use Rattle.config_check.specs.declared.error.CheckError.{CheckError}
use Rattle.config_check.specs.declared.error.CheckError.TheVariants.{Read, Write, Memory}
use Rattle.config_check.specs.declared.finding.Finding.{Finding}
use Rattle.config_check.specs.declared.finding.Finding.TheVariants.{Sound, TooLarge, Malformed, Unsupported, Unlinked}
use Rattle.config_check.specs.Checks.{Checks}
use Rattle.report_print.specs.declared.error.PrintError.{PrintError}
use Rattle.report_print.specs.declared.error.PrintError.TheVariants as print
use Rattle.report_print.specs.Prints.{Prints}
use Rattle.statsd_cli.specs.declared.command.Command.{Command}
use Rattle.statsd_cli.specs.declared.command.Command.TheVariants.{Replay, Check, Show, Save, Resume, Load, Unknown}
use Rattle.statsd_cli.specs.Endings.{status_of, status_usage, status_read_fault, status_write_fault}
use Rattle.statsd_cli.specs.Check.{check_ending}
use Rattle.statsd_cli.specs.Show.{print_ending}
use Rattle.statsd_cli.specs.Run.{replay_tells}
use Rattle.statsd_cli.specs.Streams.{Streams}
use Rattle.statsd_cli.specs.Does.{Does}
use Rattle.statsd_cli.proofs.RunLemmas.{run_usage, run_read, run_write}
use Rattle.statsd_cli.proofs.ResumeLemmas.{resume_usage, resume_read, resume_write}
use Rattle.statsd_cli.proofs.SaveLemmas.{saved_usage, saved_read, saved_write}
use Rattle.statsd_cli.proofs.LoadLemmas.{told_usage, told_read, told_write}

-- What a check tells, and what a print tells.
module _ (old new : Ports) where
  -- a finding ends with 0 or 1
  found_status : (finding : Finding) (status : ℕ) → 1 < status → status_of (check_ending (Ok finding)) ≡ status → ⊥
  found_status (Sound counts) status more is = absurd (omega (arith, is))
  found_status (TooLarge size) status more is = absurd (omega (arith, is))
  found_status (Malformed fault) status more is = absurd (omega (arith, is))
  found_status (Unsupported path) status more is = absurd (omega (arith, is))
  found_status (Unlinked fault) status more is = absurd (omega (arith, is))

  check_usage : (answer : Result Finding CheckError) → status_of (check_ending answer) ≡ 2 → ⊥
  check_usage (Ok finding) is = found_status finding 2 (omega arith) is
  check_usage (Err Read) is = absurd (omega (arith, is))
  check_usage (Err Write) is = absurd (omega (arith, is))
  check_usage (Err Memory) is = absurd (omega (arith, is))

  check_read : (answer : Result Finding CheckError) → Checks old new answer → status_of (check_ending answer) ≡ 4
      → Rose old.input.faults new.input.faults
  check_read (Ok finding) checks is = absurd (found_status finding 4 (omega arith) is)
  check_read (Err Read) checks is = checks.outcome.1
  check_read (Err Write) checks is = absurd (omega (arith, is))
  check_read (Err Memory) checks is = absurd (omega (arith, is))

  check_write : (answer : Result Finding CheckError) → Checks old new answer → status_of (check_ending answer) ≡ 5
      → Rose old.output.faults new.output.faults
  check_write (Ok finding) checks is = absurd (found_status finding 5 (omega arith) is)
  check_write (Err Read) checks is = absurd (omega (arith, is))
  check_write (Err Write) checks is = checks.outcome.rose
  check_write (Err Memory) checks is = absurd (omega (arith, is))

  print_usage : (answer : Result Unit PrintError) → status_of (print_ending answer) ≡ 2 → ⊥
  print_usage (Ok done) is = absurd (omega (arith, is))
  print_usage (Err (print.Refused fault)) is = absurd (omega (arith, is))
  print_usage (Err print.Read) is = absurd (omega (arith, is))
  print_usage (Err print.Write) is = absurd (omega (arith, is))
  print_usage (Err print.Memory) is = absurd (omega (arith, is))

  print_read : (answer : Result Unit PrintError) → Prints old new answer → status_of (print_ending answer) ≡ 4
      → Rose old.input.faults new.input.faults
  print_read (Ok done) prints is = absurd (omega (arith, is))
  print_read (Err (print.Refused fault)) prints is = absurd (omega (arith, is))
  print_read (Err print.Read) prints is = prints.outcome.1
  print_read (Err print.Write) prints is = absurd (omega (arith, is))
  print_read (Err print.Memory) prints is = absurd (omega (arith, is))

  print_write : (answer : Result Unit PrintError) → Prints old new answer → status_of (print_ending answer) ≡ 5
      → Rose old.output.faults new.output.faults
  print_write (Ok done) prints is = absurd (omega (arith, is))
  print_write (Err (print.Refused fault)) prints is = absurd (omega (arith, is))
  print_write (Err print.Read) prints is = absurd (omega (arith, is))
  print_write (Err print.Write) prints is = prints.outcome.rose
  print_write (Err print.Memory) prints is = absurd (omega (arith, is))

-- 2 comes with words of no command alone
pub usage_is_unknown : (command : Command) (status : ℕ) (old new : Streams) → Does command status old new
    → status ≡ status_usage → command ≡ Unknown
usage_is_unknown Replay status old new does is =
    absurd (run_usage 0 replay_tells old.ports new.ports does.ending does.did (sym does.is ∙ is))
usage_is_unknown Check status old new does is =
    absurd (check_usage old.ports new.ports does.did.answer (sym (does.is ∙ ap status_of does.did.is) ∙ is))
usage_is_unknown Show status old new does is =
    absurd (print_usage old.ports new.ports does.did.answer (sym (does.is ∙ ap status_of does.did.is) ∙ is))
usage_is_unknown Save status old new does is =
    absurd (saved_usage old.ports new.ports does.ending does.did (sym does.is ∙ is))
usage_is_unknown Resume status old new does is =
    absurd (resume_usage old.ports new.ports does.ending does.did (sym does.is ∙ is))
usage_is_unknown (Load seed frames) status old new does is =
    absurd (told_usage _ old.ports.output new.ports.output does.ending does.did.told (sym does.is ∙ is))
usage_is_unknown Unknown status old new does is = refl

-- 2 comes with all words of no command
pub unknown_is_usage : (status : ℕ) (old new : Streams) → Does Unknown status old new → status ≡ status_usage
unknown_is_usage status old new does = does.is ∙ ap status_of does.did.is

-- 4 has its cause on the input
pub read_fault_rose : (command : Command) (status : ℕ) (old new : Streams) → Does command status old new
    → status ≡ status_read_fault → Rose old.ports.input.faults new.ports.input.faults
read_fault_rose Replay status old new does is =
    run_read 0 replay_tells old.ports new.ports does.ending does.did (sym does.is ∙ is)
read_fault_rose Check status old new does is =
    check_read old.ports new.ports does.did.answer does.did.checks (sym (does.is ∙ ap status_of does.did.is) ∙ is)
read_fault_rose Show status old new does is =
    print_read old.ports new.ports does.did.answer does.did.prints (sym (does.is ∙ ap status_of does.did.is) ∙ is)
read_fault_rose Save status old new does is =
    saved_read old.ports new.ports does.ending does.did (sym does.is ∙ is)
read_fault_rose Resume status old new does is =
    resume_read old.ports new.ports does.ending does.did (sym does.is ∙ is)
read_fault_rose (Load seed frames) status old new does is =
    absurd (told_read _ old.ports.output new.ports.output does.ending does.did.told (sym does.is ∙ is))
read_fault_rose Unknown status old new does is =
    absurd (omega (arith, sym (does.is ∙ ap status_of does.did.is) ∙ is))

-- 5 has its cause on the output
pub write_fault_rose : (command : Command) (status : ℕ) (old new : Streams) → Does command status old new
    → status ≡ status_write_fault → Rose old.ports.output.faults new.ports.output.faults
write_fault_rose Replay status old new does is =
    run_write 0 replay_tells old.ports new.ports does.ending does.did (sym does.is ∙ is)
write_fault_rose Check status old new does is =
    check_write old.ports new.ports does.did.answer does.did.checks (sym (does.is ∙ ap status_of does.did.is) ∙ is)
write_fault_rose Show status old new does is =
    print_write old.ports new.ports does.did.answer does.did.prints (sym (does.is ∙ ap status_of does.did.is) ∙ is)
write_fault_rose Save status old new does is =
    saved_write old.ports new.ports does.ending does.did (sym does.is ∙ is)
write_fault_rose Resume status old new does is =
    resume_write old.ports new.ports does.ending does.did (sym does.is ∙ is)
write_fault_rose (Load seed frames) status old new does is =
    told_write _ old.ports.output new.ports.output does.ending does.did.told (sym does.is ∙ is)
write_fault_rose Unknown status old new does is =
    absurd (omega (arith, sym (does.is ∙ ap status_of does.did.is) ∙ is))
