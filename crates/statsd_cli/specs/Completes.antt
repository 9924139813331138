-- What a command comes to where the outside doesn't fail.
use Rattle.std.specs.Prelude.{◌≡◌, ℕ, ◌<◌, ◌⊎◌, List, take, IfSome}
use Rattle.sd_io.specs.States.{Ports}
use Rattle.sd_io.specs.Causes.{Rose}
use Rattle.session_frames.specs.declared.frame.Frame.{Frame}
use Rattle.session_frames.specs.Frames.{Clean, frames_of}
use Rattle.config_check.specs.Checks.{most_taken}
use Rattle.config_check.specs.Findings.{finding_of}
use Rattle.matcher_eval.specs.AtomTests.{matcher_holds}
use Rattle.saved_weight.specs.Weigh.{weigh}
use Rattle.checkpoint.specs.Forms.{most_saved}
use Rattle.statsd_cli.specs.declared.command.Command.{Command}
use Rattle.statsd_cli.specs.declared.command.Command.TheVariants.{Replay, Check, Show, Save, Resume, Load, Unknown}
use Rattle.statsd_cli.specs.Endings.{status_of, status_done, status_no_memory, status_save_refused}
use Rattle.statsd_cli.specs.Check.{ending_found}
use Rattle.statsd_cli.specs.Show.{IsReportJudged}
use Rattle.statsd_cli.specs.Resume.{MayGoOn}
use Rattle.statsd_cli.specs.Does.{IsUndisturbed}

-- the command was done, unless memory was wanting
abbrev pub IsDoneUnlessShort : ℕ → Type 0
IsDoneUnlessShort status = (status ≡ status_done) ⊎ (status ≡ status_no_memory)

-- the session was saved, unless memory was wanting, or its saved form may have more bytes than such a form has at most
abbrev pub IsSavedUnlessShort : List Frame → ℕ → Type 0
IsSavedUnlessShort frames status =
    IsDoneUnlessShort status ⊎ ((status ≡ status_save_refused) × (most_saved < weigh matcher_holds frames))

-- Where no fault is counted, and the input tells its bytes: a good session is answered to its end, and so is one that
-- goes on after the saved form of a session; a good session is saved; a configuration is judged by its first bytes;
-- bytes are printed exactly where they are a report; and a session of the engine's own, which reads nothing, is
-- answered to its end. Else memory was wanting.
abbrev pub Completes : Command → Ports → Ports → ℕ → Type 0
Completes Replay old new status =
    IsUndisturbed old new → IfSome old.input.left (λ bytes.
    (frames : List Frame) → frames_of bytes frames Clean → IsDoneUnlessShort status)
Completes Check old new status =
    IsUndisturbed old new → IfSome old.input.left (λ bytes.
    (status ≡ status_of (ending_found (finding_of (take most_taken bytes)))) ⊎ (status ≡ status_no_memory))
Completes Show old new status = IsUndisturbed old new → IfSome old.input.left (λ bytes. IsReportJudged bytes status)
Completes Save old new status =
    IsUndisturbed old new → IfSome old.input.left (λ bytes.
    (frames : List Frame) → frames_of bytes frames Clean → IsSavedUnlessShort frames status)
Completes Resume old new status =
    IsUndisturbed old new → IfSome old.input.left (λ bytes. MayGoOn bytes → IsDoneUnlessShort status)
Completes (Load seed frames) old new status =
    (Rose old.output.faults new.output.faults → ⊥) → IsDoneUnlessShort status
Completes Unknown old new status = Unit {0}
