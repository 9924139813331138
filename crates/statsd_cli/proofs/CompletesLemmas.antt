-- On specs/Completes.antt: what each command comes to.
use Rattle.std.proofs.Common.{◌≡◌, ℕ, ap, subst, ◌∙◌}
use Rattle.sd_io.specs.States.{Ports}
use Rattle.statsd_cli.specs.declared.command.Command.{Command}
use Rattle.statsd_cli.specs.declared.command.Command.TheVariants.{Replay, Check, Show, Save, Resume, Load, Unknown}
use Rattle.statsd_cli.specs.declared.ending.Ending.{Ending}
use Rattle.statsd_cli.specs.Endings.{status_of}
use Rattle.statsd_cli.specs.Run.{replay_tells}
use Rattle.statsd_cli.specs.Does.{Did}
use Rattle.statsd_cli.specs.Completes.{Completes}
use Rattle.statsd_cli.proofs.RunLemmas.{complete_from}
use Rattle.statsd_cli.proofs.SaveLemmas.{saved}
use Rattle.statsd_cli.proofs.ResumeLemmas.{resumed_completes}
use Rattle.statsd_cli.proofs.CheckLemmas.{judged}
use Rattle.statsd_cli.proofs.ShowLemmas.{printed}
use Rattle.statsd_cli.proofs.LoadLemmas.{told_status}

-- what was done, by the command that was done
completes : (command : Command) (old new : Ports) (status : ℕ) (ending : Ending)
    → status ≡ status_of ending
    → Did command old new ending
    → Completes command old new status
completes Replay old new status ending is did = λ still.
    complete_from 0 replay_tells old new status ending is did still
completes Check old new status ending is did = λ still.
    judged old new status did.answer (is ∙ ap status_of did.is) did.checks still
completes Show old new status ending is did = λ still.
    printed old new status did.answer (is ∙ ap status_of did.is) did.prints still
completes Save old new status ending is did = λ still. saved old new status ending is did still
completes Resume old new status ending is did = λ still. resumed_completes old new status ending is did still
completes (Load seed frames) old new status ending is did = λ still.
    told_status _ old.output new.output status ending is did.told still
completes Unknown old new status ending is did = tt

-- what was done is what the words ask for
pub asked_completes : (asked command : Command) (old new : Ports) (status : ℕ) (ending : Ending)
    → command ≡ asked
    → status ≡ status_of ending
    → Did command old new ending
    → Completes asked old new status
asked_completes asked command old new status ending same is did =
    subst (λ (c : Command). Completes c old new status) same (completes command old new status ending is did)
