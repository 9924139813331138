-- On specs/Check.antt: a check that nothing hinders ends by what is found.
use Rattle.std.proofs.Common.{◌≡◌, ℕ, List, take, Option, Some, None, Result, Ok, Err, ap, ◌∙◌, inl, inr}
use Rattle.std.specs.Prelude.{◌⊎◌, IfSome}
use Rattle.sd_io.specs.States.{Output, Ports, ports, input_with}
use Rattle.sd_io.proofs.FrontLemmas.{first_taken}
use Rattle.config_check.specs.declared.error.CheckError.{CheckError}
use Rattle.config_check.specs.declared.error.CheckError.TheVariants.{Read, Write, Memory}
use Rattle.config_check.specs.declared.finding.Finding.{Finding}
use Rattle.config_check.specs.Findings.{finding_of}
use Rattle.config_check.specs.Checks.{most_taken, Checks}
use Rattle.statsd_cli.specs.Endings.{status_of}
use Rattle.statsd_cli.specs.Check.{ending_found, check_ending}
use Rattle.statsd_cli.specs.Does.{IsUndisturbed}

-- what was found is found of the first bytes
found_first : (bytes : List ℕ) (read_old : ℕ) (left : Option (List ℕ)) (read_now : ℕ) (o n : Output)
    (finding : Finding)
    → Checks (ports (input_with (Some bytes) read_old) o) (ports (input_with left read_now) n) (Ok finding)
    → finding ≡ finding_of (take most_taken bytes)
found_first bytes read_old None read_now o n finding checks = absurd checks.consumes
found_first bytes read_old (Some rest) read_now o n finding checks =
    checks.outcome.1
    ∙ ap finding_of (first_taken most_taken bytes checks.taken rest read_now checks.consumes checks.outcome.0)

-- of an input that tells its bytes
judged_at : (bytes : List ℕ) (read_old : ℕ) (o : Output) (new : Ports) (status : ℕ) (answer : Result Finding CheckError)
    → status ≡ status_of (check_ending answer)
    → Checks (ports (input_with (Some bytes) read_old) o) new answer
    → IsUndisturbed (ports (input_with (Some bytes) read_old) o) new
    → (status ≡ status_of (ending_found (finding_of (take most_taken bytes)))) ⊎ (status ≡ 6)
judged_at bytes read_old o new status (Ok finding) is checks still =
    inl (is ∙ ap (λ f. status_of (ending_found f))
    (found_first bytes read_old new.input.left new.input.faults o new.output finding checks))
judged_at bytes read_old o new status (Err Read) is checks still = absurd (still.reads checks.outcome.1)
judged_at bytes read_old o new status (Err Write) is checks still = absurd (still.writes checks.outcome.rose)
judged_at bytes read_old o new status (Err Memory) is checks still = inr is

judged_with : (left : Option (List ℕ)) (read_old : ℕ) (o : Output) (new : Ports) (status : ℕ)
    (answer : Result Finding CheckError)
    → status ≡ status_of (check_ending answer)
    → Checks (ports (input_with left read_old) o) new answer
    → IsUndisturbed (ports (input_with left read_old) o) new
    → IfSome left (λ bytes. (status ≡ status_of (ending_found (finding_of (take most_taken bytes)))) ⊎ (status ≡ 6))
judged_with None read_old o new status answer is checks still = tt
judged_with (Some bytes) read_old o new status answer is checks still =
    judged_at bytes read_old o new status answer is checks still

-- A check ends by what is found of the first bytes, unless the outside fails or memory is wanting.
pub judged : (old new : Ports) (status : ℕ) (answer : Result Finding CheckError)
    → status ≡ status_of (check_ending answer)
    → Checks old new answer
    → IsUndisturbed old new
    → IfSome old.input.left (λ bytes.
    (status ≡ status_of (ending_found (finding_of (take most_taken bytes)))) ⊎ (status ≡ 6))
judged old new status answer is checks still =
    judged_with old.input.left old.input.faults old.output new status answer is checks still
