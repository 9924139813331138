-- Steps that come in time don't go back, for kinds whose marks hang on times.
use Rattle.std.proofs.Common.{ℕ, Bool, List, [], ◌∷◌, sym, subst, arith}
use Rattle.metric_meaning.specs.Histories.{What, Logged, Reported, Step}
use Rattle.metric_producer.specs.LaneCalls.{IsTimelyStep, last_at}
use Rattle.metric_calls.proofs.TimelyLemmas.{DontGoBack, in_time-front}
use Rattle.client_engine.specs.NextSteps.{with_reported, reported_step, bare_step, ComeInTime}
use Rattle.client_engine.specs.declared.request.ReportRequest.{ReportRequest}

-- a step that comes in time doesn't go back, before others that don't
step_on : (last at : ℕ) (what : What) (truths : List Bool) (steps : List Step)
    → let step : Step = record { at = at; what = what; truths = truths } in
    IsTimelyStep last (bare_step step) → DontGoBack (last_at last (bare_step step)) steps
    → DontGoBack last (step ∷ steps)
step_on last at (Logged frame) truths steps in_time rest = (in_time.0, rest)
step_on last at (Reported include_current) truths steps in_time rest =
    (omega (arith, in_time), subst (λ n. DontGoBack n steps) (sym in_time) rest)

-- steps that come in time don't go back
steps_on : (last : ℕ) (steps : List Step) → ComeInTime last steps → DontGoBack last steps
steps_on last [] in_time = tt
steps_on last (step ∷ steps) in_time =
    step_on last step.at step.what step.truths steps in_time.0
    (steps_on (last_at last (bare_step step)) steps in_time.1)

-- nor do they from the beginning of time on
from_none : (last : ℕ) (steps : List Step) → DontGoBack last steps → DontGoBack 0 steps
from_none last [] all = tt
from_none last (step ∷ steps) all = (omega arith, all.1)

-- nor do those before a report that comes in time
pub dont_go_back : (last : ℕ) (steps : List Step) (request : ReportRequest)
    → ComeInTime last (with_reported steps request) → DontGoBack 0 steps
dont_go_back last steps request in_time =
    from_none last steps
    (in_time-front last steps (reported_step request ∷ []) (steps_on last (with_reported steps request) in_time))
