-- The time of the last frame doesn't fall with steps that come in time, for callers.
use Rattle.std.proofs.Common.{◌≡◌, ℕ, ◌≤◌, Bool, List, [], ◌∷◌, ◌++◌, refl, sym, subst, arith}
use Rattle.metric_meaning.specs.Histories.{What, Logged, Reported, Step, History, with_steps}
use Rattle.metric_producer.specs.LaneCalls.{IsTimelyStep, last_at}
use Rattle.client_engine.specs.InstanceStands.{last_step_time}
use Rattle.client_engine.specs.NextSteps.{bare_step, ComeInTime, last_from}

-- it is no later before a step than after it
one_later : (last at : ℕ) (what : What) (truths : List Bool)
    → let step : Step = record { at = at; what = what; truths = truths } in
    IsTimelyStep last (bare_step step) → last ≤ last_at last (bare_step step)
one_later last at (Logged frame) truths in_time = in_time.0
one_later last at (Reported include_current) truths in_time = omega arith

-- nor before steps that come in time
pub last_grows : (last : ℕ) (steps : List Step) → ComeInTime last steps → last ≤ last_from last steps
last_grows last [] in_time = omega arith
last_grows last (step ∷ steps) in_time =
    let first = one_later last step.at step.what step.truths in_time.0 in
    let others = last_grows (last_at last (bare_step step)) steps in_time.1 in
    omega (arith, first, others)

-- the last of steps after others
pub last_from-append : (last : ℕ) (steps run : List Step)
    → last_from last (steps ++ run) ≡ last_from (last_from last steps) run
last_from-append last [] run = refl
last_from-append last (step ∷ steps) run = last_from-append (last_at last (bare_step step)) steps run

-- steps that come in time after others do so after the time of the last of those
pub in_time-behind : (last : ℕ) (steps run : List Step) → ComeInTime last (steps ++ run)
    → ComeInTime (last_from last steps) run
in_time-behind last [] run in_time = in_time
in_time-behind last (step ∷ steps) run in_time =
    in_time-behind (last_at last (bare_step step)) steps run in_time.1

-- and the steps before others come in time, too
pub in_time-before : (last : ℕ) (steps run : List Step) → ComeInTime last (steps ++ run) → ComeInTime last steps
in_time-before last [] run in_time = tt
in_time-before last (step ∷ steps) run in_time =
    (in_time.0, in_time-before (last_at last (bare_step step)) steps run in_time.1)

-- one more step that comes in time
pub in_time-push : (last : ℕ) (steps : List Step) (step : Step) → ComeInTime last steps
    → IsTimelyStep (last_from last steps) (bare_step step) → ComeInTime last (steps ++ step ∷ [])
in_time-push last [] step all comes = (comes, tt)
in_time-push last (first ∷ steps) step all comes =
    (all.0, in_time-push (last_at last (bare_step first)) steps step all.1 comes)

-- a history's last time is no later than that of the history with steps that come in time
pub last_time_grows : (history : History) (run : List Step)
    → ComeInTime history.installed.base (history.steps ++ run)
    → last_step_time history ≤ last_step_time (with_steps history run)
last_time_grows history run in_time =
    let base = history.installed.base in
    subst (λ time. last_from base history.steps ≤ time) (sym (last_from-append base history.steps run))
    (last_grows (last_from base history.steps) run (in_time-behind base history.steps run in_time))
