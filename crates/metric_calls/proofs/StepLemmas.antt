-- Steps as a lane sees them: lemmas on `specs/Histories.antt` and `specs/StepMarks.antt`, for the proofs of lanes.
use Rattle.std.proofs.Common.{◌≡◌, ℕ, Bool, true, false, List, [], ◌∷◌, ◌++◌, refl, ap}
use Rattle.sd_base.specs.Outputs.{outputs_after}
use Rattle.bucket_meaning.specs.Ends.{Moment}
use Rattle.bucket_clock.specs.Clock.{moments_told}
use Rattle.metric_producer.specs.LaneCalls.{LaneStep, told_by}
use Rattle.metric_meaning.specs.Histories.{What, Logged, Reported, Step, moments_at}
use Rattle.metric_calls.specs.LaneSteps.{lane_step, lane_steps}
use Rattle.metric_meaning.specs.StepMarks.{moments}

module _ {News : Type 0} (news : List Step → Step → News) where
  -- a step as a lane sees it, where others came before
  abbrev pub lane_step_after : List Step → Step → List (LaneStep News)
  lane_step_after before step = lane_step (news before) step ∷ []

  -- one more step before others that a clock is told of
  told_of_step : (before : List Step) (at : ℕ) (what : What) (truths : List Bool) (others : List (LaneStep News))
      (rest : List Moment) → moments_told (told_by others) ≡ rest
      → moments_told (told_by (lane_step (news before) (record { at = at; what = what; truths = truths }) ∷ others))
      ≡ moments_at what at ++ rest
  told_of_step before at (Logged frame) truths others rest is = ap (λ l. moments_at (Logged frame) at ++ l) is
  told_of_step before at (Reported true) truths others rest is = is
  told_of_step before at (Reported false) truths others rest is = is

  -- the clock of a lane is told of the frames among the steps, where others came before
  told_from : (before steps : List Step)
      → moments_told (told_by (outputs_after lane_step_after before steps)) ≡ moments steps
  told_from before [] = refl
  told_from before (step ∷ steps) =
      told_of_step before step.at step.what step.truths (outputs_after lane_step_after (before ++ step ∷ []) steps)
      (moments steps) (told_from (before ++ step ∷ []) steps)

  -- the clock of a lane is told of the frames among the steps
  pub told_by-steps : (steps : List Step) → moments_told (told_by (lane_steps news steps)) ≡ moments steps
  told_by-steps steps = told_from [] steps
