-- Where the steps of a session stand, and what is left of it.
use Rattle.std.specs.Prelude.{◌≡◌, ℕ, suc, ◌-◌, ◌≤◌, true, false, List, [], ◌∷◌, ◌++◌}
use Rattle.load_session.specs.declared.frame.LoadFrame.{LoadFrame}
use Rattle.load_session.specs.declared.frame.LoadFrame.TheVariants.{Install, Report}
use Rattle.load_session.specs.declared.steps.Steps.{Steps}
use Rattle.load_session.specs.declared.session.Turn.{Turn}
use Rattle.load_session.specs.declared.session.Turn.TheVariants as turns
use Rattle.load_session.specs.Numbers.{seed_number, draw_at, step_time}
use Rattle.load_session.specs.Frames.{most_frames, first_uid, second_uid, logged, reports, frames_after}

-- The number and the time are those of the last step that is done.
pub record AreUnderWay (steps : Steps) : Type 0 where
  pub number : steps.number ≡ seed_number steps.seed steps.done
  pub time : steps.time ≡ step_time steps.seed steps.done
  pub done : steps.done ≤ steps.frames
  pub bound : steps.frames ≤ most_frames

-- the steps before the first one
abbrev pub no_step_yet : ℕ → ℕ → Steps
no_step_yet seed frames = record { seed = seed; number = seed; time = 0; done = 0; frames = frames }

-- The new steps are the old ones, with one more that is done.
pub record IsNextStep (old new : Steps) : Type 0 where
  pub seed : new.seed ≡ old.seed
  pub done : new.done ≡ suc old.done
  pub frames : new.frames ≡ old.frames
  pub under_way : AreUnderWay new

-- what is logged at the next step
abbrev pub logged_after : Steps → LoadFrame
logged_after steps = logged (draw_at steps.seed (suc steps.done)) (step_time steps.seed (suc steps.done))

-- what comes after the steps that are done
abbrev pub later : Steps → List LoadFrame
later steps = frames_after steps.seed steps.done (steps.frames - steps.done)

-- what is left of the session at a turn
abbrev pub left_at : Turn → Steps → List LoadFrame
left_at turns.FirstInstall steps = Install first_uid ∷ Install second_uid ∷ later steps
left_at turns.SecondInstall steps = Install second_uid ∷ later steps
left_at turns.Step steps = later steps
left_at turns.FirstReport steps = reports false ++ later steps
left_at turns.SecondReport steps = Report second_uid false ∷ later steps
left_at turns.LastReport steps = Report second_uid true ∷ []
left_at turns.Over steps = []
