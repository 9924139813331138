-- What may be asked at a frame by all that is live after the frames before it.
use Rattle.std.specs.Prelude.{ℕ, ◌≤◌, Bool, List, length}
use Rattle.std.specs.List.{flat_map, sum_by}
use Rattle.atom_record.specs.declared.atom.Atom.{Atom}
use Rattle.atom_record.specs.declared.log.LogFrame.{LogFrame}
use Rattle.atom_record.specs.declared.log.LogFrame.TheVariants.{AtomAt}
use Rattle.config_types.specs.declared.matcher.SimpleMatcher.{SimpleMatcher}
use Rattle.config_links.specs.Verdict.{linked_form}
use Rattle.session_frames.specs.declared.frame.Frame.{Frame}
use Rattle.session_frames.specs.declared.frame.Frame.TheVariants.{Log}
use Rattle.hub_meaning.specs.SessionLog.{own}
use Rattle.saved_weight.specs.Weigh.{LiveOf, lives_of}
use Rattle.hub_core.specs.declared.hub.Hub.{Hub}
use Rattle.hub_core.specs.DifferentMatchers.{asked_matcher, different}
use Rattle.hub_core.specs.HubStands.{asked_in, HubStandsFor}
use Rattle.hub_core.specs.LiveQuestions.{config_questions, questions_in}

module _ (says : SimpleMatcher → Atom → Bool) where
  -- the questions of conditions that one that is live may cost at a frame of the log
  abbrev pub questions_by : List Frame → LogFrame → LiveOf → ℕ
  questions_by frames frame it = config_questions says it.0 (own it.0 frames) frame it.1

  -- those of all that is live after these frames: only an atom costs any
  abbrev pub live_questions : List Frame → Frame → ℕ
  live_questions frames (Log (AtomAt at atom)) = sum_by (questions_by frames (AtomAt at atom)) (lives_of frames)
  live_questions frames _ = 0

-- the simple matchers of an atom's id in one that is live
abbrev pub matchers_of : Atom → LiveOf → List SimpleMatcher
matchers_of atom it = flat_map (asked_matcher atom) (linked_form it.1.config it.0).matchers

-- those in all that is live after these frames
abbrev pub live_asked : Atom → List Frame → List SimpleMatcher
live_asked atom frames = flat_map (matchers_of atom) (lives_of frames)

-- how many different ones there are, where the frame is an atom
abbrev pub live_matchers : Frame → List Frame → ℕ
live_matchers (Log (AtomAt at atom)) frames = length (different (live_asked atom frames))
live_matchers _ frames = 0

module _ (says : SimpleMatcher → Atom → Bool) {J : Type 0} (hub : Hub J) where
  -- whatever frames the hub stands for, conditions are asked no more at the next one than all that is live may ask
  abbrev pub ConditionsAskFew : Type 0
  ConditionsAskFew =
      (frames : List Frame) (frame : Frame) → HubStandsFor says hub frames
      → questions_in says hub frames frame ≤ live_questions says frames frame

  -- and the judge no more than once for each different simple matcher of the atom's id in all that is live
  abbrev pub JudgeIsAskedFew : Type 0
  JudgeIsAskedFew =
      (frames : List Frame) (frame : Frame) → HubStandsFor says hub frames
      → asked_in frame hub ≤ live_matchers frame frames
