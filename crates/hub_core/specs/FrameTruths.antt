-- What a frame of the log makes of an instance, with the truths that a judge says.
use Rattle.std.specs.Prelude.{◌≡◌, ◌≤◌, Bool, List, [], ◌∷◌, ◌++◌}
use Rattle.atom_record.specs.declared.atom.Atom.{Atom}
use Rattle.atom_record.specs.declared.log.LogFrame.{LogFrame}
use Rattle.atom_record.specs.declared.log.LogFrame.TheVariants.{AtomAt}
use Rattle.config_types.specs.declared.matcher.SimpleMatcher.{SimpleMatcher}
use Rattle.session_frames.specs.FrameReading.{log_time}
use Rattle.config_links.specs.declared.linked.LMatcher.{LMatcher}
use Rattle.matcher_truths.specs.MatcherTruths.{all_truths}
use Rattle.metric_meaning.specs.Histories.{History, with_step, log_of_history}
use Rattle.metric_meaning.specs.ShownFrames.{shown_as}
use Rattle.hub_meaning.specs.LiveConfigs.{truths_at}
use Rattle.bucket_meaning.specs.Ends.{Moment}
use Rattle.client_engine.specs.InstanceStands.{Running, InstanceStandsFor, last_step_time}
use Rattle.known_conditions.specs.Known.{logged_step}
use Rattle.client_engine.specs.Handed.{BookOfStates}
use Rattle.state_slicer.specs.StateBooks.{StateBookStandsFor}
use Rattle.hub_core.specs.Sleeping.{StandsAsleep}

module _ (says : SimpleMatcher → Atom → Bool) where
  -- the truths of these matchers, for an atom alone
  abbrev pub truths_by : List LMatcher → LogFrame → List Bool
  truths_by matchers (AtomAt at atom) = all_truths says atom matchers
  truths_by matchers _ = []

  -- whatever history the old slept in, if its last step isn't later than this frame, which is shown so, and the book
  -- stands for the log with it, the new stands for that history with this frame, by the truths of its matchers
  abbrev pub LogsBy : Moment → LogFrame → BookOfStates → Running → Running → Type 0
  LogsBy before shown book old new =
      (history : History) (frame : LogFrame) → StandsAsleep before old history
      → last_step_time history ≤ log_time frame → shown ≡ shown_as (log_of_history history) frame
      → StateBookStandsFor book (log_of_history history ++ frame ∷ [])
      → InstanceStandsFor new (with_step history (logged_step frame (truths_at says history.installed.linked frame)))
