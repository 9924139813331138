-- A session under way, wherever it began: what was served of it, what one step more comes to, and what was told so far.
use Rattle.std.specs.Prelude.{◌≡◌, ℕ, ◌-◌, ◌<◌, ◌≤◌, false, List, [], ◌++◌, Option, Some, None, Result, Ok, Err}
use Rattle.sd_io.specs.States.{Input, Output, Ports, ports}
use Rattle.sd_io.specs.Causes.{Gains, Takes}
use Rattle.session_frames.specs.declared.frame.Frame.{Frame}
use Rattle.session_frames.specs.declared.reply.Reply.{Reply}
use Rattle.session_frames.specs.Frames.{most_session_frames, Begins}
use Rattle.session_frames.specs.Reader.{unread, resumed_at}
use Rattle.matcher_eval.specs.declared.field_judge.FieldJudge.{FieldJudge}
use Rattle.matcher_eval.specs.AtomTests.{matcher_holds}
use Rattle.hub_meaning.specs.SessionLog.{clock_of}
use Rattle.hub_core.specs.declared.hub.Hub.{Hub}
use Rattle.hub_core.specs.HubStands.{HubStandsFor}
use Rattle.statsd_cli.specs.declared.ending.Ending.{Ending}
use Rattle.statsd_cli.specs.declared.ending.Ending.TheVariants.{Done, WriteFault, NoMemory}
use Rattle.statsd_cli.specs.declared.serving.Serving.{Serving}
use Rattle.statsd_cli.specs.declared.serving.Step.{Step}
use Rattle.statsd_cli.specs.declared.serving.Step.TheVariants.{Served, Ended}
use Rattle.statsd_cli.specs.More.{bytes_if_any, more}
use Rattle.statsd_cli.specs.Run.{IsReadSo, IsRunFrom, WordTells}

-- how a session ends by a step, if it does
abbrev pub step_ending : Step → Option Ending
step_ending (Served reply) = None
step_ending (Ended ending) = Some ending

-- this holds of whatever frames a hub stood for
abbrev pub WhateverCame : Hub FieldJudge → (List Frame → Type 0) → Type 0
WhateverCame hub holds = (before : List Frame) → HubStandsFor matcher_holds hub before → holds before

-- what is told of frames after a hub: the replies to them, whatever came before
abbrev pub tells_after : Hub FieldJudge → WordTells
tells_after hub frames told = WhateverCame hub (λ before. told (more before frames))

-- Nothing was read, and the clock of the reader is that of the hub.
pub record HasReadNothing (serving : Serving) : Type 0 where
  pub reader : serving.reader ≡ record unread { place = resumed_at serving.reader.place.clock }
  pub timed : WhateverCame serving.hub (λ before. clock_of before ≡ serving.reader.place.clock)

-- Where a session began: the clock, its hub, and its input.
pub record Origin : Type 0 where
  pub clock : ℕ
  pub hub : Hub FieldJudge
  pub input : Input

-- it begins here
abbrev pub origin_at : Serving → Input → Origin
origin_at serving input = record { clock = serving.reader.place.clock; hub = serving.hub; input = input }

-- Since the origin these frames were served, of the bytes taken.
pub record IsServed (origin : Origin) (now : Input) (serving : Serving) (frames : List Frame) : Type 0 where
  pub taken : List ℕ
  pub consumes : Takes origin.input now taken
  pub begins : Begins (resumed_at origin.clock) taken frames serving.reader.place serving.reader.pending
  pub unended : serving.reader.ended ≡ false
  pub stands : WhateverCame origin.hub (λ before. HubStandsFor matcher_holds serving.hub (before ++ frames))
  pub timed : WhateverCame origin.hub (λ before. clock_of (before ++ frames) ≡ serving.reader.place.clock)
  pub reads : origin.input.faults ≤ now.faults

-- The session ended so after these frames: not for want of an output. Where it is done, the hub stands for all of them.
pub record HasEnded (origin : Origin) (now : Input) (serving : Serving) (frames : List Frame) (ending : Ending)
    : Type 0 where
  pub taken : List ℕ
  pub consumes : Takes origin.input now taken
  pub read : IsReadSo origin.clock taken frames origin.input now ending
  pub unwritten : ending ≡ WriteFault → ⊥
  pub stands : ending ≡ Done
      → WhateverCame origin.hub (λ before. HubStandsFor matcher_holds serving.hub (before ++ frames))

-- These frames have no reply, whatever came before them.
abbrev pub AreSilent : List Frame → Type 0
AreSilent frames = (before : List Frame) → more before frames ≡ []

-- After frames that have no reply the session ended so.
pub record EndsAfter (origin : Origin) (now : Input) (serving : Serving) (frames : List Frame) (ending : Ending)
    : Type 0 where
  pub come : List Frame
  pub silent : AreSilent come
  pub ended : HasEnded origin now serving (frames ++ come) ending

-- one session is nearer to the most frames than another
abbrev pub IsNearer : Serving → Serving → Type 0
IsNearer after before =
    most_session_frames - after.reader.place.frames < most_session_frames - before.reader.place.frames

-- More frames were served, of the log alone.
pub record HasLogged (origin : Origin) (now : Input) (frames : List Frame) (before after : Serving) : Type 0 where
  pub come : List Frame
  pub silent : AreSilent come
  pub served : IsServed origin now after (frames ++ come)
  pub counted : before.reader.place.frames ≤ after.reader.place.frames

-- what came of serving the frames of the log that stand next: all of them were served, or memory was wanting
abbrev pub LogsSo : {E : Type 0} → Origin → Input → List Frame → Serving → Serving → Result Unit E → Type 0
LogsSo origin now frames before after (Ok done) = HasLogged origin now frames before after
LogsSo origin now frames before after (Err e) = EndsAfter origin now after frames NoMemory

-- those of a session that was under way, wherever it began: the inputs are those before the frames and after them
abbrev pub LogsOn : {E : Type 0} → Input → Input → Serving → Serving → Result Unit E → Type 0
LogsOn old new before after result =
    (origin : Origin) (frames : List Frame) → IsServed origin old before frames
    → LogsSo origin new frames before after result

-- More frames were served, and this is the reply to the last of them, if it has one; the others have none.
pub record HasServed (origin : Origin) (now : Input) (frames : List Frame) (before after : Serving)
    (reply : Option Reply) : Type 0 where
  pub come : List Frame
  pub served : IsServed origin now after (frames ++ come)
  pub owed : WhateverCame origin.hub (λ before. bytes_if_any reply ≡ more (before ++ frames) come)
  pub nearer : IsNearer after before

-- what came of a step: more frames were served, or the session ended so
abbrev pub StepsSo : Origin → Input → List Frame → Serving → Serving → Step → Type 0
StepsSo origin now frames before after (Served reply) = HasServed origin now frames before after reply
StepsSo origin now frames before after (Ended ending) = EndsAfter origin now after frames ending

-- a step of a session that was under way, wherever it began: the inputs are those before the step and after it
abbrev pub StepsOn : Input → Input → Serving → Serving → Step → Type 0
StepsOn old new before after step =
    (origin : Origin) (frames : List Frame) → IsServed origin old before frames
    → StepsSo origin new frames before after step

-- a session was served from here to its end, and nothing was told
abbrev pub ServesAll : Input → Input → Serving → Serving → Ending → Type 0
ServesAll old new before after ending =
    (frames : List Frame) × HasEnded (origin_at before old) new after frames ending

-- A run under way: since the origin, where the output was this, frames were served and all replies to them were told.
pub record IsAlong (origin : Origin) (empty : Output) (now : Ports) (serving : Serving) : Type 0 where
  pub frames : List Frame
  pub served : IsServed origin now.input serving frames
  pub told : tells_after origin.hub frames (Gains empty now.output)
  pub writes : empty.faults ≤ now.output.faults

-- The run is under way still, and nearer to the most frames of a session.
pub record IsFurther (origin : Origin) (empty : Output) (now : Ports) (before after : Serving) : Type 0 where
  pub along : IsAlong origin empty now after
  pub nearer : IsNearer after before

-- what came of answering one frame more: the run ended so, or is under way still
abbrev pub AnswersSo : Origin → Output → Ports → Serving → Serving → Option Ending → Type 0
AnswersSo origin empty now before after (Some ending) =
    IsRunFrom origin.clock (tells_after origin.hub) (ports origin.input empty) now ending
AnswersSo origin empty now before after None = IsFurther origin empty now before after

-- one of a run that was under way, wherever it began: the streams are those before the frame and after it
abbrev pub AnswersOn : Ports → Ports → Serving → Serving → Option Ending → Type 0
AnswersOn old new before after ended =
    (origin : Origin) (empty : Output) → IsAlong origin empty old before
    → AnswersSo origin empty new before after ended
