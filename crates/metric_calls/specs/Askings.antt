-- What a kind of metric asks of its producer: one record for every kind, and when its calls agree with its steps.
use Rattle.std.specs.Prelude.{◌≡◌, ℕ, Bool, List, [], ◌++◌}
use Rattle.sd_base.specs.Outputs.{outputs_after}
use Rattle.atom_record.specs.declared.log.LogFrame.{LogFrame}
use Rattle.bucket_meaning.specs.Ends.{Moment}
use Rattle.bucket_meaning.specs.Marks.{Mark, Edges}
use Rattle.bucket_meaning.specs.Kept.{Taken}
use Rattle.bucket_meaning.specs.Meaning.{report_by}
use Rattle.metric_producer.specs.Calls.{Call, Demands}
use Rattle.metric_producer.specs.Rules.{AreTold}
use Rattle.metric_producer.specs.LaneCalls.{LaneStep, told_by, crossing, cutting, AreAskedAt}
use Rattle.metric_producer.specs.OpeningCalls.{AreOpening, calls_with}
use Rattle.metric_producer.specs.Collecting.{Collecting, call_marks, calls_mean}
use Rattle.metric_meaning.specs.Histories.{Logged, Step, moment_of}
use Rattle.metric_meaning.specs.Ways.{Way}
use Rattle.metric_calls.specs.LaneSteps.{lane_steps}

-- What a metric asks of its producer: by its steps it means `way`; its producer is made with `params`; `opens` are the
-- calls before all steps, and `news` is what a step brings to its lane, knowing the steps before; `asks` are the calls
-- at a frame with such news.
pub record Asking (Params News Event After X K C R : Type 0) : Type 0 where
  pub way : Way X K C R
  pub params : Params
  pub opens : List (Call Event After)
  pub news : List Step → Step → News
  pub asks : List (LaneStep News) → Moment → News → List (Call Event After)

-- a step of a frame of the log
abbrev pub frame_step : LogFrame → ℕ → List Bool → Step
frame_step frame at truths = record { at = at; what = Logged frame; truths = truths }

-- The same stands at boundaries, whenever they are.
pub record AreSameEdges {X : Type 0} (edges others : Edges X) : Type 0 where
  pub closing : (at : ℕ) → edges.closing at ≡ others.closing at
  pub closing_again : (at : ℕ) → edges.closing_again at ≡ others.closing_again at
  pub opening : (at : ℕ) → edges.opening at ≡ others.opening at

module _ {Params News Event After X K C R : Type 0} (asking : Asking Params News Event After X K C R) where
  -- the steps as the lane sees them
  abbrev pub steps_seen : List Step → List (LaneStep News)
  steps_seen steps = lane_steps asking.news steps

  -- what is asked at a frame, after these steps
  abbrev pub asked_at : List Step → LogFrame → ℕ → List Bool → List (Call Event After)
  asked_at before frame at truths =
      asking.asks (steps_seen before) (moment_of frame at) (asking.news before (frame_step frame at truths))

  module _ (collecting : Collecting Params Event After X K C R) where
    -- what the producer demands
    abbrev pub own_demands : Demands Event After
    own_demands = collecting.demands asking.params

    -- the opening calls, and those of all steps
    abbrev pub calls_by_steps : List Step → List (Call Event After)
    calls_by_steps steps = calls_with own_demands asking.asks asking.opens (steps_seen steps)

    -- the calls up to what a frame crosses, before what is asked at it
    abbrev pub calls_crossed : List Step → LogFrame → ℕ → List (Call Event After)
    calls_crossed before frame at =
        calls_by_steps before
        ++ crossing own_demands.base own_demands.size (told_by (steps_seen before)) (moment_of frame at)

    -- the calls up to a report's cut
    abbrev pub calls_cut : List Step → Bool → ℕ → List (Call Event After)
    calls_cut steps include_current now =
        calls_by_steps steps ++ cutting own_demands.size include_current now

    -- What is asked may come: opening calls where the producer's time begins, and those of a frame at its time, each
    -- event followed by its condition where that has to be; and each condition may be told after the calls before it.
    pub record AsksWell : Type 0 where
      pub opens : AreOpening own_demands asking.opens
      pub at_frame : (before : List Step) (frame : LogFrame) (at : ℕ) (truths : List Bool)
          → AreAskedAt own_demands at (asked_at before frame at truths)
          × AreTold own_demands (calls_crossed before frame at) (asked_at before frame at truths)

    -- the marks of calls, with others before
    abbrev pub marks_after : List (Call Event After) → List (Call Event After) → List (Mark X)
    marks_after before calls = outputs_after (call_marks collecting asking.params) before calls

    -- what a report shows by the calls up to its cut
    abbrev pub shown_by_calls : List Step → Bool → ℕ → Taken R
    shown_by_calls steps include_current now =
        report_by (calls_mean collecting) asking.params (calls_cut steps include_current now)

    -- The producer is made for this metric.
    pub record IsMadeFor : Type 0 where
      pub base : own_demands.base ≡ asking.way.base
      pub size : own_demands.size ≡ asking.way.size
      pub bound : collecting.bound asking.params ≡ asking.way.bound
      pub kind : collecting.kind asking.params ≡ asking.way.kind

    -- Calls and steps agree: opening calls have the marks of the beginning; what is asked at a frame has the marks
    -- that the frame brings; and the same stands at a boundary, after all steps before it.
    pub record Agrees : Type 0 where
      pub made : IsMadeFor
      pub opens : marks_after [] asking.opens ≡ asking.way.shown.begins
      pub at_frame : (before : List Step) (frame : LogFrame) (at : ℕ) (truths : List Bool)
          → marks_after (calls_crossed before frame at) (asked_at before frame at truths)
          ≡ asking.way.shown.comes before (frame_step frame at truths)
      pub at_boundary : (before : List Step)
          → AreSameEdges (collecting.edges asking.params (calls_by_steps before)) (asking.way.shown.edges before)
