-- A metric is its lane and the book of its activations: it takes a frame and a report where both do.
use Rattle.std.proofs.Common.{ℕ, ◌<◌, Bool, List, [], ◌∷◌, ap, ◌∙◌}
use Rattle.atom_record.specs.declared.log.LogFrame.{LogFrame}
use Rattle.bucket_meaning.specs.Limits.{time_limit}
use Rattle.config_links.specs.declared.linked.LMetric.{LMetric}
use Rattle.metric_activation.specs.declared.timer.Timer.{Timer}
use Rattle.metric_meaning.specs.ActivationSteps.{is_active_after}
use Rattle.metric_meaning.specs.Histories.{Step, log_after}
use Rattle.metric_producer.specs.LaneCalls.{last_at}
use Rattle.report_writer.specs.declared.tree.MetricTree.{MetricTree}
use Rattle.session_frames.specs.FrameReading.{log_time}
use Rattle.client_engine.specs.Activity.{TellsFrame, SaysActive}
use Rattle.client_engine.specs.Handed.{Handed}
use Rattle.client_engine.specs.NextSteps.{with_logged, bare_step, ComeInTime, TakesFrame, TakesWhile, TakesReport}
use Rattle.client_engine.specs.TrackStands.{LaneAlong, TrackStandsFor}
use Rattle.client_engine.specs.declared.lanes.MetricLane.{MetricLane}
use Rattle.client_engine.specs.declared.request.ReportRequest.{ReportRequest}
use Rattle.client_engine.specs.declared.track.Track.{Track}
use Rattle.client_engine.proofs.ActivityLemmas.{report_stays}
use Rattle.client_engine.proofs.ShownLemmas.{shown_time}

-- a frame that comes in time after others comes before the end of time
last_fits : (last : ℕ) (steps : List Step) (frame : LogFrame) (truths : List Bool)
    → ComeInTime last (with_logged steps frame truths) → log_time frame < time_limit
last_fits last [] frame truths in_time = in_time.0.1
last_fits last (step ∷ steps) frame truths in_time =
    last_fits (last_at last (bare_step step)) steps frame truths in_time.1

module _ (metric : LMetric) (old new : MetricLane) (before after : List Timer) where
  -- the metric with its lane and its book, before and after
  abbrev first : Track
  first = record { metric = metric; lane = old; acts = before }

  abbrev later : Track
  later = record { metric = metric; lane = new; acts = after }

  -- it takes a frame that its book was told, and at which its lane heard whether it is active
  pub track_logs : (given : Handed) (shown : LogFrame) (truths : List Bool) (active : Bool)
      → TellsFrame metric shown truths before after → SaysActive metric after (log_time shown) active
      → TakesWhile (LaneAlong metric) active metric given shown truths old new
      → TakesFrame TrackStandsFor given shown truths first later
  track_logs given shown truths active told says takes installed steps frame has may =
      let log = log_after installed steps in
      let along =
      told log steps frame may.shown_is (last_fits installed.base steps frame truths may.in_time) has.acts in
      record {
        lane = takes installed steps frame (says (with_logged steps frame truths) along
            ∙ ap (is_active_after metric (with_logged steps frame truths))
            (ap log_time may.shown_is ∙ shown_time log frame)) has.lane may;
        acts = along;
      }

-- it takes a report where its lane does: its book is told nothing of it
pub track_reports : (metric : LMetric) (old new : MetricLane) (acts : List Timer) (base : ℕ) (request : ReportRequest)
    (tree : MetricTree) → TakesReport (LaneAlong metric) metric base request old new tree
    → TakesReport TrackStandsFor metric base request (record { metric = metric; lane = old; acts = acts })
    (record { metric = metric; lane = new; acts = acts }) tree
track_reports metric old new acts base request tree takes installed steps has may =
    let lane = takes installed steps has.lane may in
    (record { lane = lane.0; acts = report_stays metric steps acts has.acts request }, lane.1)
