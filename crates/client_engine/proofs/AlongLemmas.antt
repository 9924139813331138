-- A lane that collects for its metric, one step more: lemmas on `specs/Along.antt`, for every kind of metric.
use Rattle.std.proofs.Common.{◌≡◌, ℕ, ◌<◌, Bool, List, [], ◌∷◌, ◌++◌, sym, subst, ◌∙◌}
use Rattle.std.proofs.lemmas.List.{append-nil}
use Rattle.sd_base.specs.Outputs.{outputs_after}
use Rattle.sd_base.proofs.OutputsLemmas.{outputs-push}
use Rattle.atom_record.specs.declared.log.LogFrame.{LogFrame}
use Rattle.bucket_meaning.specs.Ends.{Moment}
use Rattle.bucket_meaning.specs.Limits.{time_limit}
use Rattle.bucket_clock.specs.Clock.{Saw}
use Rattle.metric_producer.specs.Rules.{AreAdmitted}
use Rattle.metric_producer.specs.LaneCalls.{LaneStep, told_by, IsTimelyStep, AreTimely, last_at}
use Rattle.metric_producer.specs.OpeningCalls.{AskWell}
use Rattle.metric_producer.specs.declared.row.Row.{Row}
use Rattle.bucket_meaning.specs.Kept.{Taken}
use Rattle.metric_producer.specs.Collecting.{Law}
use Rattle.session_frames.specs.FrameReading.{log_time}
use Rattle.metric_lane.specs.LaneStands.{LaneHas, OpenedStandsFor, GetsFrame, LogsNews, GetsReport}
use Rattle.metric_lane.specs.declared.lane.Lane.{Lane}
use Rattle.metric_lane.proofs.LaneStepsLemmas.{opened_crosses, opened_reports}
use Rattle.metric_meaning.specs.Histories.{What, Logged, Reported, Step, moment_of}
use Rattle.metric_calls.specs.LaneSteps.{lane_step, lane_steps}
use Rattle.metric_meaning.specs.Ways.{shown_by_steps}
use Rattle.metric_calls.specs.Askings.{Asking, own_demands, steps_seen, calls_crossed, asked_at, shown_by_calls, AsksWell, Agrees}
use Rattle.metric_calls.proofs.StepLemmas.{lane_step_after}
use Rattle.metric_calls.proofs.AskingsLemmas.{asks_well, calls_mean_steps}
use Rattle.client_engine.specs.Along.{Along}
use Rattle.client_engine.specs.NextSteps.{reported_step, with_logged, with_reported, bare_step, ComeInTime}
use Rattle.known_conditions.specs.Known.{logged_step}
use Rattle.client_engine.specs.declared.request.ReportRequest.{ReportRequest}

-- a step that comes in time is timely for a lane, before others that are
timely_step : {News : Type 0} (news : Step → News) (last at : ℕ) (what : What) (truths : List Bool)
    (others : List (LaneStep News)) → let step : Step = record { at = at; what = what; truths = truths } in
    IsTimelyStep last (bare_step step) → AreTimely (last_at last (bare_step step)) others
    → AreTimely last (lane_step news step ∷ others)
timely_step news last at (Logged frame) truths others in_time rest = (in_time, rest)
timely_step news last at (Reported include_current) truths others in_time rest = (in_time, rest)

-- steps that come in time are timely for a lane, where others came before
timely_after : {News : Type 0} (news : List Step → Step → News) (last : ℕ) (before steps : List Step)
    → ComeInTime last steps → AreTimely last (outputs_after (lane_step_after news) before steps)
timely_after news last before [] in_time = tt
timely_after news last before (step ∷ steps) in_time =
    timely_step (news before) last step.at step.what step.truths
    (outputs_after (lane_step_after news) (before ++ step ∷ []) steps) in_time.0
    (timely_after news (last_at last (bare_step step)) (before ++ step ∷ []) steps in_time.1)

-- steps that come in time are timely for a lane
pub timely_from : {News : Type 0} (news : List Step → Step → News) (last : ℕ) (steps : List Step)
    → ComeInTime last steps
    → AreTimely last (lane_steps news steps)
timely_from news last steps in_time = timely_after news last [] steps in_time

-- one more step, as a lane sees it
pub steps-push : {News : Type 0} (news : List Step → Step → News) (steps : List Step) (step : Step)
    → lane_steps news (steps ++ step ∷ []) ≡ lane_steps news steps ++ lane_step (news steps) step ∷ []
steps-push news steps step = outputs-push (lane_step_after news) steps step

module _ {P Params News Event After X K C V : Type 0} (asking : Asking Params News Event After X K C (Row V))
    (law : Law P Params Event After X K C (Row V)) where
  -- a lane whose producer got the opening calls has seen no step
  pub along_begins : (lane : Lane P Event After V) → (own_demands asking law.collecting).base < time_limit
      → LaneHas law lane asking.params [] asking.opens → Along asking law [] lane
  along_begins lane fits has = record {
    fits = fits;
    collects = subst (LaneHas law lane asking.params []) (sym (append-nil asking.opens)) has;
  }

  module _ (well : AsksWell asking law.collecting) (steps : List Step) where
    -- one more frame of the log, which brings this news
    pub along_logs : (frame : LogFrame) (truths : List Bool) (old new : Lane P Event After V) (moment : Moment)
        (news : News)
        → moment ≡ moment_of frame (log_time frame) → news ≡ asking.news steps (logged_step frame truths)
        → LogsNews law asking.asks old new moment news → Along asking law steps old
        → ComeInTime (own_demands asking law.collecting).base (with_logged steps frame truths)
        → Along asking law (with_logged steps frame truths) new
    along_logs frame truths old new moment news moment_is news_is logs along in_time =
        let step = logged_step frame truths in
        let base = (own_demands asking law.collecting).base in
        let seen = steps_seen asking steps in
        let all = seen ++ lane_step (asking.news steps) step ∷ [] in
        let pushed : steps_seen asking (steps ++ step ∷ []) ≡ all = steps-push asking.news steps step in
        let logs_it : LogsNews law asking.asks old new (moment_of frame (log_time frame))
        (asking.news steps step) =
        subst (LogsNews law asking.asks old new (moment_of frame (log_time frame))) news_is
        (subst (λ m. LogsNews law asking.asks old new m news) moment_is logs) in
        record {
          fits = along.fits;
          collects = subst (OpenedStandsFor law asking.asks asking.opens new asking.params) (sym pushed)
              (logs_it asking.params asking.opens seen well.opens along.collects along.fits
              (subst (AreTimely base) pushed (timely_from asking.news base (steps ++ step ∷ []) in_time))
              (subst (AskWell (own_demands asking law.collecting) asking.asks asking.opens []) pushed
              (asks_well asking law.collecting well (steps ++ step ∷ []))));
        }

    -- what one more frame of the log crosses, and that what the metric asks at it may come then
    pub along_crosses : (frame : LogFrame) (truths : List Bool) (old middle : Lane P Event After V)
        → GetsFrame law old middle (moment_of frame (log_time frame)) → Along asking law steps old
        → ComeInTime (own_demands asking law.collecting).base (with_logged steps frame truths)
        → LaneHas law middle asking.params
        (told_by (steps_seen asking steps) ++ Saw (moment_of frame (log_time frame)) ∷ [])
        (calls_crossed asking law.collecting steps frame (log_time frame))
        × AreAdmitted (own_demands asking law.collecting)
        (calls_crossed asking law.collecting steps frame (log_time frame))
        (asked_at asking steps frame (log_time frame) truths)
    along_crosses frame truths old middle crosses along in_time =
        let step = logged_step frame truths in
        let base = (own_demands asking law.collecting).base in
        let seen = steps_seen asking steps in
        let all = seen ++ lane_step (asking.news steps) step ∷ [] in
        let pushed : steps_seen asking (steps ++ step ∷ []) ≡ all = steps-push asking.news steps step in
        opened_crosses law asking.asks asking.params seen along.fits asking.opens well.opens old middle
        (moment_of frame (log_time frame)) (asking.news steps step) crosses along.collects
        (subst (AreTimely base) pushed (timely_from asking.news base (steps ++ step ∷ []) in_time))
        (subst (AskWell (own_demands asking law.collecting) asking.asks asking.opens []) pushed
        (asks_well asking law.collecting well (steps ++ step ∷ [])))

    -- one more report: what the lane hands out is what is shown of the metric by its steps, where that is what its
    -- calls mean
    pub along_reports_by : (request : ReportRequest) (old new : Lane P Event After V) (closed : Taken (Row V))
        → shown_by_calls asking law.collecting steps request.include_current request.at
        ≡ shown_by_steps asking.way steps request.include_current request.at
        → GetsReport law old new request.at request.include_current closed → Along asking law steps old
        → ComeInTime (own_demands asking law.collecting).base (with_reported steps request)
        → Along asking law (with_reported steps request) new
        × (closed ≡ shown_by_steps asking.way steps request.include_current request.at)
    along_reports_by request old new closed means reports along in_time =
        let step = reported_step request in
        let base = (own_demands asking law.collecting).base in
        let seen = steps_seen asking steps in
        let all = seen ++ lane_step (asking.news steps) step ∷ [] in
        let pushed : steps_seen asking (steps ++ step ∷ []) ≡ all = steps-push asking.news steps step in
        let both = opened_reports law asking.asks asking.params seen along.fits asking.opens well.opens old
        new request.at request.include_current closed reports along.collects
        (subst (AreTimely base) pushed (timely_from asking.news base (steps ++ step ∷ []) in_time))
        (subst (AskWell (own_demands asking law.collecting) asking.asks asking.opens []) pushed
        (asks_well asking law.collecting well (steps ++ step ∷ []))) in (
          record {
            fits = along.fits;
            collects = subst (OpenedStandsFor law asking.asks asking.opens new asking.params) (sym pushed) both.0;
          },
          both.1 ∙ means,
        )

    -- so it is where calls and steps agree
    pub along_reports : Agrees asking law.collecting → (request : ReportRequest) (old new : Lane P Event After V)
        (closed : Taken (Row V))
        → GetsReport law old new request.at request.include_current closed → Along asking law steps old
        → ComeInTime (own_demands asking law.collecting).base (with_reported steps request)
        → Along asking law (with_reported steps request) new
        × (closed ≡ shown_by_steps asking.way steps request.include_current request.at)
    along_reports agrees request old new closed =
        along_reports_by request old new closed
        (calls_mean_steps asking law.collecting agrees steps request.include_current request.at)
