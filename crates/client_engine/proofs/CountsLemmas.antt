-- The lane of a metric that counts, one step more.
use Rattle.std.proofs.Common.{◌≡◌, ℕ, ◌<◌, Bool, List, [], ◌∷◌, ◌++◌, length, Option, refl, sym, ap, subst, ◌∙◌}
use Rattle.std.specs.Option.{option_map}
use Rattle.alert_watch.specs.Watches.{WatchContents}
use Rattle.alert_watch.specs.Windows.{Notice}
use Rattle.atom_record.specs.declared.log.LogFrame.{LogFrame}
use Rattle.atom_record.specs.declared.value.MetricKey.{MetricKey}
use Rattle.bucket_meaning.specs.Ends.{Moment, ends_at}
use Rattle.bucket_meaning.specs.Limits.{time_limit}
use Rattle.config_links.specs.declared.linked.Linked.{Linked}
use Rattle.config_links.specs.declared.linked.LMetric.{LMetric}
use Rattle.config_links.specs.declared.linked.LKind.TheVariants as kinds
use Rattle.config_links.specs.SoundConfig.{IsSize, IsSoundKind, IsSoundMetric}
use Rattle.metric_producer.specs.declared.row.Row.{Row}
use Rattle.metric_producer.specs.declared.row.CountCell.{CountCell}
use Rattle.bucket_meaning.specs.Kept.{Taken}
use Rattle.count_metric.specs.CountStands.{count_law}
use Rattle.report_writer.specs.declared.tree.MetricTree.{MetricTree}
use Rattle.session_frames.specs.FrameReading.{log_time}
use Rattle.metric_lane.specs.LaneStands.{LaneHas, LogsEvent, GetsReport}
use Rattle.metric_producer.specs.LaneCalls.{told_by}
use Rattle.metric_meaning.specs.AlertSteps.{notices_by, ended_notices, arrived_notices, frame_notices, report_notices}
use Rattle.metric_meaning.specs.Histories.{Step, Installation, moment_of, log_after}
use Rattle.metric_meaning.specs.Scenes.{Scene}
use Rattle.metric_meaning.specs.Arrivals.{is_active_in, atom_key}
use Rattle.metric_meaning.specs.CountSteps.{arrival_by, arrival_at}
use Rattle.metric_meaning.specs.StepMarks.{moments}
use Rattle.metric_lane.proofs.LaneJoiningLemmas.{joined_ends}
use Rattle.metric_meaning.proofs.AlertStepsLemmas.{BringNone, logged_notices, reported_notices, run_notices}
use Rattle.metric_calls.specs.Askings.{steps_seen}
use Rattle.metric_calls.specs.CountCalls.{count_params, count_asking}
use Rattle.metric_meaning.specs.Reports.{metric_tree}
use Rattle.metric_calls.proofs.CountCallsLemmas.{counts_agree, counts_ask_well}
use Rattle.metric_calls.proofs.StepLemmas.{told_by-steps}
use Rattle.client_engine.specs.Along.{Along}
use Rattle.client_engine.specs.Handed.{Handed, IsOfScene}
use Rattle.client_engine.specs.CaughtUp.{MayCatchUp}
use Rattle.client_engine.specs.NextSteps.{reported_step, with_logged, MayLog, TakesWhile, TakesReport}
use Rattle.known_conditions.specs.Known.{logged_step}
use Rattle.client_engine.specs.CountsAlong.{CountLane, WatchedLane, CountsAlong, counts_shown_by}
use Rattle.client_engine.specs.Watches.{AllTakeNotices, TakeEnds, WatchesAlong}
use Rattle.client_engine.proofs.AlongLemmas.{along_begins, along_reports}
use Rattle.client_engine.proofs.ArrivingLemmas.{IsOfArrivals, news_come, arrivals_log}
use Rattle.client_engine.proofs.LastStepLemmas.{in_time-before, in_time-behind}
use Rattle.client_engine.proofs.RunLemmas.{along_may_cross}
use Rattle.client_engine.proofs.ShownLemmas.{shown_moment}
use Rattle.client_engine.proofs.WatchesLemmas.{both_taken, along_takes}
use Rattle.client_engine.specs.declared.request.ReportRequest.{ReportRequest}

-- a sound metric that counts has buckets
pub counts_sized : (linked : Linked) (metric : LMetric) (overflow : Bool) → IsSoundMetric linked metric
    → metric.kind ≡ kinds.Count overflow → IsSize metric.size
counts_sized linked metric overflow sound counts = (subst (IsSoundKind linked metric) counts sound.kind).1

-- a new lane of counts, and watches that were told nothing, have seen no step of what was installed at this clock
pub counts_begin : (installed : Installation) (base : ℕ) (metric : LMetric) (overflow : Bool) (lane : CountLane)
    (watches : List WatchContents)
    → installed.base ≡ base → base < time_limit → metric.kind ≡ kinds.Count overflow
    → LaneHas count_law lane (count_params base metric overflow) [] [] → WatchesAlong metric installed [] watches
    → CountsAlong metric installed [] (record { lane = lane; watches = watches })
counts_begin installed base metric overflow lane watches base_is fits counts has along = record {
  overflow = overflow;
  counts = counts;
  along = along_begins (count_asking installed metric overflow) count_law lane
      (subst (λ b. b < time_limit) (sym base_is) fits)
      (subst (λ b. LaneHas count_law lane (count_params b metric overflow) [] []) (sym base_is) has);
  watches = along;
}

-- what a metric of counts asks hangs on the atom that arrives: its key
pub counts_arrive : (installed : Installation) (metric : LMetric) (overflow : Bool)
    → IsOfArrivals (count_asking installed metric overflow) count_law installed metric
    (λ scene. option_map (atom_key scene metric))
counts_arrive installed metric overflow = record {
  well = counts_ask_well installed metric overflow;
  base = refl;
  news = λ before step. refl;
}

-- a frame of the log, which is shown so, at the moment at which it comes
frame_moment : (installed : Installation) (steps : List Step) (given : Handed) (shown frame : LogFrame)
    (truths : List Bool) → MayLog installed steps given shown frame truths
    → moment_of shown (log_time shown) ≡ moment_of frame (log_time frame)
frame_moment installed steps given shown frame truths may =
    ap (λ f. moment_of f (log_time f)) may.shown_is ∙ shown_moment (log_after installed steps) frame

-- what a frame tells the watches beside a lane of counts: the ends that it crosses, and then the key that arrives
watches_log : (installed : Installation) (metric : LMetric) (overflow : Bool) (steps : List Step) (given : Handed)
    (shown frame : LogFrame) (truths : List Bool) (lane : CountLane) (old middle new : List WatchContents)
    (key : Option MetricKey)
    → Along (count_asking installed metric overflow) count_law steps lane
    → MayLog installed steps given shown frame truths
    → TakeEnds lane.clock (moment_of shown (log_time shown)) old middle
    → AllTakeNotices (arrived_notices (log_time shown) key) middle new
    → key ≡ arrival_at installed metric steps (logged_step frame truths) → WatchesAlong metric installed steps old
    → WatchesAlong metric installed (with_logged steps frame truths) new
watches_log installed metric overflow steps given shown frame truths lane old middle new key along may ends arrives
    comes watches =
    let asking = count_asking installed metric overflow in
    let moment = moment_of frame (log_time frame) in
    let is = frame_moment installed steps given shown frame truths may in
    let step = in_time-behind installed.base steps (logged_step frame truths ∷ []) may.in_time in
    let ended : AllTakeNotices
    (ended_notices (length (ends_at installed.base metric.size (moments steps) moment))) old middle =
    subst (λ came. AllTakeNotices (ended_notices (length (ends_at installed.base metric.size came moment))) old middle)
    (told_by-steps asking.news steps)
    (subst (λ (m : Moment). TakeEnds lane.clock m old middle) is ends installed.base metric.size
    (told_by (steps_seen asking steps)) along.collects.clock
    (along_may_cross asking count_law (counts_ask_well installed metric overflow) steps lane (log_time frame) along
    (in_time-before installed.base steps (logged_step frame truths ∷ []) may.in_time) step.0.0 step.0.1)) in
    let arrived : AllTakeNotices
    (arrived_notices (log_time frame) (arrival_at installed metric steps (logged_step frame truths))) middle new =
    subst (λ k. AllTakeNotices (arrived_notices (log_time frame) k) middle new) comes
    (subst (λ (m : Moment). AllTakeNotices (arrived_notices m.at key) middle new) is arrives) in
    along_takes metric installed steps (logged_step frame truths ∷ [])
    (frame_notices (length (ends_at installed.base metric.size (moments steps) moment)) (log_time frame)
    (arrival_at installed metric steps (logged_step frame truths))) old new
    (logged_notices installed metric steps (log_time frame) frame truths)
    (both_taken (ended_notices (length (ends_at installed.base metric.size (moments steps) moment)))
    (arrived_notices (log_time frame) (arrival_at installed metric steps (logged_step frame truths))) old middle new
    ended arrived) watches

-- a lane of counts and its watches take one more frame of the log, which is shown so
pub counts_log : (given : Handed) (metric : LMetric) (shown : LogFrame) (truths : List Bool) (old new : WatchedLane)
    (middle : List WatchContents) (key : Option MetricKey) (active : Bool)
    → ((scene : Scene) → IsOfScene given scene → active ≡ is_active_in scene metric (log_time shown)
    → key ≡ arrival_by scene metric (logged_step shown truths))
    → LogsEvent count_law old.lane new.lane (moment_of shown (log_time shown)) key
    → TakeEnds old.lane.clock (moment_of shown (log_time shown)) old.watches middle
    → AllTakeNotices (arrived_notices (log_time shown) key) middle new.watches
    → TakesWhile (CountsAlong metric) active metric given shown truths old new
counts_log given metric shown truths old new middle key active is logs ends arrives installed steps frame active_is has
    may =
    let asking = count_asking installed metric has.overflow in
    let arrive = counts_arrive installed metric has.overflow in record {
      overflow = has.overflow;
      counts = has.counts;
      along = arrivals_log asking count_law installed metric (λ scene. option_map (atom_key scene metric)) arrive
          given shown frame truths old.lane new.lane key steps active active_is is logs has.along may;
      watches = watches_log installed metric has.overflow steps given shown frame truths old.lane old.watches middle
          new.watches key has.along may ends arrives
          (news_come asking count_law installed metric (λ scene. option_map (atom_key scene metric)) arrive
          given shown frame truths key steps active active_is is may) has.watches;
    }

-- a run of steps that bring nothing tells the watches the ends that the one frame crosses which stands for all
pub watches_run : (metric : LMetric) (installed : Installation) (overflow : Bool) (steps run : List Step)
    (moment : Moment) (lane : CountLane) (old new : List WatchContents)
    → Along (count_asking installed metric overflow) count_law steps lane → MayCatchUp installed steps run moment
    → TakeEnds lane.clock moment old new → BringNone installed metric steps run
    → WatchesAlong metric installed steps old → WatchesAlong metric installed (steps ++ run) new
watches_run metric installed overflow steps run moment lane old new along may ends none watches =
    let asking = count_asking installed metric overflow in
    let notices : List Moment → List Notice =
    λ came. ended_notices (length (ends_at installed.base metric.size came moment)) in
    along_takes metric installed steps run (notices (moments steps)) old new
    (run_notices installed metric steps run none
    ∙ ap (λ n. notices_by installed metric steps ++ ended_notices n)
    (sym (ap length (joined_ends installed.base metric.size (moments steps) (moments run) moment may.stands))))
    (subst (λ came. AllTakeNotices (notices came) old new) (told_by-steps asking.news steps)
    (ends installed.base metric.size (told_by (steps_seen asking steps)) along.collects.clock
    (along_may_cross asking count_law (counts_ask_well installed metric overflow) steps lane moment.at along
    (in_time-before installed.base steps run may.in_time) may.not_before may.fits)))
    watches

-- what a lane of counts hands out is what a report shows of the metric, and its watches are told of the report
pub counts_report : (metric : LMetric) (base : ℕ) (request : ReportRequest) (old new : WatchedLane)
    (closed : Taken (Row CountCell))
    → GetsReport count_law old.lane new.lane request.at request.include_current closed
    → AllTakeNotices (report_notices request.include_current) old.watches new.watches
    → (tree : MetricTree) → tree ≡ counts_shown_by base metric closed
    → TakesReport (CountsAlong metric) metric base request old new tree
counts_report metric base request old new closed reports takes tree is installed steps has may =
    let both = along_reports (count_asking installed metric has.overflow) count_law
    (counts_ask_well installed metric has.overflow)
    steps (counts_agree installed metric has.overflow) request old.lane new.lane closed reports has.along
    may.in_time in (
      record {
        overflow = has.overflow;
        counts = has.counts;
        along = both.0;
        watches = along_takes metric installed steps (reported_step request ∷ [])
            (report_notices request.include_current) old.watches new.watches
            (reported_notices installed metric steps request.at request.include_current [] has.watches.sized) takes
            has.watches;
      },
      is ∙ ap (λ b. counts_shown_by b metric closed) (sym may.base_is)
          ∙ ap (counts_shown_by installed.base metric) both.1
          ∙ ap (λ kind. metric_tree installed steps request.include_current request.at (record metric { kind = kind }))
          (sym has.counts),
    )
