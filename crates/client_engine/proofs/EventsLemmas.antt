-- The lane of a metric of events, one step more.
use Rattle.std.proofs.Common.{◌≡◌, ℕ, ◌<◌, Bool, List, [], Option, refl, sym, ap, subst, ◌∙◌}
use Rattle.atom_record.specs.declared.atom.Atom.{Atom}
use Rattle.atom_record.specs.declared.log.LogFrame.{LogFrame}
use Rattle.bucket_meaning.specs.Limits.{time_limit}
use Rattle.config_links.specs.declared.linked.LMetric.{LMetric}
use Rattle.config_links.specs.declared.linked.LKind.TheVariants as kinds
use Rattle.metric_producer.specs.declared.row.Row.{Row}
use Rattle.bucket_meaning.specs.Kept.{Taken}
use Rattle.gauge_metric.specs.EventStands.{event_law}
use Rattle.report_writer.specs.declared.tree.MetricTree.{MetricTree}
use Rattle.session_frames.specs.FrameReading.{log_time}
use Rattle.metric_lane.specs.LaneStands.{LaneHas, LogsEvent, GetsReport}
use Rattle.metric_meaning.specs.Histories.{Installation, moment_of}
use Rattle.metric_meaning.specs.Scenes.{Scene}
use Rattle.metric_meaning.specs.Arrivals.{is_active_in, arriving_by}
use Rattle.metric_meaning.specs.Reports.{metric_tree}
use Rattle.metric_calls.specs.EventCalls.{event_asking}
use Rattle.metric_calls.proofs.EventCallsLemmas.{events_agree, events_ask_well}
use Rattle.client_engine.specs.Handed.{Handed, IsOfScene}
use Rattle.client_engine.specs.NextSteps.{TakesWhile, TakesReport}
use Rattle.known_conditions.specs.Known.{logged_step}
use Rattle.client_engine.specs.EventsAlong.{EventLane, EventsAlong, events_shown_by}
use Rattle.client_engine.proofs.AlongLemmas.{along_begins, along_reports}
use Rattle.client_engine.proofs.ArrivingLemmas.{IsOfArrivals, arrivals_log}
use Rattle.client_engine.specs.declared.request.ReportRequest.{ReportRequest}

-- a new lane of events has seen no step of what was installed at this clock
pub events_begin : (installed : Installation) (base : ℕ) (metric : LMetric) (lane : EventLane)
    → installed.base ≡ base → base < time_limit → metric.kind ≡ kinds.Event → LaneHas event_law lane base [] []
    → EventsAlong metric installed [] lane
events_begin installed base metric lane base_is fits events has = record {
  events = events;
  along = along_begins (event_asking installed metric) event_law lane
      (subst (λ b. b < time_limit) (sym base_is) fits)
      (subst (λ b. LaneHas event_law lane b [] []) (sym base_is) has);
}

-- what a metric of events asks hangs on the atom that arrives: it is that atom
pub events_arrive : (installed : Installation) (metric : LMetric)
    → IsOfArrivals (event_asking installed metric) event_law installed metric (λ scene found. found)
events_arrive installed metric = record {
  well = events_ask_well installed metric;
  base = refl;
  news = λ before step. refl;
}

-- a lane of events takes one more frame of the log, which is shown so
pub events_log : (given : Handed) (metric : LMetric) (shown : LogFrame) (truths : List Bool) (old new : EventLane)
    (atom : Option Atom) (active : Bool)
    → ((scene : Scene) → IsOfScene given scene → active ≡ is_active_in scene metric (log_time shown)
    → atom ≡ arriving_by scene metric (logged_step shown truths))
    → LogsEvent event_law old new (moment_of shown (log_time shown)) atom
    → TakesWhile (EventsAlong metric) active metric given shown truths old new
events_log given metric shown truths old new atom active is logs installed steps frame active_is has may = record {
  events = has.events;
  along = arrivals_log (event_asking installed metric) event_law installed metric (λ scene found. found)
      (events_arrive installed metric) given shown frame truths old new atom steps active active_is
      is logs has.along may;
}

-- what a lane of events hands out is what a report shows of the metric
pub events_report : (metric : LMetric) (base : ℕ) (request : ReportRequest) (old new : EventLane)
    (closed : Taken (Row (List Atom)))
    → GetsReport event_law old new request.at request.include_current closed
    → (tree : MetricTree) → tree ≡ events_shown_by base metric closed
    → TakesReport (EventsAlong metric) metric base request old new tree
events_report metric base request old new closed reports tree is installed steps has may =
    let both = along_reports (event_asking installed metric) event_law (events_ask_well installed metric)
    steps (events_agree installed metric) request old new closed reports has.along
    may.in_time in (
      record { events = has.events; along = both.0 },
      is ∙ ap (λ b. events_shown_by b metric closed) (sym may.base_is)
          ∙ ap (events_shown_by installed.base metric) both.1
          ∙ ap (λ kind. metric_tree installed steps request.include_current request.at (record metric { kind = kind }))
          (sym has.events),
    )
