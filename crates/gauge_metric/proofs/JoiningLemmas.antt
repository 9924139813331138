-- Two crossings with nothing between them, for producers of samples and of events.
use Rattle.std.proofs.Common.{◌≡◌, List, [], ◌∷◌, ◌++◌, refl, ap, subst, ◌∙◌}
use Rattle.bucket_clock.specs.declared.crossings.Crossings.{Crossings}
use Rattle.metric_producer.specs.Calls.{Crossed}
use Rattle.metric_producer.specs.Joining.{Joins}
use Rattle.metric_producer.proofs.JoiningLemmas.{BeginsAnew, books_joined, booked_joins, none_anew, same_joined}
use Rattle.gauge_metric.specs.Sampling.{gauge_collecting}
use Rattle.gauge_metric.specs.GaugeStands.{HasGauge, gauge_law}
use Rattle.gauge_metric.specs.Eventing.{event_collecting}
use Rattle.gauge_metric.specs.EventStands.{HasEvents, event_law}
use Rattle.gauge_metric.specs.PulledSampling.{PulledGaugeParams, PulledGaugeCall, last_snapshot, last_condition, is_start_moment, marks_if, pulled_collecting}
use Rattle.gauge_metric.specs.PulledStands.{HoldsSampled, pulled_law}
use Rattle.gauge_metric.proofs.PulledCallsLemmas.{truth_push, snapshot_push}

-- a pushed gauge has no more than its books
pub pushed_join : Joins gauge_law
pushed_join = booked_joins gauge_collecting HasGauge (λ params calls crossings. none_anew)

-- nor has a producer of events
pub events_join : Joins event_law
events_join = booked_joins event_collecting HasEvents (λ base calls crossings. none_anew)

-- a crossing tells no snapshot and no condition
crossed_snapshot : (calls : List PulledGaugeCall) (crossings : Crossings)
    → last_snapshot (calls ++ Crossed crossings ∷ []) ≡ last_snapshot calls
crossed_snapshot calls crossings = snapshot_push calls (Crossed crossings)

crossed_condition : (calls : List PulledGaugeCall) (crossings : Crossings)
    → last_condition (calls ++ Crossed crossings ∷ []) ≡ last_condition calls
crossed_condition calls crossings = truth_push calls (Crossed crossings)

-- so that each part after it begins with the same samples
pulled_anew : (params : PulledGaugeParams) → BeginsAnew pulled_collecting params
pulled_anew params calls crossings =
    let now = calls ++ Crossed crossings ∷ [] in
    record {
      closing = λ at. refl;
      closing_again = λ at. refl;
      opening = λ at.
          ap (λ told. marks_if (is_start_moment params.spec.mode told) (last_snapshot now))
          (crossed_condition calls crossings)
          ∙ ap (marks_if (is_start_moment params.spec.mode (last_condition calls))) (crossed_snapshot calls crossings);
    }

-- a pulled gauge has its books, and what was told last
pub pulled_join : Joins pulled_law
pulled_join it params calls one other whole made stands = record {
  books = subst (HoldsSampled it params)
      (books_joined pulled_collecting params calls one other whole made (pulled_anew params)) stands.books;
  snapshot = stands.snapshot ∙ same_joined last_snapshot crossed_snapshot calls one other whole;
  told = stands.told ∙ same_joined last_condition crossed_condition calls one other whole;
}
