-- What a metric of events shows is what its calls mean: lemmas on `specs/EventCalls.antt`, for the proofs of instances.
use Rattle.std.proofs.Common.{◌≡◌, ℕ, Bool, List, Option, Some, None, refl}
use Rattle.atom_record.specs.declared.atom.Atom.{Atom}
use Rattle.metric_producer.specs.Rules.{AreTold}
use Rattle.metric_producer.specs.LaneCalls.{coming, AreAskedAt}
use Rattle.config_links.specs.declared.linked.LMetric.{LMetric}
use Rattle.gauge_metric.specs.Eventing.{EventCall, events_demand, event_collecting}
use Rattle.metric_meaning.specs.Histories.{Step, Installation}
use Rattle.metric_meaning.specs.Arrivals.{arriving}
use Rattle.metric_meaning.specs.EventSteps.{event_marks, events_shown}
use Rattle.metric_calls.specs.Askings.{frame_step, marks_after, calls_crossed, shown_by_calls, AsksWell, Agrees}
use Rattle.metric_calls.specs.EventCalls.{event_asking}
use Rattle.metric_calls.proofs.AskingsLemmas.{calls_mean_steps}

module _ (installed : Installation) (metric : LMetric) where
  -- the marks of an atom that comes are those of the part that it is
  atom_marks : (before : List EventCall) (at : ℕ) (atom : Option Atom)
      → marks_after (event_asking installed metric) event_collecting before (coming at atom)
      ≡ event_marks at atom
  atom_marks before at None = refl
  atom_marks before at (Some atom) = refl

  -- calls and steps agree for events
  pub events_agree : Agrees (event_asking installed metric) event_collecting
  events_agree = record {
    made = record { base = refl; size = refl; bound = refl; kind = refl };
    opens = refl;
    at_frame = λ before frame at truths.
        atom_marks (calls_crossed (event_asking installed metric) event_collecting before frame at) at
        (arriving installed metric before (frame_step frame at truths));
    at_boundary = λ before. record { closing = λ at. refl; closing_again = λ at. refl; opening = λ at. refl };
  }

  -- an atom that comes may be asked
  atom_well : (before : List EventCall) (at : ℕ) (atom : Option Atom)
      → let calls : List EventCall = coming at atom in
      AreAskedAt (events_demand installed.base) at calls × AreTold (events_demand installed.base) before calls
  atom_well before at None = (tt, tt)
  atom_well before at (Some atom) = ((refl, refl, tt, tt), (tt, tt))

  -- what a metric of events asks may come
  pub events_ask_well : AsksWell (event_asking installed metric) event_collecting
  events_ask_well = record {
    opens = (tt, tt);
    at_frame = λ before frame at truths.
        atom_well (calls_crossed (event_asking installed metric) event_collecting before frame at) at
        (arriving installed metric before (frame_step frame at truths));
  }

  -- what the calls of these steps mean is what a report shows
  pub event_calls-mean : (steps : List Step) (include_current : Bool) (now : ℕ)
      → shown_by_calls (event_asking installed metric) event_collecting steps include_current now
      ≡ events_shown installed metric steps include_current now
  event_calls-mean = calls_mean_steps (event_asking installed metric) event_collecting events_agree
