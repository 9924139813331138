-- What a metric of counts shows is what its calls mean: lemmas on `specs/CountSteps.antt`, for the proofs of instances.
use Rattle.std.proofs.Common.{◌≡◌, ℕ, Bool, List, Option, Some, None, refl}
use Rattle.atom_record.specs.declared.value.MetricKey.{MetricKey}
use Rattle.metric_producer.specs.Rules.{AreTold}
use Rattle.metric_producer.specs.LaneCalls.{coming, AreAskedAt}
use Rattle.config_links.specs.declared.linked.LMetric.{LMetric}
use Rattle.count_metric.specs.Counting.{CountCall, count_demands, count_collecting}
use Rattle.metric_meaning.specs.Histories.{Step, Installation}
use Rattle.metric_calls.specs.Askings.{frame_step, marks_after, calls_crossed, shown_by_calls, AsksWell, Agrees}
use Rattle.metric_meaning.specs.CountSteps.{arrival_at, arrival_mark, counts_shown}
use Rattle.metric_calls.specs.CountCalls.{count_params, count_asking}
use Rattle.metric_calls.proofs.AskingsLemmas.{calls_mean_steps}

module _ (installed : Installation) (metric : LMetric) (overflow : Bool) where
  -- the mark of an event that comes is that of its arrival
  coming_marks : (before : List CountCall) (at : ℕ) (key : Option MetricKey)
      → marks_after (count_asking installed metric overflow) count_collecting before (coming at key)
      ≡ arrival_mark key
  coming_marks before at None = refl
  coming_marks before at (Some key) = refl

  -- calls and steps agree for counts
  pub counts_agree : Agrees (count_asking installed metric overflow) count_collecting
  counts_agree = record {
    made = record { base = refl; size = refl; bound = refl; kind = refl };
    opens = refl;
    at_frame = λ before frame at truths.
        coming_marks (calls_crossed (count_asking installed metric overflow) count_collecting before frame at) at
        (arrival_at installed metric before (frame_step frame at truths));
    at_boundary = λ before. record { closing = λ at. refl; closing_again = λ at. refl; opening = λ at. refl };
  }

  -- an event that comes may be asked
  coming_well : (before : List CountCall) (at : ℕ) (key : Option MetricKey)
      → let calls : List CountCall = coming at key in
      let demands = count_demands (count_params installed.base metric overflow) in
      AreAskedAt demands at calls × AreTold demands before calls
  coming_well before at None = (tt, tt)
  coming_well before at (Some key) = ((refl, refl, tt, tt), (tt, tt))

  -- what a metric of counts asks may come
  pub counts_ask_well : AsksWell (count_asking installed metric overflow) count_collecting
  counts_ask_well = record {
    opens = (tt, tt);
    at_frame = λ before frame at truths.
        coming_well (calls_crossed (count_asking installed metric overflow) count_collecting before frame at) at
        (arrival_at installed metric before (frame_step frame at truths));
  }

  -- what the calls of these steps and a report's cut mean is what a report shows
  pub count_calls-mean : (steps : List Step) (include_current : Bool) (now : ℕ)
      → shown_by_calls (count_asking installed metric overflow) count_collecting steps include_current now
      ≡ counts_shown installed metric overflow steps include_current now
  count_calls-mean = calls_mean_steps (count_asking installed metric overflow) count_collecting counts_agree
