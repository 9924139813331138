-- What a metric of pushed values shows is what its calls mean: lemmas on `specs/ValueCalls.antt`, for the proofs of
-- instances.
use Rattle.std.proofs.Common.{◌≡◌, ℕ, ℤ, List, Option, Some, None, refl}
use Rattle.std.specs.Option.{option_map}
use Rattle.atom_record.specs.declared.value.MetricKey.{MetricKey}
use Rattle.config_types.specs.declared.metric.Aggregation.{Aggregation}
use Rattle.metric_producer.specs.Rules.{AreTold}
use Rattle.metric_producer.specs.LaneCalls.{coming, AreAskedAt}
use Rattle.config_links.specs.declared.linked.LMetric.{LMetric}
use Rattle.value_metric.specs.PushedValues.{PushedCall, pushed_demands, pushed_collecting}
use Rattle.metric_meaning.specs.Histories.{Installation}
use Rattle.metric_meaning.specs.StepMarks.{arrival_marks}
use Rattle.metric_meaning.specs.ValueLeaves.{ValueLeaf}
use Rattle.metric_meaning.specs.PushedValueSteps.{value_arrival_at}
use Rattle.metric_calls.specs.Askings.{frame_step, marks_after, calls_crossed, AsksWell, Agrees}
use Rattle.metric_calls.specs.ValueCalls.{value_params, keyed_int, value_asking}

module _ (installed : Installation) (metric : LMetric) (source : ValueLeaf) (aggregation : Aggregation) where
  -- the mark of an integer that comes is that of its arrival
  coming_marks : (before : List PushedCall) (at : ℕ) (came : Option (MetricKey × ℤ))
      → marks_after (value_asking installed metric source aggregation) pushed_collecting before
      (coming at (option_map keyed_int came))
      ≡ arrival_marks came
  coming_marks before at None = refl
  coming_marks before at (Some came) = refl

  -- calls and steps agree for pushed values
  pub values_agree : Agrees (value_asking installed metric source aggregation) pushed_collecting
  values_agree = record {
    made = record { base = refl; size = refl; bound = refl; kind = refl };
    opens = refl;
    at_frame = λ before frame at truths.
        coming_marks
        (calls_crossed (value_asking installed metric source aggregation) pushed_collecting before frame at) at
        (value_arrival_at installed metric source before (frame_step frame at truths));
    at_boundary = λ before. record { closing = λ at. refl; closing_again = λ at. refl; opening = λ at. refl };
  }

  -- an integer that comes may be asked
  coming_well : (before : List PushedCall) (at : ℕ) (came : Option (MetricKey × ℤ))
      → let calls : List PushedCall = coming at (option_map keyed_int came) in
      let demands = pushed_demands (value_params installed.base metric aggregation) in
      AreAskedAt demands at calls × AreTold demands before calls
  coming_well before at None = (tt, tt)
  coming_well before at (Some came) = ((refl, refl, tt, tt), (tt, tt))

  -- what a metric of pushed values asks may come
  pub values_ask_well : AsksWell (value_asking installed metric source aggregation) pushed_collecting
  values_ask_well = record {
    opens = (tt, tt);
    at_frame = λ before frame at truths.
        coming_well
        (calls_crossed (value_asking installed metric source aggregation) pushed_collecting before frame at) at
        (value_arrival_at installed metric source before (frame_step frame at truths));
  }
