-- What a pushed gauge shows is what its calls mean: lemmas on `specs/PushedGaugeCalls.antt`, for proofs of instances.
use Rattle.std.proofs.Common.{◌≡◌, ℕ, Bool, List, Option, Some, None, refl}
use Rattle.std.specs.Option.{option_map}
use Rattle.atom_record.specs.declared.atom.Atom.{Atom}
use Rattle.atom_record.specs.declared.value.MetricKey.{MetricKey}
use Rattle.field_select.specs.declared.leaf.FieldSet.{FieldSet}
use Rattle.metric_producer.specs.Rules.{AreTold}
use Rattle.metric_producer.specs.LaneCalls.{coming, AreAskedAt}
use Rattle.config_links.specs.declared.linked.LMetric.{LMetric}
use Rattle.gauge_metric.specs.declared.gauge.KeyedAtom.{KeyedAtom}
use Rattle.gauge_metric.specs.Sampling.{GaugeCall, gauge_demands, gauge_collecting}
use Rattle.metric_meaning.specs.Histories.{Step, Installation}
use Rattle.metric_meaning.specs.PushedGaugeSteps.{sample_arrival_at, pushed_gauge_shown}
use Rattle.metric_meaning.specs.StepMarks.{arrival_marks}
use Rattle.metric_calls.specs.Askings.{frame_step, marks_after, calls_crossed, shown_by_calls, AsksWell, Agrees}
use Rattle.metric_calls.specs.PushedGaugeCalls.{gauge_params, handed_sample, sample_at, pushed_gauge_asking}
use Rattle.metric_calls.proofs.AskingsLemmas.{calls_mean_steps}

module _ (installed : Installation) (metric : LMetric) (fields : Option FieldSet) (samples : ℕ) where
  -- the marks of a sample that comes are those of its arrival
  sample_marks : (before : List GaugeCall) (at : ℕ) (arrival : Option (MetricKey × Atom))
      → marks_after (pushed_gauge_asking installed metric fields samples) gauge_collecting before
      (coming at (option_map handed_sample arrival))
      ≡ arrival_marks arrival
  sample_marks before at None = refl
  sample_marks before at (Some arrival) = refl

  -- calls and steps agree for pushed gauges
  pub pushed_gauges_agree : Agrees (pushed_gauge_asking installed metric fields samples) gauge_collecting
  pushed_gauges_agree = record {
    made = record { base = refl; size = refl; bound = refl; kind = refl };
    opens = refl;
    at_frame = λ before frame at truths.
        sample_marks
        (calls_crossed (pushed_gauge_asking installed metric fields samples) gauge_collecting before frame at) at
        (sample_arrival_at installed metric fields before (frame_step frame at truths));
    at_boundary = λ before. record { closing = λ at. refl; closing_again = λ at. refl; opening = λ at. refl };
  }

  -- a sample that comes may be asked
  sample_well : (before : List GaugeCall) (at : ℕ) (sample : Option KeyedAtom)
      → let calls : List GaugeCall = coming at sample in
      let demands = gauge_demands (gauge_params installed.base metric samples) in
      AreAskedAt demands at calls × AreTold demands before calls
  sample_well before at None = (tt, tt)
  sample_well before at (Some sample) = ((refl, refl, tt, tt), (tt, tt))

  -- what a pushed gauge asks may come
  pub pushed_gauges_ask_well : AsksWell (pushed_gauge_asking installed metric fields samples) gauge_collecting
  pushed_gauges_ask_well = record {
    opens = (tt, tt);
    at_frame = λ before frame at truths.
        sample_well
        (calls_crossed (pushed_gauge_asking installed metric fields samples) gauge_collecting before frame at) at
        (sample_at installed metric fields before (frame_step frame at truths));
  }

  -- what the calls of these steps and a report's cut mean is what a report shows
  pub pushed_gauge_calls-mean : (steps : List Step) (include_current : Bool) (now : ℕ)
      → shown_by_calls (pushed_gauge_asking installed metric fields samples) gauge_collecting steps include_current
      now
      ≡ pushed_gauge_shown installed metric fields samples steps include_current now
  pushed_gauge_calls-mean =
      calls_mean_steps (pushed_gauge_asking installed metric fields samples) gauge_collecting pushed_gauges_agree
