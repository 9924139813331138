-- Whether a metric is active: what steps say of its activations.
use Rattle.std.specs.Prelude.{ℕ, Bool, false, List}
use Rattle.atom_record.specs.declared.log.LogFrame.TheVariants.{AtomAt}
use Rattle.config_links.specs.declared.linked.LActivation.{LActivation}
use Rattle.config_links.specs.declared.linked.LMetric.{LMetric}
use Rattle.metric_activation.specs.Activations.{Signal, is_active}
use Rattle.metric_meaning.specs.Histories.{What, Logged, Step, truth_at}
use Rattle.metric_meaning.specs.PredicateSteps.{named_truth}

-- what a step says of an activation: only an atom says anything
abbrev pub signal_of : LActivation → Step → Signal
signal_of activation step = of_what step.what where
  of_what : What → Signal
  of_what (Logged (AtomAt at atom)) = record {
    at = step.at;
    starts = truth_at activation.start step.truths;
    cancels = named_truth activation.cancel step.truths;
  }
  of_what _ = record { at = step.at; starts = false; cancels = false }

-- a metric is active at a time, after these steps
abbrev pub is_active_after : LMetric → List Step → ℕ → Bool
is_active_after metric steps now =
    is_active (λ (activation : LActivation). activation.ttl) signal_of metric.activations steps now
