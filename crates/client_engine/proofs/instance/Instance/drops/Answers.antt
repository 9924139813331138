-- What the book says of the states of the configuration.
use Rattle.std.proofs.Common.{◌∙◌, ap}
use Rattle.metric_meaning.specs.StateDrops.{drops_of_states, dropped_for}
use Rattle.client_engine.specs.Running.{Running}
use Rattle.client_engine.proofs.instance.Instance.drops.Goals as goal

pub returns-clause-of_states : goal.returns-clause-of_states
returns-clause-of_states c =
    let states_are = c.as_slice-states.ensures ∙ ap (λ (it : Running). it.states) c.self.view_is in
    record {
      keys = λ log stands. c.in_ok-state_drops.ensures log stands
          ∙ ap (λ states. drops_of_states states log) states_are;
      atoms = λ log stands. c.dropped_atoms.ensures log stands ∙ ap (λ states. dropped_for states log) states_are;
    }
