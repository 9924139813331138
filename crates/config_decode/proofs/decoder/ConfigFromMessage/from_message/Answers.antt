-- Each list is what the field says.
use Rattle.config_decode.proofs.decoder.ConfigFromMessage.from_message.Goals as goal

pub returns : goal.returns
returns c = λ i. record {
  matchers = c.in_ok-matchers.ensures i;
  predicates = c.in_ok-predicates.ensures i;
  states = c.in_ok-states.ensures i;
  events = c.in_ok-events.ensures i;
  counts = c.in_ok-counts.ensures i;
  values = c.in_ok-values.ensures i;
  gauges = c.in_ok-gauges.ensures i;
  durations = c.in_ok-durations.ensures i;
  no_report = c.in_ok-no_report.ensures i;
  alerts = c.in_ok-alerts.ensures i;
}
