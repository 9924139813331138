-- What a contract sees of an installed configuration.
use Rattle.std.specs.Prelude.{ℕ, List, map}
use Rattle.config_links.specs.declared.linked.Linked.{Linked}
use Rattle.config_links.specs.declared.linked.LAlert.{LAlert}
use Rattle.config_links.specs.declared.linked.LMatcher.{LMatcher}
use Rattle.config_links.specs.declared.linked.LState.{LState}
use Rattle.known_conditions.specs.Known.{Known}
use Rattle.client_engine.specs.Tracks.{metric_in}
use Rattle.client_engine.specs.declared.track.Track.{Track}

-- Its matchers, its predicates with what they know, its states, its metrics with their lanes, its alerts, and the clock
-- at its installation and at its last report.
pub record Running : Type 0 where
  pub matchers : List LMatcher
  pub known : Known
  pub states : List LState
  pub tracks : List Track
  pub alerts : List LAlert
  pub base : ℕ
  pub last : ℕ

-- the configuration as it was installed
abbrev pub linked_of : Running → Linked
linked_of it = record {
  matchers = it.matchers;
  predicates = it.known.predicates;
  states = it.states;
  metrics = map metric_in it.tracks;
  alerts = it.alerts;
}
