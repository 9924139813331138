-- The parts of an instance, and what a contract sees of the instance of them. For private clauses.
use Rattle.client_engine.specs.Running.{Running}
use Rattle.client_engine.specs.declared.instance.parts.Parts.{Parts}

-- the instance of these parts
abbrev pub running_of : Parts → Running
running_of parts = record {
  matchers = parts.matchers;
  known = parts.conditions;
  states = parts.states;
  tracks = parts.tracks.list.items;
  alerts = parts.alerts;
  base = parts.base;
  last = parts.last;
}
