-- What the bytes of a configuration say, or why they are refused.
use Rattle.std.specs.Prelude.{ℕ, nat_lt, List, map, length, Option, Some, None, Result, Ok, Err, if◌then◌else◌}
use Rattle.proto_wire.specs.declared.fault.WireFault.{WireFault}
use Rattle.proto_wire.specs.Fields.{FieldOf}
use Rattle.config_types.specs.declared.config.Config.{Config}
use Rattle.config_decode.specs.ConfigFault.{ConfigFault, TooLarge, Wire, Unsupported}
use Rattle.config_decode.specs.FieldNumbers.{config_event_metric, config_count_metric, config_value_metric, config_gauge_metric, config_duration_metric, config_atom_matcher, config_predicate, config_no_report_metric, config_state, config_alert}
use Rattle.config_decode.specs.Walk.{Walked, walk_of, first_refused}
use Rattle.config_decode.specs.Values.{records_of, int64_fields, messages}
use Rattle.config_decode.specs.Tree.{matcher_of, predicate_of, state_of}
use Rattle.config_decode.specs.Metrics.{event_of, count_of, value_of, gauge_of, duration_of}
use Rattle.config_decode.specs.Alerts.{alert_of}

-- the most bytes of a configuration
abbrev pub most_config_bytes : ℕ
most_config_bytes = 262144

-- the tree of a configuration with these records
abbrev pub tree_of : List FieldOf → Config
tree_of fields = record {
  matchers = map matcher_of (messages config_atom_matcher fields);
  predicates = map predicate_of (messages config_predicate fields);
  states = map state_of (messages config_state fields);
  events = map event_of (messages config_event_metric fields);
  counts = map count_of (messages config_count_metric fields);
  values = map value_of (messages config_value_metric fields);
  gauges = map gauge_of (messages config_gauge_metric fields);
  durations = map duration_of (messages config_duration_metric fields);
  no_report = int64_fields config_no_report_metric fields;
  alerts = map alert_of (messages config_alert fields);
}

-- the tree, unless a record isn't supported
abbrev pub tree_unless_refused : Option (List ℕ) → List ℕ → Result Config ConfigFault
tree_unless_refused (Some path) bytes = Err (Unsupported path)
tree_unless_refused None bytes = Ok (tree_of (records_of bytes))

-- a fault of the wire format comes before a record that isn't supported, wherever they stand
abbrev pub tree_unless_fault : Walked → List ℕ → Result Config ConfigFault
tree_unless_fault walked bytes = by_fault walked.fault
  where
    by_fault : Option WireFault → Result Config ConfigFault
    by_fault (Some fault) = Err (Wire fault)
    by_fault None = tree_unless_refused (first_refused walked.records) bytes

-- the tree, or the one fault
unfoldable pub config_of : List ℕ → Result Config ConfigFault
config_of bytes =
    if nat_lt most_config_bytes (length bytes) then Err (TooLarge (length bytes))
    else tree_unless_fault (walk_of bytes) bytes
