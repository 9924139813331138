-- Alerts, from the records of their messages.
use Rattle.std.specs.Prelude.{List}
use Rattle.proto_wire.specs.Fields.{FieldOf}
use Rattle.config_types.specs.declared.alert.AlertDef.{AlertDef}
use Rattle.config_decode.specs.FieldNumbers.{alert_id, alert_metric, alert_threshold, alert_parts, alert_refractory}
use Rattle.config_decode.specs.Values.{int64_field, int32_field}

-- an alert
abbrev pub alert_of : List FieldOf → AlertDef
alert_of fields = record {
  id = int64_field alert_id fields;
  metric = int64_field alert_metric fields;
  threshold = int64_field alert_threshold fields;
  parts = int32_field alert_parts fields;
  refractory = int64_field alert_refractory fields;
}
