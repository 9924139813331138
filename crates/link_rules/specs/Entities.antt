-- A configuration whose metrics stand in one list, in config order.
use Rattle.std.specs.Prelude.{List, [], ◌++◌, map, None}
use Rattle.config_types.specs.declared.config.Config.{Config}
use Rattle.config_types.specs.declared.metric.EventDef.{EventDef}
use Rattle.config_types.specs.declared.metric.CountDef.{CountDef}
use Rattle.config_types.specs.declared.metric.ValueDef.{ValueDef}
use Rattle.config_types.specs.declared.metric.GaugeDef.{GaugeDef}
use Rattle.config_types.specs.declared.metric.DurationDef.{DurationDef}
use Rattle.config_types.specs.declared.metric.Sliced.{Sliced}
use Rattle.link_rules.specs.declared.entities.Metric.{Metric}
use Rattle.link_rules.specs.declared.entities.Entities.{Entities}
use Rattle.link_rules.specs.declared.entities.Kind.TheVariants.{Event, Count, Value, Gauge, Duration}

-- an event metric has no buckets, and so nothing that buckets have
abbrev pub no_slicing : Sliced
no_slicing = record { dims = None; bucket = None; bound = None; slices = []; state_links = [] }

-- a metric that keeps atoms
abbrev pub metric_of_event : EventDef → Metric
metric_of_event def = record { common = def.common; sliced = no_slicing; kind = Event }

-- a metric that counts atoms
abbrev pub metric_of_count : CountDef → Metric
metric_of_count def = record { common = def.common; sliced = def.sliced; kind = Count def.overflow }

-- a metric of a field's values
abbrev pub metric_of_value : ValueDef → Metric
metric_of_value def = record {
  common = def.common;
  sliced = def.sliced;
  kind = Value (record {
    field = def.field;
    agg = def.agg;
    abs_reset = def.abs_reset;
    diff = def.diff;
    direction = def.direction;
    skip_zero = def.skip_zero;
    zero_base = def.zero_base;
  });
}

-- a metric that keeps samples
abbrev pub metric_of_gauge : GaugeDef → Metric
metric_of_gauge def = record {
  common = def.common;
  sliced = def.sliced;
  kind = Gauge (record {
    include_all = def.include_all;
    fields = def.fields;
    sampling = def.sampling;
    max_samples = def.max_samples;
    trigger = def.trigger;
  });
}

-- a metric of the time for which a predicate holds
abbrev pub metric_of_duration : DurationDef → Metric
metric_of_duration def = record { common = def.common; sliced = def.sliced; kind = Duration def.max_sparse }

-- all metrics, in config order
abbrev pub metrics_of : Config → List Metric
metrics_of config =
    (((map metric_of_event config.events ++ map metric_of_count config.counts) ++ map metric_of_value config.values)
    ++ map metric_of_gauge config.gauges) ++ map metric_of_duration config.durations

-- a configuration with one list of metrics
abbrev pub entities_of : Config → Entities
entities_of config = record {
  matchers = config.matchers;
  predicates = config.predicates;
  states = config.states;
  metrics = metrics_of config;
  no_report = config.no_report;
  alerts = config.alerts;
}
