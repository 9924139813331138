-- The trees of field numbers in a metric, and the sets of leaves that they mean.
use Rattle.std.specs.Prelude.{Bool, ◌&&◌, map, Option, None}
use Rattle.std.specs.List.{list_all}
use Rattle.config_types.specs.declared.fields.FieldMatcher.{FieldMatcher}
use Rattle.config_types.specs.declared.metric.LinkDef.{LinkDef}
use Rattle.config_types.specs.declared.metric.StateLinkDef.{StateLinkDef}
use Rattle.link_rules.specs.declared.entities.Metric.{Metric}
use Rattle.link_rules.specs.declared.entities.Kind.{Kind}
use Rattle.link_rules.specs.declared.entities.Kind.TheVariants.{Value, Gauge}
use Rattle.config_links.specs.declared.sets.LinkSets.{LinkSets}
use Rattle.config_links.specs.declared.sets.StateLinkSets.{StateLinkSets}
use Rattle.config_links.specs.declared.sets.MetricSets.{MetricSets}
use Rattle.config_links.specs.LinkReasons.{may_stand, set_or_none}

-- the trees of a link aren't ill-formed
abbrev pub link_stands : LinkDef → Bool
link_stands link = may_stand link.in_what && may_stand link.in_condition

-- the trees of a state link aren't ill-formed
abbrev pub state_link_stands : StateLinkDef → Bool
state_link_stands link = may_stand link.in_what && may_stand link.in_state

-- the tree that a kind of metric has of its own
abbrev pub own_tree : Kind → Option FieldMatcher
own_tree (Value value) = value.field
own_tree (Gauge gauge) = gauge.fields
own_tree _ = None

-- no tree of a metric is ill-formed
abbrev pub metric_stands : Metric → Bool
metric_stands metric =
    may_stand metric.sliced.dims && (may_stand (own_tree metric.kind)
    && (list_all link_stands metric.common.links && list_all state_link_stands metric.sliced.state_links))

-- the condition and the two sides of a link
abbrev pub sets_of_link : LinkDef → LinkSets
sets_of_link link = record {
  condition = link.condition;
  in_what = set_or_none link.in_what;
  in_condition = set_or_none link.in_condition;
}

-- the atom and the two sides of a state link
abbrev pub sets_of_state_link : StateLinkDef → StateLinkSets
sets_of_state_link link = record {
  atom_id = link.atom_id;
  in_what = set_or_none link.in_what;
  in_state = set_or_none link.in_state;
}

-- the sets of all trees of a metric
abbrev pub metric_sets : Metric → MetricSets
metric_sets metric = record {
  dims = set_or_none metric.sliced.dims;
  own = set_or_none (own_tree metric.kind);
  links = map sets_of_link metric.common.links;
  state_links = map sets_of_state_link metric.sliced.state_links;
}
