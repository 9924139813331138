-- The ids of entities: each has one, and no two of a kind have the same.
use Rattle.std.specs.Prelude.{ℕ, ℤ, pos, ◌+◌, List, [], ◌∷◌, map, Option, Some, None}
use Rattle.std.specs.Option.{option_map, option_to_list, unwrap_or}
use Rattle.std.specs.Ordering.{int_eq}
use Rattle.std.specs.List.{flat_map}
use Rattle.config_types.specs.declared.matcher.MatcherDef.{MatcherDef}
use Rattle.config_types.specs.declared.predicate.PredicateDef.{PredicateDef}
use Rattle.config_types.specs.declared.state.StateDef.{StateDef}
use Rattle.config_types.specs.declared.alert.AlertDef.{AlertDef}
use Rattle.distinct.specs.Places.{first_place}
use Rattle.distinct.specs.Repeats.{repeat_in}
use Rattle.link_rules.specs.declared.entities.Metric.{Metric}
use Rattle.link_rules.specs.declared.entities.Entities.{Entities}
use Rattle.link_rules.specs.declared.fault.LinkFault.{LinkFault}
use Rattle.link_rules.specs.LinkFaults.{fault, no_id, duplicate_id, matcher_kind, predicate_kind, state_kind, metric_kind, alert_kind, first_of}

-- the id of a matcher
abbrev pub id_of_matcher : MatcherDef → Option ℤ
id_of_matcher def = def.id

-- the id of a predicate
abbrev pub id_of_predicate : PredicateDef → Option ℤ
id_of_predicate def = def.id

-- the id of a state
abbrev pub id_of_state : StateDef → Option ℤ
id_of_state def = def.id

-- the id of a metric
abbrev pub id_of_metric : Metric → Option ℤ
id_of_metric metric = metric.common.id

-- the id of an alert
abbrev pub id_of_alert : AlertDef → Option ℤ
id_of_alert def = def.id

-- the ids that are set, in config order; where every entity has one, the place of an id here is that of its entity
abbrev pub set_ids : List (Option ℤ) → List ℤ
set_ids ids = flat_map option_to_list ids

-- the first entity that has no id, and its place, where so many stand before these
abbrev pub no_id_from : ℕ → ℕ → List (Option ℤ) → Option LinkFault
no_id_from kind place [] = None
no_id_from kind place (None ∷ ids) = Some (fault no_id kind (pos place))
no_id_from kind place (Some id ∷ ids) = no_id_from kind (place + 1) ids

-- the first entity of a kind that has no id
abbrev pub no_id_in : ℕ → List (Option ℤ) → Option LinkFault
no_id_in kind ids = no_id_from kind 0 ids

-- the first id that stood earlier in its kind
abbrev pub duplicate_in : ℕ → List (Option ℤ) → Option LinkFault
duplicate_in kind ids = option_map (fault duplicate_id kind) (repeat_in int_eq (set_ids ids))

-- number 2, kind by kind
abbrev pub missing_ids : Entities → List (Option LinkFault)
missing_ids entities =
    no_id_in matcher_kind (map id_of_matcher entities.matchers)
    ∷ no_id_in predicate_kind (map id_of_predicate entities.predicates)
    ∷ no_id_in state_kind (map id_of_state entities.states)
    ∷ no_id_in metric_kind (map id_of_metric entities.metrics)
    ∷ no_id_in alert_kind (map id_of_alert entities.alerts)
    ∷ []

-- number 2: the first entity that has no id
unfoldable pub no_id_fault : Entities → Option LinkFault
no_id_fault entities = first_of (missing_ids entities)

-- number 3, kind by kind
abbrev pub duplicate_ids : Entities → List (Option LinkFault)
duplicate_ids entities =
    duplicate_in matcher_kind (map id_of_matcher entities.matchers)
    ∷ duplicate_in predicate_kind (map id_of_predicate entities.predicates)
    ∷ duplicate_in state_kind (map id_of_state entities.states)
    ∷ duplicate_in metric_kind (map id_of_metric entities.metrics)
    ∷ duplicate_in alert_kind (map id_of_alert entities.alerts)
    ∷ []

-- number 3: the first id that stood earlier in its kind
unfoldable pub duplicate_id_fault : Entities → Option LinkFault
duplicate_id_fault entities = first_of (duplicate_ids entities)

-- the ids of all matchers, in config order
unfoldable pub matcher_ids : Entities → List ℤ
matcher_ids entities = set_ids (map id_of_matcher entities.matchers)

-- the ids of all predicates, in config order
unfoldable pub predicate_ids : Entities → List ℤ
predicate_ids entities = set_ids (map id_of_predicate entities.predicates)

-- the ids of all states, in config order
unfoldable pub state_ids : Entities → List ℤ
state_ids entities = set_ids (map id_of_state entities.states)

-- the ids of all metrics, in config order
unfoldable pub metric_ids : Entities → List ℤ
metric_ids entities = set_ids (map id_of_metric entities.metrics)

-- the place of an id among these
abbrev pub id_place : ℤ → List ℤ → Option ℕ
id_place id known = first_place (int_eq id) known

-- the place of an id among these, where it is one of them
abbrev pub place_in : List ℤ → ℤ → ℕ
place_in known id = unwrap_or (id_place id known) 0
