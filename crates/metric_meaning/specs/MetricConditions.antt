-- A metric's condition: what its links ask of predicates, by the values of an atom or of a key, and its truth.
use Rattle.std.specs.Prelude.{ℕ, ◌==◌, Bool, List, [], map, length, Option, Some, None}
use Rattle.std.specs.List.{find, range_with_len}
use Rattle.config_links.specs.declared.linked.LLink.{LLink}
use Rattle.config_links.specs.declared.linked.LMetric.{LMetric}
use Rattle.config_links.specs.declared.linked.LPredicate.{LPredicate}
use Rattle.config_links.specs.declared.linked.CondTree.{CondTree}
use Rattle.predicate_state.specs.declared.bind.Bind.{Bind}
use Rattle.predicate_state.specs.declared.truth.Truth.{Truth}
use Rattle.predicate_state.specs.PredicateTable.{PredicateTable}
use Rattle.condition_links.specs.LinkBinds.{binds_of}
use Rattle.condition_links.specs.Conditions.{condition_of}
use Rattle.condition_links.specs.ThreeValues.{is_true}
use Rattle.metric_meaning.specs.Readings.{LeafReading}

-- what a link asks of its predicate: for each leaf of the link the value that is read there, at the leaf's place
abbrev pub link_binds : LeafReading → Option LLink → List Bind
link_binds reading None = []
link_binds reading (Some link) = binds_of link.places (reading link.in_what)

-- what a metric asks of the predicate at a place: what its link to it does, or nothing without a link
abbrev pub binds_at : List LLink → LeafReading → ℕ → List Bind
binds_at links reading place = link_binds reading (find (λ (link : LLink). link.predicate == place) links)

-- what a metric asks of each predicate, in config order
abbrev pub metric_binds : List LPredicate → LMetric → LeafReading → List (List Bind)
metric_binds predicates metric reading = map (binds_at metric.links reading) (range_with_len 0 (length predicates))

-- a metric's condition over the predicates of its configuration
abbrev pub condition_tree : List LPredicate → LMetric → CondTree
condition_tree predicates metric = record { root = metric.condition; nodes = predicates }

-- the truth of a metric's condition for what its links read, where predicates know this
abbrev pub condition_truth : List LPredicate → List PredicateTable → LMetric → LeafReading → Truth
condition_truth predicates tables metric reading =
    condition_of (condition_tree predicates metric) tables (metric_binds predicates metric reading)

-- whether it is true; not to know isn't enough
abbrev pub is_condition_true : List LPredicate → List PredicateTable → LMetric → LeafReading → Bool
is_condition_true predicates tables metric reading = is_true (condition_truth predicates tables metric reading)
