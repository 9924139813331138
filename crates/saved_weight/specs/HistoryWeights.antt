-- What an installed configuration weighs after what it has seen.
use Rattle.std.specs.Prelude.{ℕ, ◌+◌, ◌*◌, List, length}
use Rattle.std.specs.List.{sum_by}
use Rattle.config_links.specs.declared.linked.Linked.{Linked}
use Rattle.config_links.specs.declared.linked.LMetric.{LMetric}
use Rattle.config_links.specs.declared.linked.LPredicate.{LPredicate}
use Rattle.metric_meaning.specs.Histories.{Step, History}
use Rattle.metric_meaning.specs.PredicateSteps.{table_after}
use Rattle.predicate_state.specs.PredicateTable.{LeafKey, PredicateTable}
use Rattle.saved_weight.specs.Entries.{entry_size, leaves_entry}
use Rattle.saved_weight.specs.AlertWeights.{alert_weight}
use Rattle.saved_weight.specs.KindWeights.{metric_weight}

-- what a part of a configuration weighs besides its entries
abbrev pub part_size : ℕ
part_size = 256

-- how many parts a configuration has
abbrev pub parts_in : Linked → ℕ
parts_in linked =
    length linked.matchers + length linked.predicates + length linked.states + length linked.metrics
    + length linked.alerts

-- each key that a predicate lists is an entry
abbrev pub table_weight : PredicateTable → ℕ
table_weight table = sum_by (λ (entry : LeafKey × ℕ). leaves_entry entry.0) table.state.counts

-- what a predicate knows after these steps
abbrev pub predicate_weight : List Step → LPredicate → ℕ
predicate_weight steps predicate = table_weight (table_after predicate steps)

-- each activation of a metric is an entry
abbrev pub activations_weight : LMetric → ℕ
activations_weight metric = entry_size * length metric.activations

-- The parts of the configuration, the keys of its predicates, its metrics with their activations, and its alerts.
abbrev pub history_weight : History → ℕ
history_weight history =
    let installed = history.installed in
    let linked = installed.linked in
    part_size * parts_in linked
    + sum_by (predicate_weight history.steps) linked.predicates
    + sum_by (metric_weight installed history.steps) linked.metrics
    + sum_by activations_weight linked.metrics
    + sum_by (alert_weight installed history.steps) linked.alerts
