-- The report of a history, as a tree.
use Rattle.std.specs.Prelude.{ℕ, ℤ, pos, ◌-◌, ◌^◌, min, Bool, false, List, [], ◌∷◌, map, filter}
use Rattle.std.specs.List.{flat_map}
use Rattle.bucket_meaning.specs.Kept.{Taken}
use Rattle.config_links.specs.declared.linked.LMetric.{LMetric}
use Rattle.config_links.specs.declared.linked.LKind.{LKind}
use Rattle.config_links.specs.declared.linked.LKind.TheVariants.{Event, Count, PushedValue, PulledValue, PushedGauge, PulledGauge, SumDuration, MaxSparse}
use Rattle.report_writer.specs.declared.tree.NumBucket.{NumBucket}
use Rattle.report_writer.specs.declared.tree.NumTree.{NumTree}
use Rattle.report_writer.specs.declared.tree.MetricBody.{MetricBody}
use Rattle.report_writer.specs.declared.tree.MetricBody.TheVariants.{Durations}
use Rattle.report_writer.specs.declared.tree.MetricTree.{MetricTree}
use Rattle.report_writer.specs.declared.tree.ReportTree.{ReportTree}
use Rattle.metric_producer.specs.declared.row.Row.{Row}
use Rattle.metric_meaning.specs.Histories.{What, Logged, Reported, Step, Installation, History, log_of_history}
use Rattle.metric_meaning.specs.PredicateSteps.{predicate_drops}
use Rattle.metric_meaning.specs.StateDrops.{drops_of_states, dropped_for}
use Rattle.metric_meaning.specs.KeyTrees.{groups_of}
use Rattle.metric_meaning.specs.CountSteps.{counts_shown}
use Rattle.metric_meaning.specs.CountTrees.{counts_body}
use Rattle.metric_meaning.specs.DurationSteps.{sums_shown, longest_shown}
use Rattle.metric_meaning.specs.EventSteps.{events_shown}
use Rattle.metric_meaning.specs.EventTrees.{events_body}
use Rattle.metric_meaning.specs.ValueLeaves.{ValueLeaf}
use Rattle.metric_meaning.specs.PushedValueSteps.{pushed_values_shown}
use Rattle.metric_meaning.specs.ValueTrees.{values_body}
use Rattle.metric_meaning.specs.PushedGaugeSteps.{pushed_gauge_shown}
use Rattle.metric_meaning.specs.GaugeTrees.{gauge_body}
use Rattle.metric_meaning.specs.PulledValueSteps.{pulled_values_shown}
use Rattle.metric_meaning.specs.PulledGaugeSteps.{pulled_gauge_shown}
use Rattle.metric_meaning.specs.AlarmTrees.{alarm_trees, alarm_drops}

-- a time in a report ends where a signed number of 64 bits does
abbrev pub time_bucket : Row ℕ → NumBucket
time_bucket row = record { start = row.start; end = row.end; value = pos (min row.value (2 ^ 63 - 1)) }

-- rows of times by their keys
abbrev pub time_groups : List (Row ℕ) → List NumTree
time_groups = groups_of
    (λ leaves slices buckets. record { leaves = leaves; slices = slices; overflow = false; buckets = buckets })
    time_bucket

-- a metric with what is shown of it, and its rows
abbrev pub tree_with_body : {A : Type 0} → ℕ → LMetric → Taken A → MetricBody → MetricTree
tree_with_body base metric shown body = record {
  id = metric.id;
  base = base;
  size = metric.size;
  dropped = shown.dropped;
  not_kept = shown.not_kept;
  missing = shown.missing;
  body = body;
}

-- what a report shows of a metric, by its kind
abbrev pub metric_tree : Installation → List Step → Bool → ℕ → LMetric → MetricTree
metric_tree installed steps include_current now metric = by_kind metric.kind where
  by_kind : LKind → MetricTree
  by_kind Event =
      let shown = events_shown installed metric steps include_current now in
      tree_with_body installed.base metric shown (events_body shown.rows)
  by_kind (Count overflow) =
      let shown = counts_shown installed metric overflow steps include_current now in
      tree_with_body installed.base metric shown (counts_body shown.rows)
  by_kind (PushedValue atom_id leaf aggregation) =
      let source : ValueLeaf = record { atom_id = atom_id; leaf = leaf } in
      let shown = pushed_values_shown installed metric source aggregation steps include_current now in
      tree_with_body installed.base metric shown (values_body shown.rows)
  by_kind (PulledValue atom_id leaf spec) =
      let source : ValueLeaf = record { atom_id = atom_id; leaf = leaf } in
      let shown = pulled_values_shown installed metric source spec steps include_current now in
      tree_with_body installed.base metric shown (values_body shown.rows)
  by_kind (PushedGauge fields samples) =
      let shown = pushed_gauge_shown installed metric fields samples steps include_current now in
      tree_with_body installed.base metric shown (gauge_body shown.rows)
  by_kind (PulledGauge fields samples mode trigger) =
      let shown = pulled_gauge_shown installed metric fields samples mode trigger steps include_current now in
      tree_with_body installed.base metric shown (gauge_body shown.rows)
  by_kind (SumDuration spec) =
      let shown = sums_shown installed metric spec steps include_current now in
      tree_with_body installed.base metric shown (Durations (time_groups shown.rows))
  by_kind (MaxSparse spec) =
      let shown = longest_shown installed metric spec steps include_current now in
      tree_with_body installed.base metric shown (Durations (time_groups shown.rows))

-- the clock at the last report, or the base
abbrev pub last_report : ℕ → List Step → ℕ
last_report last [] = last
last_report last (step ∷ steps) = last_report (after step.what) steps where
  after : What → ℕ
  after (Logged frame) = last
  after (Reported include_current) = step.at

-- the report that is made after a history's steps at a time, with or without a cut, for a client's configuration
unfoldable pub report_of : History → ℤ → ℤ → Bool → ℕ → ReportTree
report_of history uid id include_current now = record {
  uid = uid;
  id = id;
  last = last_report history.installed.base history.steps;
  now = now;
  metrics =
      map (metric_tree history.installed history.steps include_current now)
      (filter (λ (metric : LMetric). metric.shown) history.installed.linked.metrics);
  predicate_drops = predicate_drops history.installed.linked.predicates history.steps;
  state_drops = drops_of_states history.installed.linked.states (log_of_history history);
  state_atoms_dropped = dropped_for history.installed.linked.states (log_of_history history);
  alarms = flat_map (alarm_trees history.installed history.steps) history.installed.linked.alerts;
  alarms_not_kept = flat_map (alarm_drops history.installed history.steps) history.installed.linked.alerts;
}
