-- What a report shows beside what metrics show: for private clauses.
use Rattle.std.specs.Prelude.{◌≡◌, ℕ, List}
use Rattle.atom_record.specs.declared.log.LogFrame.{LogFrame}
use Rattle.config_links.specs.declared.linked.LState.{LState}
use Rattle.state_slicer.specs.StateBooks.{StateBookStandsFor}
use Rattle.report_writer.specs.declared.tree.MetricTree.{MetricTree}
use Rattle.report_writer.specs.declared.tree.ReportTree.{ReportTree}
use Rattle.metric_meaning.specs.StateDrops.{drops_of_states, dropped_for}
use Rattle.client_engine.specs.Handed.{BookOfStates}
use Rattle.client_engine.specs.declared.alarms.AlarmsShown.{AlarmsShown}
use Rattle.client_engine.specs.declared.parts.Drops.{Drops}
use Rattle.client_engine.specs.declared.request.ReportRequest.{ReportRequest}

-- the tree of a report, with what it shows of metrics, predicates, states and alerts
abbrev pub tree_with : ReportRequest → ℕ → List MetricTree → Drops → AlarmsShown → ReportTree
tree_with request last trees drops alarms = record {
  uid = request.name.uid;
  id = request.name.id;
  last = last;
  now = request.at;
  metrics = trees;
  predicate_drops = drops.of_predicates;
  state_drops = drops.of_states;
  state_atoms_dropped = drops.of_atoms;
  alarms = alarms.listed;
  alarms_not_kept = alarms.not_kept;
}

-- what is shown of states that found no room is what this book says of these states
pub record AreStateDrops (states : List LState) (book : BookOfStates) (drops : Drops) : Type 0 where
  pub keys : (log : List LogFrame) → StateBookStandsFor book log → drops.of_states ≡ drops_of_states states log
  pub atoms : (log : List LogFrame) → StateBookStandsFor book log → drops.of_atoms ≡ dropped_for states log
