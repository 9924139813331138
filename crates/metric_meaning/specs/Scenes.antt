-- What a metric finds once a step has acted: what predicates know, the log, and the steps.
use Rattle.std.specs.Prelude.{List}
use Rattle.atom_record.specs.declared.log.LogFrame.{LogFrame}
use Rattle.config_links.specs.declared.linked.Linked.{Linked}
use Rattle.predicate_state.specs.PredicateTable.{PredicateTable}
use Rattle.metric_meaning.specs.Histories.{Installation, Step, log_after}
use Rattle.metric_meaning.specs.PredicateSteps.{tables_after}

-- The configuration, what its predicates know, in config order, the whole log, and the steps since the installation.
pub record Scene : Type 0 where
  pub linked : Linked
  pub tables : List PredicateTable
  pub log : List LogFrame
  pub steps : List Step

-- the scene after these steps
abbrev pub scene_after : Installation → List Step → Scene
scene_after installed steps = record {
  linked = installed.linked;
  tables = tables_after installed.linked.predicates steps;
  log = log_after installed steps;
  steps = steps;
}
