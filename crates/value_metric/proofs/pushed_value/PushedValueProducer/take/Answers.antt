-- What was kept is handed out.
use Rattle.value_metric.specs.PushedStands.{pushed_form, pushed_mean}
use Rattle.value_metric.proofs.PushedLemmas.{took}
use Rattle.value_metric.proofs.pushed_value.PushedValueProducer.take.Goals as goal

pub returns-clause-gives : goal.returns-clause-gives
returns-clause-gives c = λ params calls stands.
    c.take.ensures.gives (pushed_form params) (pushed_mean params calls) stands

pub returns-clause-moves : goal.returns-clause-moves
returns-clause-moves c = took c.args.self.now (record { books = c.take.new.self }) c.take.ensures.moves
