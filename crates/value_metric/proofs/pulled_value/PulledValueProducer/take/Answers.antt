-- What was kept is handed out.
use Rattle.std.proofs.Common.{refl}
use Rattle.value_metric.specs.PulledStands.{pulled_form, pulled_mean}
use Rattle.value_metric.proofs.PulledLemmas.{pulled_took}
use Rattle.value_metric.proofs.pulled_value.PulledValueProducer.take.Goals as goal

pub returns-clause-gives : goal.returns-clause-gives
returns-clause-gives c = λ params calls stands.
    c.take.ensures.gives (pulled_form params) (pulled_mean params calls) stands.held

pub returns-clause-moves : goal.returns-clause-moves
returns-clause-moves c =
    pulled_took c.args.self.now (record c.args.self.now { books = c.take.new.self }) refl c.take.ensures.moves
