-- The laws of the definitions.
use Rattle.hub_meaning.proofs.ClientIsolationLemmas.{own_frames_decide, equal_own_frames}
use Rattle.statsd_cli.proofs.isolation.clients_are_isolated.Goals as goal

pub returns-clause-own : goal.returns-clause-own
returns-clause-own c = λ says. own_frames_decide says

pub returns-clause-equal : goal.returns-clause-equal
returns-clause-equal c = λ says. equal_own_frames says
