-- The laws of the definitions.
use Rattle.config_decode.proofs.JoinLemmas.{read_as_one, same_anywhere}
use Rattle.config_decode.proofs.laws.payloads_are_read_as_one.Goals as goal

pub returns-clause-as_one : goal.returns-clause-as_one
returns-clause-as_one c = read_as_one

pub returns-clause-anywhere : goal.returns-clause-anywhere
returns-clause-anywhere c = same_anywhere
