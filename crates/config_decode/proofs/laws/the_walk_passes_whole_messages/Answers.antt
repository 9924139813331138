-- The laws of the walk.
use Rattle.config_decode.proofs.PassLemmas.{passed_is_whole, top_is_passed}
use Rattle.config_decode.proofs.laws.the_walk_passes_whole_messages.Goals as goal

pub returns-clause-whole : goal.returns-clause-whole
returns-clause-whole c = passed_is_whole

pub returns-clause-top : goal.returns-clause-top
returns-clause-top c = top_is_passed
