-- The laws of the levels.
use Rattle.config_decode.proofs.DepthLemmas.{field_matchers_are_whole, field_tests_are_whole}
use Rattle.config_decode.proofs.laws.passed_trees_are_read_to_their_end.Goals as goal

pub returns-clause-field_matchers : goal.returns-clause-field_matchers
returns-clause-field_matchers c = field_matchers_are_whole

pub returns-clause-field_tests : goal.returns-clause-field_tests
returns-clause-field_tests c = field_tests_are_whole
