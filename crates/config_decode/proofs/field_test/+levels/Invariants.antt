use Rattle.std.proofs.Common.{◌≡◌, ◌++◌, ◌+◌, ◌*◌, map, drop}
use Rattle.config_decode.specs.Tree.{field_test_in}
use Rattle.config_decode.proofs.field_test.+levels.Given as goal

abbrev pub decreases-tuple : goal.decreases-tuple
decreases-tuple l = 4 * l.levels

abbrev pub decreases-test : goal.decreases-test
decreases-test l = 4 * l.levels + 1

abbrev pub decreases-field_test : goal.decreases-field_test
decreases-field_test l = 4 * l.levels + 2

abbrev pub decreases-field_tests : goal.decreases-field_tests
decreases-field_tests l = 4 * l.levels + 3

-- what was read, and what the messages that are left will say
abbrev pub invariant-field_tests-loop-inner : goal.invariant-field_tests-loop-inner
invariant-field_tests-loop-inner l =
    l.tests ++ map (field_test_in l.levels) (drop l.inner-index l.messages)
    ≡ map (field_test_in l.levels) l.messages
