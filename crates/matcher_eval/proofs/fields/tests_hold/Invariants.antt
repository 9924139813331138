use Rattle.std.proofs.Common.{◌≡◌, take, true}
use Rattle.std.specs.List.{list_all}
use Rattle.matcher_eval.specs.AtomTests.{field_test_holds}
use Rattle.matcher_eval.proofs.fields.tests_hold.Given as goal

-- the tests up to here hold
abbrev pub invariant-loop-test : goal.invariant-loop-test
invariant-loop-test l = list_all (field_test_holds l.entries) (take l.test-index l.tests) ≡ true
