-- One level of tuples, and what is below it.
use Rattle.std.proofs.Common.{◌<◌, arith, sym, ap, ◌∙◌}
use Rattle.config_decode.specs.Tree.{field_test_in}
use Rattle.config_decode.proofs.TreeLemmas.{field_test_step, tests_step, one_more}
use Rattle.config_decode.proofs.field_test.+levels.Goals as goal

pub field_tests-loop-inner-preserved : goal.field_tests-loop-inner-preserved
field_tests-loop-inner-preserved t c =
    one_more (field_test_in c.args.levels) c.args.messages.now c.loop-inner.inner-index _ c.loop-inner.tests _ _
    c.loop-inner-test.true (c.in_ok-field_test.ensures ∙ ap (field_test_in c.args.levels) c.inner-item.is)
    c.in_ok-push.ensures.added c.loop-inner.invariant

pub tuple-returns : goal.tuple-returns
tuple-returns t c =
    let some : 0 < c.args.levels = omega arith in
    rw (tests_step c.args.levels _ some, ← c.in_ok-messages.ensures, ← c.as_slice.ensures.value)
    c.field_tests.ensures

pub field_test-returns : goal.field_test-returns
field_test-returns t c =
    rw (c.read_scalar-field.ensures, c.read_scalar-position.ensures, c.in_ok-test.ensures, c.in_ok-run.ensures)
    (sym (field_test_step c.args.levels c.args.message.now))
