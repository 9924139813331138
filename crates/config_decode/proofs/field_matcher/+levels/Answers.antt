-- One level of messages, and what is below it.
use Rattle.std.proofs.Common.{◌<◌, arith, sym, ap, ◌∙◌}
use Rattle.config_decode.specs.Tree.{field_matcher_in}
use Rattle.config_decode.proofs.TreeLemmas.{field_matcher_step, children_step, one_more}
use Rattle.config_decode.proofs.field_matcher.+levels.Goals as goal

pub field_matchers-loop-inner-preserved : goal.field_matchers-loop-inner-preserved
field_matchers-loop-inner-preserved t c =
    one_more (field_matcher_in c.args.levels) c.args.messages.now c.loop-inner.inner-index _ c.loop-inner.trees _ _
    c.loop-inner-test.true (c.in_ok-field_matcher.ensures ∙ ap (field_matcher_in c.args.levels) c.inner-item.is)
    c.in_ok-push.ensures.added c.loop-inner.invariant

pub children-returns : goal.children-returns
children-returns t c =
    let some : 0 < c.args.levels = omega arith in
    rw (children_step c.args.levels _ some, ← c.in_ok-messages.ensures, ← c.as_slice.ensures.value)
    c.field_matchers.ensures

pub field_matcher-returns : goal.field_matcher-returns
field_matcher-returns t c =
    rw (c.read_scalar.ensures, c.read_scalar-2.ensures, c.in_ok-children.ensures)
    (sym (field_matcher_step c.args.levels c.args.message.now))
