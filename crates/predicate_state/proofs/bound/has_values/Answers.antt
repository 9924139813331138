-- The values are compared one by one.
use Rattle.std.proofs.Common.{◌<◌, length, get_or, arith, ◌∙◌}
use Rattle.atom_record.specs.declared.value.Leaf.TheVariants.{Missing}
use Rattle.predicate_state.proofs.BoundKeyLemmas.{leaf_read, told_same, told_apart, values_more, values_same, value_differs}
use Rattle.predicate_state.proofs.bound.has_values.Goals as goal

pub returns-then-not-has_leaf : goal.returns-then-not-has_leaf
returns-then-not-has_leaf c =
    let key = c.args.key.now in
    let at = c.loop-at.at in
    let bind = c.index-binds-at.result in
    let within : at < length key = omega (arith, c.loop-at-test.true, c.if-binds-len.false, c.len.ensures) in
    value_differs c.args.binds.now key at bind (get_or key at Missing) c.loop-at-test.true (leaf_read key at within)
    (told_apart key at (get_or c.args.binds.now at bind).value c.has_leaf.result within c.has_leaf.ensures
    c.if-not-has_leaf.true)

pub loop-at-preserved : goal.loop-at-preserved
loop-at-preserved c =
    let key = c.args.key.now in
    let at = c.loop-at.at in
    let bind = c.index-binds-at.result in
    let within : at < length key = omega (arith, c.loop-at-test.true, c.if-binds-len.false, c.len.ensures) in
    values_more c.args.binds.now key at bind (get_or key at Missing) c.loop-at-test.true within
    (leaf_read key at within)
    (told_same key at (get_or c.args.binds.now at bind).value c.has_leaf.result within c.has_leaf.ensures
    c.if-not-has_leaf.false)
    c.loop-at.invariant

pub returns : goal.returns
returns c = values_same c.args.binds.now c.args.key.now c.loop-at.at (c.if-binds-len.false ∙ c.len.ensures)
    c.loop-at-test.false c.loop-at.invariant
