-- One leaf after the other.
use Rattle.std.proofs.Common.{◌≡◌, ◌+◌, false, true, ◌&&◌, map, drop, slice_get, length, Some, refl, sym, ap, ◌∙◌, arith}
use Rattle.std.proofs.lemmas.Option.{slice_get_read}
use Rattle.field_select.specs.declared.leaf.LeafPath.{LeafPath}
use Rattle.predicate_state.specs.PredicateTable.{same_leaves}
use Rattle.predicate_state.specs.PredicateTruths.{is_leaf}
use Rattle.condition_links.specs.LinkBinds.{value_at_leaf}
use Rattle.condition_links.proofs.ReadsLemmas.{reads_on}
use Rattle.condition_links.proofs.apart.are_values.Goals as goal

-- another leaf is read
pub returns-then-not-is_value : goal.returns-then-not-is_value
returns-then-not-is_value c =
    let value = λ (leaf : LeafPath). value_at_leaf c.args.inner.now c.args.key.now leaf in
    let turn = c.loop-turn.turn in
    let same = c.if-len-leaves.false in
    let size : length c.args.read.now ≡ length c.args.leaves.now = grind (arith, same) in
    let there = c.in-Some.ensures.lookup in
    let is : slice_get c.args.leaves.now turn ≡ Some c.in-Some.leaf.now =
    slice_get_read c.args.leaves.now (length c.args.leaves.now) turn c.in-Some.leaf.now refl there.3.0 there.1 in
    let other = c.if-not-is_value.true in
    let off : is_leaf (slice_get c.args.read.now turn) (value c.in-Some.leaf.now) ≡ false =
    sym (c.is_value.ensures (value c.in-Some.leaf.now) c.value_of.ensures) ∙ grind (arith, other) in
    sym (sym c.loop-turn.invariant
    ∙ reads_on value turn c.args.read.now c.args.leaves.now c.in-Some.leaf.now size is
    ∙ ap (λ b. b && same_leaves (drop (turn + 1) c.args.read.now) (map value (drop (turn + 1) c.args.leaves.now))) off)

-- this one is
pub loop-turn-preserved : goal.loop-turn-preserved
loop-turn-preserved c =
    let value = λ (leaf : LeafPath). value_at_leaf c.args.inner.now c.args.key.now leaf in
    let turn = c.loop-turn.turn in
    let same = c.if-len-leaves.false in
    let size : length c.args.read.now ≡ length c.args.leaves.now = grind (arith, same) in
    let there = c.in-Some.ensures.lookup in
    let is : slice_get c.args.leaves.now turn ≡ Some c.in-Some.leaf.now =
    slice_get_read c.args.leaves.now (length c.args.leaves.now) turn c.in-Some.leaf.now refl there.3.0 there.1 in
    let other = c.if-not-is_value.false in
    let on : is_leaf (slice_get c.args.read.now turn) (value c.in-Some.leaf.now) ≡ true =
    sym (c.is_value.ensures (value c.in-Some.leaf.now) c.value_of.ensures) ∙ grind (arith, other) in
    sym (reads_on value turn c.args.read.now c.args.leaves.now c.in-Some.leaf.now size is
    ∙ ap (λ b. b && same_leaves (drop (turn + 1) c.args.read.now) (map value (drop (turn + 1) c.args.leaves.now))) on)
    ∙ c.loop-turn.invariant
