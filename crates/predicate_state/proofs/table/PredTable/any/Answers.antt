-- Binds that name a key ask for its truth, which is looked up where they stand in order.
use Rattle.std.proofs.Common.{subst, sym, ◌∙◌}
use Rattle.predicate_state.specs.PredicateTable.{PredicateTable, HaveLeaves}
use Rattle.predicate_state.specs.BoundKeys.{AreInOrder}
use Rattle.predicate_state.proofs.OneKeyLemmas.{named_truth}
use Rattle.predicate_state.proofs.BoundKeyLemmas.{order_truth}
use Rattle.predicate_state.proofs.table.PredTable.any.Goals as goal

pub returns-then-are_in_order-clause-truth : goal.returns-then-are_in_order-clause-truth
returns-then-are_in_order-clause-truth c =
    let have = subst (λ (t : PredicateTable). HaveLeaves t.spec.leaves t.state.counts) c.self.view_is
    c.self.invariant.1 in
    let order = subst (λ (t : PredicateTable). AreInOrder t.spec.leaves c.args.binds.now) c.self.view_is
    (c.are_in_order.ensures.0 c.if-are_in_order.true) in
    c.look_up.ensures ∙ sym (order_truth c.args.self.now c.args.binds.now have order)

pub returns-then-are_in_order-clause-one_key : goal.returns-then-are_in_order-clause-one_key
returns-then-are_in_order-clause-one_key c key names =
    let have = subst (λ (t : PredicateTable). HaveLeaves t.spec.leaves t.state.counts) c.self.view_is
    c.self.invariant.1 in
    let order = subst (λ (t : PredicateTable). AreInOrder t.spec.leaves c.args.binds.now) c.self.view_is
    (c.are_in_order.ensures.0 c.if-are_in_order.true) in
    c.look_up.ensures ∙ sym (order_truth c.args.self.now c.args.binds.now have order)
    ∙ named_truth c.args.self.now c.args.binds.now key have names

pub returns-clause-one_key : goal.returns-clause-one_key
returns-clause-one_key c key names =
    let have = subst (λ (t : PredicateTable). HaveLeaves t.spec.leaves t.state.counts) c.self.view_is
    c.self.invariant.1 in
    c.first_that_decides.ensures ∙ named_truth c.args.self.now c.args.binds.now key have names
