-- One value more is fed.
use Rattle.std.proofs.Common.{length, get_or, sym, ap, ◌∙◌, arith}
use Rattle.std.specs.Prelude.{fold}
use Rattle.std.specs.Hash as fed
use Rattle.std.proofs.lemmas.List.{length-map}
use Rattle.atom_record.specs.declared.value.Leaf.{Leaf}
use Rattle.atom_record.specs.contracts.value.LeafHash.TheImpl as leaf_hash
use Rattle.atom_record.proofs.FedLemmas.{fed_more}
use Rattle.predicate_state.specs.declared.bind.Bind.{Bind}
use Rattle.predicate_state.specs.BoundKeys.{bound_key}
use Rattle.predicate_state.proofs.BoundKeyLemmas.{value_read}
use Rattle.predicate_state.proofs.bound.BoundKeyHash.hash.Goals as goal

pub loop-at-preserved : goal.loop-at-preserved
loop-at-preserved g c =
    let binds = c.args.self.now.binds.now in
    let bind = c.index-self-at.result in
    let value : Leaf = (get_or binds c.loop-at.at bind).value in
    let write = g.H.Hasher.write in
    let values = length-map binds (λ (b : Bind). b.value) in
    c.hash.ensures
    ∙ ap (λ state. fold write state (leaf_hash.ghosts.hash_input value)) c.loop-at.invariant
    ∙ sym (fed_more write leaf_hash.ghosts.hash_input (fold write c.args.state.now (fed.usize (length binds)))
    (bound_key binds) c.loop-at.at value
    (omega (arith, c.loop-at-test.true, values)) (value_read binds c.loop-at.at bind value c.loop-at-test.true))
