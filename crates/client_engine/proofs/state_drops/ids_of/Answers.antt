-- One state after the other.
use Rattle.std.proofs.Common.{◌∙◌, sym, ap, arith}
use Rattle.std.proofs.lemmas.List.{drop_all}
use Rattle.bucket_meaning.specs.Guard.{firsts}
use Rattle.book_meaning.specs.Snapshots.{same_atom_id}
use Rattle.client_engine.proofs.StateDropsLemmas.{ids_in, ids_on}
use Rattle.client_engine.proofs.state_drops.ids_of.Goals as goal

-- one more id, if it is new
pub loop-state-preserved : goal.loop-state-preserved
loop-state-preserved c =
    ids_on c.args.states.now c.loop-state.state-index c.state-item.result c.loop-state.ids.items c.add_id.new.ids.items
    (omega arith) c.state-item.is c.loop-state.invariant c.in_ok-add_id.ensures

-- all
pub returns : goal.returns
returns c =
    let ends = c.loop-state-test.false in
    ap (λ l. firsts same_atom_id c.loop-state.ids.items (ids_in l))
    (sym (drop_all c.loop-state.state-index c.args.states.now (omega (arith, ends)))) ∙ c.loop-state.invariant
