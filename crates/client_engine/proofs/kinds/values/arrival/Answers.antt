-- The key of the atom that arrives, with its integer.
use Rattle.std.proofs.Common.{◌∙◌, ℤ, Some, sym, ap, SFits, w64, rules}
use Rattle.std.proofs.lemmas.Int.{to_z-of_z}
use Rattle.value_metric.specs.declared.keyed_int.KeyedInt.{KeyedInt}
use Rattle.metric_meaning.specs.ValueLeaves.{ValueLeaf}
use Rattle.client_engine.specs.Bringing.{brought_step}
use Rattle.client_engine.proofs.ValuesLemmas.{with_integer}
use Rattle.client_engine.proofs.kinds.values.arrival.Goals as goal

pub returns-clause-keyed : goal.returns-clause-keyed
returns-clause-keyed g c = λ scene found active source aggregation also.
    let kind = c.in-PushedValue in
    let own : ValueLeaf = record { atom_id = kind.atom_id; leaf = kind.leaf } in
    let comes = rw (c.in-Some.is) at (c.in_ok-atom.ensures.atom scene found active) in
    let value = c.in-Some-read_integer.value in
    let key = c.in_ok-key.key in
    let fits : SFits w64 value = search rules in
    ap (λ (v : ℤ). let keyed : KeyedInt = record { key = key; value = v } in Some keyed) (to_z-of_z w64 value fits)
    ∙ with_integer scene c.args.metric.now own source kind.agg aggregation (brought_step c.args.brought.now)
    c.in-Some.atom.now value key kind.is also comes (sym c.in-Some-read_integer.is ∙ c.read_integer.ensures)
    (c.in_ok-key.ensures c.args.conditions.now scene found)
