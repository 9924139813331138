-- The integers so far, before those of the atoms that are left.
use Rattle.std.proofs.Common.{◌≡◌, ◌++◌, drop}
use Rattle.metric_meaning.specs.ValueLeaves.{ValueLeaf}
use Rattle.client_engine.proofs.PulledValuesLemmas.{integers_meant}
use Rattle.client_engine.proofs.kinds.pulled_values.integers_of.Given as goal

abbrev pub invariant-loop-atom : goal.invariant-loop-atom
invariant-loop-atom l =
    let source : ValueLeaf = record { atom_id = l.atom_id; leaf = l.leaf } in
    let atoms = l.found.atoms.now in
    let meant = integers_meant l.metric source l.found.matcher.now in
    l.integers ++ meant (drop l.atom-index atoms) ≡ meant atoms
