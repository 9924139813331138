-- One atom after the other.
use Rattle.std.proofs.Common.{◌∙◌, ◌++◌, sym, ap, arith, append-nil}
use Rattle.std.proofs.lemmas.List.{drop_all}
use Rattle.metric_meaning.specs.ValueLeaves.{ValueLeaf}
use Rattle.client_engine.proofs.PulledValuesLemmas.{integers_meant}
use Rattle.client_engine.proofs.kinds.pulled_values.integers_of.Goals as goal

-- all
pub returns : goal.returns
returns c =
    let source : ValueLeaf = record { atom_id = c.args.atom_id; leaf = c.args.leaf } in
    let found = c.args.found.now in
    let ends = c.loop-atom-test.false in
    sym (append-nil c.loop-atom.integers)
    ∙ ap (λ l. c.loop-atom.integers ++ integers_meant c.args.metric.now source found.matcher.now l)
    (sym (drop_all c.loop-atom.atom-index found.atoms.now (omega (arith, ends))))
    ∙ c.loop-atom.invariant
