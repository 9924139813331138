-- One atom after the other.
use Rattle.std.proofs.Common.{◌∙◌, ◌++◌, sym, ap, arith, append-nil}
use Rattle.std.proofs.lemmas.List.{drop_all}
use Rattle.client_engine.proofs.PulledGaugesLemmas.{samples_meant}
use Rattle.client_engine.proofs.kinds.pulled_gauges.samples_of.Goals as goal

-- all
pub returns : goal.returns
returns c =
    let found = c.args.found.now in
    let ends = c.loop-atom-test.false in
    sym (append-nil c.loop-atom.samples)
    ∙ ap (λ l. c.loop-atom.samples ++ samples_meant c.args.metric.now c.args.fields.now found.matcher.now l)
    (sym (drop_all c.loop-atom.atom-index found.atoms.now (omega (arith, ends))))
    ∙ c.loop-atom.invariant
