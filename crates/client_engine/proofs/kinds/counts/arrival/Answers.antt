-- The key of the atom that arrives.
use Rattle.std.proofs.Common.{◌∙◌, Some, ap}
use Rattle.std.specs.Option.{option_map}
use Rattle.metric_meaning.specs.Arrivals.{atom_key}
use Rattle.client_engine.proofs.kinds.counts.arrival.Goals as goal

pub returns-clause-key : goal.returns-clause-key
returns-clause-key g c = λ scene found active.
    let metric = c.args.taker.now.metric.now in
    let comes = rw (c.in-Some.is) at (c.in_ok-atom.ensures.atom scene found active) in
    ap (λ key. Some key) (c.in_ok-metric_key_into.ensures c.args.conditions.now scene found)
    ∙ ap (option_map (atom_key scene metric)) comes
