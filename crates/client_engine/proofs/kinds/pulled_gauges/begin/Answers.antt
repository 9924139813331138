-- The producer was told what stands at the installation, and the clock begins with the same numbers.
use Rattle.std.proofs.Common.{◌∙◌, Option, List, ap}
use Rattle.atom_record.specs.declared.atom.Atom.{Atom}
use Rattle.metric_calls.specs.PulledGaugeCalls.{gauge_telling}
use Rattle.client_engine.proofs.SnapshotsToldLemmas.{truth_at_first}
use Rattle.client_engine.proofs.PulledGaugesLemmas.{pulled_gauges_begin}
use Rattle.client_engine.proofs.kinds.pulled_gauges.begin.Goals as goal

pub returns-clause-stands : goal.returns-clause-stands
returns-clause-stands c = λ installed fields trigger is gauge.
    let metric = c.args.metric.now in
    let opening = c.args.opening.now in
    let known = c.args.conditions.now in
    pulled_gauges_begin metric fields c.args.samples c.args.mode trigger gauge installed opening.base
    c.new-producer.result c.event.new.self c.condition.new.self c.new.result c.in_ok-snapshot.snapshot c.in_ok-now.now
    is.base c.requires.opens.in_time c.new-producer.ensures c.in_ok-event.ensures c.in_ok-condition.ensures
    (c.in_ok-snapshot.ensures fields c.args.samples c.args.mode trigger gauge
    ∙ ap (λ (found : Option (List Atom)). (gauge_telling metric fields trigger).snapshot found)
    (c.found_at_first.ensures.found installed known is))
    (c.in_ok-now.ensures.truth ∙ truth_at_first installed opening known metric is)
    c.new.ensures
