-- The lane got the snapshot of what was found.
use Rattle.std.proofs.Common.{◌∙◌, Option, List, ap, subst}
use Rattle.std.proofs.lemmas.Result.{on_ok_weaker}
use Rattle.atom_record.specs.declared.atom.Atom.{Atom}
use Rattle.gauge_metric.specs.PulledStands.{pulled_law}
use Rattle.metric_calls.specs.PulledGaugeCalls.{gauge_telling}
use Rattle.metric_producer.specs.Calls.{Got}
use Rattle.metric_lane.specs.LaneStands.{GetsCall}
use Rattle.client_engine.proofs.kinds.pulled_gauges.pull.Goals as goal

pub returns : goal.returns
returns c =
    on_ok_weaker c.event.result (λ gets fields samples mode trigger gauge.
    subst (λ snapshot. GetsCall pulled_law c.args.lane.now c.event.new.self (Got c.args.at snapshot))
    (c.in_ok-snapshot.ensures fields samples mode trigger gauge
    ∙ ap (λ (found : Option (List Atom)). (gauge_telling c.args.metric.now fields trigger).snapshot found)
    c.found_in-found.ensures.found)
    gets)
    c.event.ensures
