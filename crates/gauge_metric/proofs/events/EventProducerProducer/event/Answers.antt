-- The row of the event was kept or counted.
use Rattle.std.proofs.Common.{◌≡◌, ◌∷◌, [], refl, sym, subst}
use Rattle.std.proofs.lemmas.Result.{on_ok_weaker}
use Rattle.kept_rows.specs.KeptRows.{AddsRows}
use Rattle.metric_kinds.specs.Events.{event_kind}
use Rattle.gauge_metric.specs.EventItems.{atom_row_weight}
use Rattle.gauge_metric.proofs.EventLemmas.{event_came}
use Rattle.gauge_metric.proofs.events.EventProducerProducer.event.Goals as goal

pub returns : goal.returns
returns c = on_ok_weaker c.put.result
    (λ stands. event_came c.args.self.now _ c.args.at c.args.ev
    (subst (λ row. AddsRows event_kind.weight c.args.self.now.kept c.put.new.self (row ∷ [])) c.in_ok-row.ensures
    (stands event_kind.weight
    (subst (λ row. 1 ≡ atom_row_weight row) (sym c.in_ok-row.ensures) refl))))
    c.put.ensures.stands
