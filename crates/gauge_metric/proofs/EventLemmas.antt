-- A producer of events holds its books through every call.
use Rattle.std.proofs.Common.{ℕ, ◌+◌, List, [], ◌∷◌, ◌++◌, refl, sym, ap, subst, ◌∙◌, arith}
use Rattle.atom_record.specs.declared.atom.Atom.{Atom}
use Rattle.atom_record.specs.declared.value.MetricKey.{MetricKey}
use Rattle.bucket_clock.specs.declared.crossings.Crossings.{Crossings}
use Rattle.bucket_meaning.specs.Marks.{Part}
use Rattle.bucket_meaning.specs.Rows.{drops, rows_of, closed_rows}
use Rattle.kept_rows.specs.KeptRows.{IsKept, AddsRows}
use Rattle.metric_producer.specs.declared.row.Row.{Row}
use Rattle.metric_producer.specs.Calls.{Got, Learned, Crossed, CutAt, Took}
use Rattle.metric_producer.specs.Moves.{Moves}
use Rattle.metric_producer.proofs.CollectingLemmas.{moves}
use Rattle.metric_kinds.specs.Events.{EventAtom, event_key, event_row, event_kind}
use Rattle.gauge_metric.specs.declared.events.EventProducer.{EventProducer}
use Rattle.gauge_metric.specs.Eventing.{event_collecting}
use Rattle.gauge_metric.specs.EventStands.{HasEvents, event_law}
use Rattle.gauge_metric.proofs.ClosedRowsLemmas.{closed_rows-push}

-- an event came: its row was kept or counted
pub event_came : (old new : EventProducer) (at : ℕ) (atom : Atom)
    → AddsRows event_kind.weight old.kept new.kept (event_row (record { at = at; atom = atom }) ∷ [])
    → Moves event_law old new (Got at atom)
event_came old new at atom adds =
    moves event_collecting HasEvents old new (Got at atom) (λ base calls books has may.
    let event : EventAtom = record { at = at; atom = atom } in
    let what : MetricKey × EventAtom = (event_key, event) in
    let part : List (MetricKey × EventAtom) → Part (MetricKey × EventAtom) =
    λ came. record { start = books.start; end = at; came = came } in
    record {
      closed_all = refl;
      kept = subst (λ all. IsKept event_kind.weight all new.kept)
          (sym (closed_rows-push event_kind 1 books.closed (part (books.came ++ what ∷ []))
          ∙ ap (λ came. closed_rows event_kind 1 books ++ rows_of event_kind 1 (part (came ++ what ∷ [])))
          has.closed_all)) (adds (closed_rows event_kind 1 books) has.kept);
      none_dropped = ap (λ came. books.dropped + drops event_kind 1 came what) has.closed_all
          ∙ ap (λ n. n + 0) has.none_dropped;
      none_missing = has.none_missing;
    })

-- a condition changes nothing
pub event_learned : (it : EventProducer) (at : ℕ) (now : Unit {0}) → Moves event_law it it (Learned at now)
event_learned it at now =
    moves event_collecting HasEvents it it (Learned at now) (λ base calls books has may. has)

-- no end is crossed
pub event_crossed : (it : EventProducer) (crossings : Crossings) → Moves event_law it it (Crossed crossings)
event_crossed it crossings =
    moves event_collecting HasEvents it it (Crossed crossings)
    (λ base calls books has may. absurd (omega (arith, may.0.sized)))

-- no part is cut
pub event_cut : (it : EventProducer) (at : ℕ) → Moves event_law it it (CutAt at)
event_cut it at =
    moves event_collecting HasEvents it it (CutAt at)
    (λ base calls books has may. absurd (omega (arith, may.0.sized)))

-- what is kept was handed out
pub event_took : (old new : EventProducer)
    → ((weigh : Row (List Atom) → ℕ) → IsKept weigh [] new.kept)
    → Moves event_law old new Took
event_took old new kept = moves event_collecting HasEvents old new Took
    (λ base calls books has may. record {
      closed_all = has.closed_all;
      kept = kept event_kind.weight;
      none_dropped = refl;
      none_missing = refl;
    })
