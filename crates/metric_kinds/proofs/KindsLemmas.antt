-- What one arrival more makes of a key's row: lemmas on the kinds of metric, for the proofs of their producers.
use Rattle.std.proofs.Common.{◌≡◌, ℕ, ℤ, ◌<◌, ◌≤◌, List, [], ◌∷◌, ◌++◌, take, length, refl, sym, ap, ◌∙◌, arith}
use Rattle.std.proofs.lemmas.List.{length-append, take_all, take-append-le}
use Rattle.std.proofs.lemmas.List.Sums.{fold-append}
use Rattle.atom_record.specs.declared.atom.Atom.{Atom}
use Rattle.bucket_meaning.specs.Rows.{drops, rows_of}
use Rattle.config_types.specs.declared.metric.Aggregation.{Aggregation}
use Rattle.metric_kinds.specs.Values.{joined, aggregate_of}
use Rattle.metric_kinds.specs.Events.{EventAtom, event_key, event_row, event_kind}

-- one integer alone is what it gives
pub aggregate_of-one : (aggregation : Aggregation) (integer : ℤ) → aggregate_of aggregation (integer ∷ []) ≡ integer
aggregate_of-one aggregation integer = refl

-- one integer more is joined to what the others give
pub aggregate_of-push : (aggregation : Aggregation) (first : ℤ) (more : List ℤ) (next : ℤ)
    → aggregate_of aggregation (first ∷ (more ++ next ∷ []))
    ≡ joined aggregation (aggregate_of aggregation (first ∷ more)) next
aggregate_of-push aggregation first more next = fold-append (joined aggregation) first more (next ∷ [])

-- a sample that comes while there is room is kept
pub samples-push : (samples : ℕ) (atoms : List Atom) (atom : Atom) → length atoms < samples
    → take samples (atoms ++ atom ∷ []) ≡ take samples atoms ++ atom ∷ []
samples-push samples atoms atom room =
    let fits : length (atoms ++ atom ∷ []) ≤ samples = omega (arith, length-append atoms (atom ∷ [])) in
    take_all samples (atoms ++ atom ∷ []) fits
    ∙ sym (ap (λ l. l ++ atom ∷ []) (take_all samples atoms (omega arith)))

-- and one that comes later is left out
pub samples-full : (samples : ℕ) (atoms : List Atom) (atom : Atom) → samples ≤ length atoms
    → take samples (atoms ++ atom ∷ []) ≡ take samples atoms
samples-full samples atoms atom full = take-append-le samples atoms (atom ∷ []) full

-- an event is never dropped: it is the first of its part, and one key has room
pub no_event_dropped : (event : EventAtom) → drops event_kind 1 [] (event_key, event) ≡ 0
no_event_dropped event = refl

-- a part of one event has its row, wherever the part begins
pub row_of_event : (start end : ℕ) (event : EventAtom)
    → rows_of event_kind 1 (record { start = start; end = end; came = (event_key, event) ∷ [] }) ≡ event_row event ∷ []
row_of_event start end event = refl
