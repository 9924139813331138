-- The items of what is kept of inner keys and of spans.
use Rattle.std.specs.Prelude.{ℕ, ◌≤◌, List, [], ◌∷◌, length, Option, Some, None}
use Rattle.std.proofs.Common.{arith}
use Rattle.std.proofs.lemmas.List.Elements.{All-nil, All-cons}
use Rattle.flat_form.specs.declared.item.Item.{Item}
use Rattle.flat_form.specs.declared.item.Item.TheVariants.{Num}
use Rattle.flat_form.specs.Flat.{Anything, IsMissingOr, number_items, key_items, option_items}
use Rattle.flat_form.specs.Savable.{AreSavable, IsShortKey}
use Rattle.flat_form.specs.SavableLaws.{items_savable, number_savable, key_savable, option_savable}
use Rattle.flat_form.specs.Weight.{most_items}
use Rattle.predicate_state.specs.PredicateItems.{flag_number}
use Rattle.predicate_state.specs.declared.truth.Truth.{Truth}
use Rattle.predicate_state.specs.declared.truth.Truth.TheVariants.{False, Unknown, True}
use Rattle.duration_metric.specs.declared.inner.Known.{Known}
use Rattle.duration_metric.specs.declared.inner.Inner.{Inner}
use Rattle.duration_metric.specs.declared.sparse_keys.SparseEntry.{SparseEntry}
use Rattle.duration_metric.specs.declared.sum.Span.{Span}

-- the number of a truth that was told of an inner key
abbrev pub known_truth_number : Truth → ℕ
known_truth_number False = 0
known_truth_number Unknown = 1
known_truth_number True = 2

-- what was told of an inner key is the number of the truth, and the output key
abbrev pub known_items : Known → List Item
known_items known = Num (known_truth_number known.truth) ∷ key_items known.out

-- its output key fits its counts
abbrev pub IsSavableKnown : Known → Type 0
IsSavableKnown known = IsShortKey known.out

-- a head of three items
pub known_bounded : (known : Known) → Anything known → length (known_items known) ≤ most_items 3 0
known_bounded known valid = omega arith

-- it can be spelled where its key can
pub known_savable : (known : Known) → Anything known → IsSavableKnown known → AreSavable (known_items known)
known_savable known valid can =
    items_savable (Num (known_truth_number known.truth)) (key_items known.out) tt (key_savable known.out tt can)

-- any value that may be missing is missing, or any value
pub missing_or_any : {X : Type 0} (value : Option X) → IsMissingOr Anything value
missing_or_any None = All-nil Anything
missing_or_any (Some value) = All-cons Anything value [] tt (All-nil Anything)

-- what may have been told is one item, or four
few_known_items : (known : Option Known) → length (option_items known_items known) ≤ 4
few_known_items None = omega arith
few_known_items (Some known) = omega arith

-- an inner key is its count, whether it is in the tally, and what was told of it
abbrev pub inner_items : Inner → List Item
inner_items inner = Num inner.count ∷ Num (flag_number inner.tallied) ∷ option_items known_items inner.known

-- the output key that was told fits its counts
abbrev pub IsSavableInner : Inner → Type 0
IsSavableInner inner = IsMissingOr IsSavableKnown inner.known

-- a head of six items
pub inner_bounded : (inner : Inner) → Anything inner → length (inner_items inner) ≤ most_items 6 0
inner_bounded inner valid = omega (arith, few_known_items inner.known)

-- it can be spelled where its output key can
pub inner_savable : (inner : Inner) → Anything inner → IsSavableInner inner → AreSavable (inner_items inner)
inner_savable inner valid can =
    items_savable (Num inner.count) (Num (flag_number inner.tallied) ∷ option_items known_items inner.known) tt
    (items_savable (Num (flag_number inner.tallied)) (option_items known_items inner.known) tt
    (option_savable known_items Anything IsSavableKnown known_savable inner.known (missing_or_any inner.known) can))

-- an inner key with its time is three numbers, and what was told of it
abbrev pub entry_items : SparseEntry → List Item
entry_items entry = Num entry.count ∷ Num entry.time ∷ Num entry.since ∷ option_items known_items entry.known

-- the output key that was told fits its counts
abbrev pub IsSavableEntry : SparseEntry → Type 0
IsSavableEntry entry = IsMissingOr IsSavableKnown entry.known

-- a head of seven items
pub entry_bounded : (entry : SparseEntry) → Anything entry → length (entry_items entry) ≤ most_items 7 0
entry_bounded entry valid = omega (arith, few_known_items entry.known)

-- it can be spelled where its output key can
pub entry_savable : (entry : SparseEntry) → Anything entry → IsSavableEntry entry → AreSavable (entry_items entry)
entry_savable entry valid can =
    let known = option_savable known_items Anything IsSavableKnown known_savable entry.known
    (missing_or_any entry.known) can in
    let rest = option_items known_items entry.known in
    items_savable (Num entry.count) (Num entry.time ∷ Num entry.since ∷ rest) tt
    (items_savable (Num entry.time) (Num entry.since ∷ rest) tt (items_savable (Num entry.since) rest tt known))

-- a span is its sum, and where it began again
abbrev pub span_items : Span → List Item
span_items span = Num span.sum ∷ option_items number_items span.since

few_since_items : (since : Option ℕ) → length (option_items number_items since) ≤ 2
few_since_items None = omega arith
few_since_items (Some at) = omega arith

-- a head of three items
pub span_bounded : (span : Span) → Anything span → length (span_items span) ≤ most_items 3 0
span_bounded span valid = omega (arith, few_since_items span.since)

-- any span can be spelled
pub span_savable : (span : Span) → Anything span → Anything span → AreSavable (span_items span)
span_savable span valid can =
    items_savable (Num span.sum) (option_items number_items span.since) tt
    (option_savable number_items Anything Anything number_savable span.since (missing_or_any span.since)
    (missing_or_any span.since))
