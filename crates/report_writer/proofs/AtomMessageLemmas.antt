-- On the message of an atom, for `atom_msg` and what it calls: how a message grows, and which numbers the fields have.
use Rattle.std.proofs.Common.{◌≡◌, ℕ, zero, suc, ◌≤◌, true, false, List, [], ◌∷◌, ◌++◌, get_or, Option, Some, sym, ap, ◌∙◌, append_assoc, inl, inr, arith}
use Rattle.std.specs.Prelude.{All, AllPairs, if◌then◌else◌}
use Rattle.std.proofs.lemmas.Grind.{common_steps}
use Rattle.std.proofs.lemmas.List.Elements.{All-cons}
use Rattle.std.proofs.lemmas.List.Kept.{AllPairs-cons}
use Rattle.atom_record.specs.declared.atom.AtomField.{AtomField}
use Rattle.atom_record.specs.AtomSound.{IsBelow}
use Rattle.report_writer.specs.declared.tree.Part.{Part}
use Rattle.report_writer.specs.AtomMessage.{is_beside, goes_on, sub_field, fields_beside, as_field_number, part_at, parts_after, NeverFall}
use Rattle.report_writer.specs.Writable.{IsFieldNumber, AreNumbered}

-- an entry of the same message stands in front of the others
pub fields_beside-more : (first entry : AtomField) (after : List AtomField)
    → is_beside first entry ≡ true
    → fields_beside first (entry ∷ after) ≡ sub_field entry ++ fields_beside first after
fields_beside-more first entry after beside = grind (arith, common_steps, beside)

-- what holds of all but the first holds of the rest
tail_all : {X : Type 0} (P : X → Type 0) (x : X) (xs : List X) → All P (x ∷ xs) → All P xs
tail_all P x xs all = λ k d below. all (suc k) d (omega arith)

-- likewise of two
tail_pairs : {X : Type 0} (R : X → X → Type 0) (x : X) (xs : List X) → AllPairs R (x ∷ xs) → AllPairs R xs
tail_pairs R x xs all = λ i j d before below. all (suc i) (suc j) d (omega arith) (omega arith)

-- the first stands before each other
head_pairs : {X : Type 0} (R : X → X → Type 0) (x : X) (xs : List X) → AllPairs R (x ∷ xs) → All (R x) xs
head_pairs R x xs all = λ k d below. all zero (suc k) d (omega arith) (omega arith)

-- each field has the number of an entry, as one that a field may have
parts_from_entries : (P : ℕ → Type 0) (before : Option AtomField) (entries : List AtomField)
    → All (λ (entry : AtomField). P (as_field_number entry.field)) entries
    → All (λ (part : Part). P part.number) (parts_after before entries)
parts_from_entries P before [] all = λ k d below. absurd (omega arith)
parts_from_entries P before (entry ∷ after) all =
    let others = parts_from_entries P (Some entry) after
    (tail_all (λ (e : AtomField). P (as_field_number e.field)) entry after all) in
    elim (goes_on before entry) as (λ joins. All (λ (part : Part). P part.number)
    (if joins then parts_after (Some entry) after else part_at entry after ∷ parts_after (Some entry) after)) [
      | true ↦ others
      | false ↦ All-cons (λ (part : Part). P part.number) (part_at entry after) (parts_after (Some entry) after)
          (all zero entry (omega arith)) others
    ]

-- a field may have a number that was made one
pub is_field_number : (number : ℕ) → IsFieldNumber (as_field_number number)
is_field_number number = (omega arith, omega arith)

-- each field has a number that a field may have
pub parts_numbered : (before : Option AtomField) (entries : List AtomField)
    → AreNumbered (parts_after before entries)
parts_numbered before entries =
    parts_from_entries IsFieldNumber before entries (λ k d below. is_field_number (get_or entries k d).field)

-- a greater number is no less, where both are made numbers of fields
numbers_rise : (number greater : ℕ) → number ≤ greater → as_field_number number ≤ as_field_number greater
numbers_rise number greater below = omega (arith, below)

-- an entry below another has no greater field
below_field : (entry above : AtomField) → IsBelow entry above
    → as_field_number entry.field ≤ as_field_number above.field
below_field entry above (inl field) = numbers_rise entry.field above.field (omega arith)
below_field entry above (inr (field, _)) = numbers_rise entry.field above.field (omega arith)

-- the numbers of the fields never fall
pub parts_never_fall : (before : Option AtomField) (entries : List AtomField)
    → AllPairs IsBelow entries
    → NeverFall (parts_after before entries)
parts_never_fall before [] all = λ i j d before below. absurd (omega arith)
parts_never_fall before (entry ∷ after) all =
    let R : Part → Part → Type 0 = λ part later. part.number ≤ later.number in
    let others = parts_never_fall (Some entry) after (tail_pairs IsBelow entry after all) in
    let above = parts_from_entries (λ number. as_field_number entry.field ≤ number) (Some entry) after
    (λ k d below. below_field entry (get_or after k d) (head_pairs IsBelow entry after all k d below)) in
    elim (goes_on before entry) as (λ joins. NeverFall
    (if joins then parts_after (Some entry) after else part_at entry after ∷ parts_after (Some entry) after)) [
      | true ↦ others
      | false ↦ AllPairs-cons R (part_at entry after) (parts_after (Some entry) after) above others
    ]

-- an entry was added to what a message has, so that less of the message is left
pub beside_step : (old out put : List ℕ) (first entry : AtomField) (rest others all : List AtomField)
    → out ++ fields_beside first rest ≡ old ++ fields_beside first all
    → rest ≡ entry ∷ others
    → is_beside first entry ≡ true
    → put ≡ out ++ sub_field entry
    → put ++ fields_beside first others ≡ old ++ fields_beside first all
beside_step old out put first entry rest others all was splits beside added =
    let more = fields_beside-more first entry others beside in
    ap (λ bytes. bytes ++ fields_beside first others) added
    ∙ append_assoc out (sub_field entry) (fields_beside first others)
    ∙ ap (λ bytes. out ++ bytes) (sym more)
    ∙ ap (λ left. out ++ fields_beside first left) (sym splits)
    ∙ was
