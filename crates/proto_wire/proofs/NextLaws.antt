-- What a call of `next` gives, by what the definition reads.
use Rattle.std.proofs.Common.{◌≡◌, ℕ, ◌+◌, ◌-◌, ◌<◌, ◌≤◌, ◌^◌, List, ◌++◌, ◌↔◌, length, None, Some, Ok, Err, sym, ap, ◌∙◌, arith, subst}
use Rattle.std.proofs.lemmas.Result.{IfOk-at_ok}
use Rattle.proto_wire.specs.declared.fault.WireFault.{WireFault}
use Rattle.proto_wire.specs.Fields.{FieldOf, Rest, StepsOver}
use Rattle.proto_wire.specs.WireReading.{rest_with, field_at, with_field, walk_end, walk_on, walk_from}
use Rattle.proto_wire.specs.Grammar.{StartsWith, Written, spelling, written_number, written_body, IsWritable}
use Rattle.proto_wire.proofs.RestReading.{field_at-read, field_at-only, shorter, within, walk_from-some, walk_from-none}
use Rattle.proto_wire.proofs.WrittenReading.{field_there, written-starts}

module _ (old : Rest) where
  -- a field that was read
  module _ (field : FieldOf) (new : Rest) (is : field_at old ≡ Ok (field, new)) where
    pub field-starts : StartsWith old field new
    field-starts = IfOk-at_ok (λ read. StartsWith old read.0 read.1) is (field_at-read old)

    pub only-field : (other : FieldOf) (left : Rest) → StartsWith old other left → (field ≡ other) × (new ≡ left)
    only-field other left stands =
        let same = sym is ∙ field_at-only old other left stands in
        let read : FieldOf × Rest = (field, new) in
        let stood : FieldOf × Rest = (other, left) in
        let both : read ≡ stood = cc same in
        (ap (λ (p : FieldOf × Rest). p.0) both, ap (λ (p : FieldOf × Rest). p.1) both)

    pub field-exactly : (other : FieldOf) (left : Rest) → StartsWith old other left ↔ ((field ≡ other) × (new ≡ left))
    field-exactly other left = (
      only-field other left,
      λ same. subst (StartsWith old other) same.1 (subst (λ
          (f : FieldOf). StartsWith old f new) same.0 field-starts),
    )

    pub field-written : (written : Written) (after : List ℕ) → IsWritable written
        → old.bytes ≡ spelling written ++ after
        → (field.number ≡ written_number written) × (field.body ≡ written_body written) × (new.bytes ≡ after)
    field-written written after writable parts =
        let there = written-starts old written after writable parts in
        let same = only-field (field_there old written there.0) (record {
          bytes = after;
          at = there.1;
          depth = old.depth;
        }) there.2 in
        (ap (λ (f : FieldOf). f.number) same.0, ap (λ (f : FieldOf). f.body) same.0, ap (λ (r : Rest). r.bytes) same.1)

    pub field-walk : 0 < length old.bytes → walk_from old ≡ with_field field (walk_from new)
    field-walk some = walk_from-some old some ∙ ap (walk_on walk_from) is

    pub field-shorter : length new.bytes < length old.bytes
    field-shorter = shorter old field new field-starts

    pub field-step : old.at + length old.bytes < 2 ^ 32 → StepsOver old field new
    field-step fits = let inside = within old field new field-starts in record {
      shorter = field-shorter;
      within = omega (arith, inside);
    }

  -- a fault that was met
  module _ (fault : WireFault) (is : field_at old ≡ Err fault) where
    pub fault-none : (field : FieldOf) (new : Rest) → StartsWith old field new → ⊥
    fault-none field new stands = let both = sym is ∙ field_at-only old field new stands in cc both

    pub fault-exactly : (field : FieldOf) (new : Rest) → StartsWith old field new ↔ ⊥
    fault-exactly field new = (fault-none field new, λ no. absurd no)

    pub fault-unwritten : (written : Written) (after : List ℕ) → IsWritable written
        → old.bytes ≡ spelling written ++ after → ⊥
    fault-unwritten written after writable parts = let there = written-starts old written after writable parts in
        fault-none _ _ there.2

    pub fault-walk : 0 < length old.bytes → walk_from old ≡ walk_end (Some fault)
    fault-walk some = walk_from-some old some ∙ ap (walk_on walk_from) is

  -- the end
  module _ (none : length old.bytes ≡ 0) where
    pub end-none : (field : FieldOf) (new : Rest) → StartsWith old field new → ⊥
    end-none field new stands = let less = shorter old field new stands in omega (arith, less)

    pub end-unwritten : (written : Written) (after : List ℕ) → IsWritable written
        → old.bytes ≡ spelling written ++ after → ⊥
    end-unwritten written after writable parts = let there = written-starts old written after writable parts in
        end-none _ _ there.2

    pub end-walk : walk_from old ≡ walk_end None
    end-walk = walk_from-none old none

-- the reader's parts, seen as what is left
abbrev pub left_of : ℕ → ℕ → List ℕ → Rest
left_of end depth bytes = record { bytes = bytes; at = end - length bytes; depth = depth }

-- what was read, by the parts of the reader before and after
pub parts-read : (end depth : ℕ) (bytes after : List ℕ) (old : Rest) (field : FieldOf)
    → left_of end depth bytes ≡ old → length bytes ≤ end → field_at old ≡ Ok (field, rest_with old after)
    → field_at old ≡ Ok (field, left_of end depth after)
parts-read end depth bytes after old field is fits read =
    let less : length after < length old.bytes = field-shorter old field (rest_with old after) read in
    let len : length bytes ≡ length old.bytes = ap (λ (r : Rest). length r.bytes) is in
    let at_is : end - length bytes ≡ old.at = ap (λ (r : Rest). r.at) is in
    let depth_is : depth ≡ old.depth = ap (λ (r : Rest). r.depth) is in
    let place : end - length after ≡ old.at + length old.bytes - length after = omega arith in
    let moved : left_of end depth after ≡ rest_with old after =
    ap (λ (n : ℕ). let left : Rest = record { bytes = after; at = n; depth = depth } in left) place
    ∙ ap (λ (n : ℕ). let left : Rest = record {
      bytes = after;
      at = old.at + length old.bytes - length after;
      depth = n;
    } in left) depth_is in
    subst (λ (left : Rest). field_at old ≡ Ok (field, left)) (sym moved) read
