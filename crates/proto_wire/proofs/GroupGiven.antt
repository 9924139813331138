-- A group is read where one stands, whatever is after it.
use Rattle.std.proofs.Common.{◌≡◌, ℕ, zero, suc, ◌+◌, ◌-◌, ◌<◌, ◌≤◌, List, [], ◌∷◌, ◌++◌, length, Ok, true, false, refl, ap, ◌∙◌, arith, append_assoc}
use Rattle.std.specs.Prelude.{◌==◌}
use Rattle.std.specs.List.{AllByRecursion, concat}
use Rattle.std.proofs.lemmas.Bool.{eq-eqb, ne_eqb}
use Rattle.std.proofs.lemmas.List.{length-append}
use Rattle.proto_wire.specs.declared.tag.Tag.{Tag}
use Rattle.proto_wire.specs.declared.tag.WireType.TheVariants as wire
use Rattle.proto_wire.specs.Fields.{BodyOf, Varint, Fixed64, Bytes, Group, Fixed32, FieldOf}
use Rattle.proto_wire.specs.WireReading.{tag_at, Inside, field_with, ends, until_end, group_at}
use Rattle.proto_wire.specs.Grammar.{wire_type_for, IsTag, IsRecord, IsGroup}
use Rattle.proto_wire.proofs.TagReading.{tag_at-only}
use Rattle.proto_wire.proofs.FieldReading.{GivesGroups, field_with-only}

-- no field's tag is the end of a group
no_end : (number other : ℕ) (body : BodyOf) → ends other (record {
  number = number;
  wire_type = wire_type_for body;
}) ≡ false
no_end number other (Varint value) = refl
no_end number other (Fixed64 value) = refl
no_end number other (Bytes bytes) = refl
no_end number other (Group bytes) = refl
no_end number other (Fixed32 value) = refl

regroup : (tag count payload records after : List ℕ) → ((tag ++ (count ++ payload)) ++ records) ++ after ≡ tag ++
    (count ++ (payload ++ (records ++ after)))
regroup tag count payload records after = simp append_assoc

module _ (IsGroupOf : ℕ → List ℕ → List ℕ → Type 0) (inside : Inside) (groups : GivesGroups IsGroupOf inside)
    (end : ℕ) where
  -- one turn over a field
  over_field : (turns number at : ℕ) (bytes : List ℕ) (tag : Tag) (after left : List ℕ) (field : FieldOf)
      → 0 < length bytes
      → tag_at (end - length bytes) bytes ≡ Ok (tag, after) → ends number tag ≡ false
      → field_with inside end (end - length bytes) tag.number tag.wire_type after ≡ Ok (field, left)
      → until_end inside end (suc turns) number at bytes ≡ until_end inside end turns number at left
  unfolding until_end
  over_field turns number at bytes tag after left field some tag_is stays field_is =
      let full : (length bytes == 0) ≡ false = ne_eqb _ _ (λ none. absurd (omega (arith, none))) in
      rw (full, tag_is, stays, field_is) refl

  -- one turn over the group's end
  at_end : (turns number at : ℕ) (bytes : List ℕ) (tag : Tag) (after : List ℕ) → 0 < length bytes
      → tag_at (end - length bytes) bytes ≡ Ok (tag, after) → ends number tag ≡ true
      → until_end inside end (suc turns) number at bytes ≡ Ok (bytes, after)
  unfolding until_end
  at_end turns number at bytes tag after some tag_is closes =
      let full : (length bytes == 0) ≡ false = ne_eqb _ _ (λ none. absurd (omega (arith, none))) in
      rw (full, tag_is, closes) refl

  until_end-only : (records : List (List ℕ)) (turns number at : ℕ) (last after : List ℕ)
      → AllByRecursion (IsRecord IsGroupOf) records → IsTag last number wire.GroupEnd
      → length (concat records ++ (last ++ after)) ≤ turns
      → until_end inside end turns number at (concat records ++ (last ++ after)) ≡ Ok (last ++ after, after)
  until_end-only [] zero number at last after each ended enough =
      absurd (omega (arith, ended.spelled.some, length-append last after))
  until_end-only (piece ∷ records) zero number at last after each ended enough =
      absurd (omega (
        arith,
        ended.spelled.some,
        length-append last after,
        length-append (piece ++ concat records)
            (last ++ after),
      ))
  until_end-only [] (suc turns) number at last after each ended enough =
      let closes : (number == number) ≡ true = eq-eqb number number refl in
      at_end turns number at (last ++ after) (record { number = number; wire_type = wire.GroupEnd }) after
      (omega (arith, ended.spelled.some, length-append last after))
      (tag_at-only (end - length (last ++ after)) number wire.GroupEnd last after ended) closes
  until_end-only (piece ∷ records) (suc turns) number at last after each ended enough =
      let one = each.0 in
      let left : List ℕ = concat records ++ (last ++ after) in
      let bytes : List ℕ = one.tag ++ (one.count ++ (one.payload ++ left)) in
      let parts : (piece ++ concat records) ++ (last ++ after) ≡ bytes =
      ap (λ l. (l ++ concat records) ++ (last ++ after)) one.parts ∙ regroup one.tag one.count one.payload
      (concat records) (last ++ after) in
      let tagged = one.laid_out.tagged in
      let long : length bytes ≡ length one.tag + (length one.count + (length one.payload + length left)) =
      omega (
        arith,
        length-append one.tag (one.count ++ (one.payload ++ left)),
        length-append one.count
            (one.payload ++ left),
        length-append one.payload left,
      ) in
      let some : 0 < length bytes = omega (arith, tagged.spelled.some) in
      let less : length left ≤ turns = omega (arith, tagged.spelled.some, enough, ap length parts) in
      ap (λ l. until_end inside end (suc turns) number at l) parts
      ∙ over_field turns number at bytes (record { number = one.number; wire_type = wire_type_for one.body })
      (one.count ++ (one.payload ++ left)) left _ some
      (tag_at-only (end - length bytes) one.number (wire_type_for one.body) one.tag (one.count ++
      (one.payload ++ left)) tagged)
      (no_end one.number number one.body)
      (field_with-only IsGroupOf inside groups end (end - length bytes) one.number one.body one.count one.payload left
      one.laid_out.counted one.laid_out.filled)
      ∙ until_end-only records turns number at last after each.1 ended less

-- each group is read as one
pub group_at-only : (end levels : ℕ) → GivesGroups (IsGroup levels) (group_at end levels)
unfolding group_at
group_at-only end zero number at body payload after group = absurd group
group_at-only end (suc levels) number at body payload after group =
    let parts : payload ++ after ≡ concat group.records ++ (group.last ++ after) =
    ap (λ l. l ++ after) (group.parts ∙ ap (λ l. l ++ group.last) group.joined)
    ∙ append_assoc (concat group.records) group.last after in
    let len : length (concat group.records ++ (group.last ++ after)) ≤ length (payload ++ after) = omega (
      arith,
      ap length parts,
    ) in
    record {
      last = group.last;
      parts = group.parts;
      given = ap (λ l. until_end (group_at end levels) end (length (payload ++ after)) number at l) parts
          ∙ until_end-only (IsGroup levels) (group_at end levels) (group_at-only end levels) end group.records (length
          (payload ++ after)) number at group.last after group.each group.ended len;
    }
