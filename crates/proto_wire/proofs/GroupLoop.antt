-- The loop that reads a group: what is so while records are left.
use Rattle.std.proofs.Common.{◌≡◌, ℕ, ◌-◌, ◌<◌, List, length, Ok, Err, true, false, refl, sym, ◌∙◌}
use Rattle.std.specs.Prelude.{if◌then◌else◌}
use Rattle.sd_base.specs.Reads.{◌>>=◌}
use Rattle.proto_wire.specs.declared.fault.WireFault.{WireFault}
use Rattle.proto_wire.specs.WireCauses.{cause_cut}
use Rattle.proto_wire.specs.declared.tag.Tag.{Tag}
use Rattle.proto_wire.specs.Fields.{FieldOf}
use Rattle.proto_wire.specs.WireReading.{fault_at, tag_at, field_with, ends, until_end, group_at}
use Rattle.proto_wire.specs.Grammar.{IsGroup}
use Rattle.proto_wire.proofs.GroupReading.{group_at-read, until_end-some, until_end-none, group_at-open}

-- A group whose reading has come so far. Each fact says what the next step gives.
module _ (end levels number at : ℕ) (bytes rest : List ℕ) (open_still : 0 < levels)
    (leads : until_end (group_at end (levels - 1)) end (length rest) number at rest ≡ until_end (group_at end
    (levels - 1)) end (length bytes) number at bytes) where
  so_far : group_at end levels number at bytes ≡ until_end (group_at end (levels - 1)) end (length rest) number at rest
  so_far = group_at-open end levels number at bytes open_still ∙ sym leads

  step : 0 < length rest → until_end (group_at end (levels - 1)) end (length rest) number at rest
      ≡ (tag_at (end - length rest) rest >>= λ tag.
      if ends number tag.0 then Ok (rest, tag.1)
      else (field_with (group_at end (levels - 1)) end (end - length rest) tag.0.number tag.0.wire_type tag.1 >>= λ
      field.
      until_end (group_at end (levels - 1)) end (length field.1) number at field.1))
  step some = until_end-some (IsGroup (levels - 1)) (group_at end (levels - 1)) (group_at-read end
      (levels - 1)) end number at rest some

  pub bad_tag : (fault : WireFault) → 0 < length rest → tag_at (end - length rest) rest ≡ Err fault
      → group_at end levels number at bytes ≡ Err fault
  bad_tag fault some tag_is = so_far ∙ step some ∙ rw tag_is refl

  pub its_end : (tag : Tag) (after : List ℕ) → 0 < length rest → tag_at (end - length rest) rest ≡ Ok (
    tag,
    after,
  ) → ends number tag ≡ true
      → group_at end levels number at bytes ≡ Ok (rest, after)
  its_end tag after some tag_is closes = so_far ∙ step some ∙ rw (tag_is, closes) refl

  pub bad_field : (tag : Tag) (after : List ℕ) (fault : WireFault) → 0 < length rest
      → tag_at (end - length rest) rest ≡ Ok (tag, after) → ends number tag ≡ false
      → field_with (group_at end (levels - 1)) end (end - length rest) tag.number tag.wire_type after ≡ Err fault
      → group_at end levels number at bytes ≡ Err fault
  bad_field tag after fault some tag_is stays field_is = so_far ∙ step some ∙ rw (tag_is, stays, field_is) refl

  pub leads_on : (tag : Tag) (after left : List ℕ) (field : FieldOf) → 0 < length rest
      → tag_at (end - length rest) rest ≡ Ok (tag, after) → ends number tag ≡ false
      → field_with (group_at end (levels - 1)) end (end - length rest) tag.number tag.wire_type after ≡ Ok (
        field,
        left,
      )
      → until_end (group_at end (levels - 1)) end (length left) number at left ≡ until_end (group_at end
      (levels - 1)) end (length bytes) number at bytes
  leads_on tag after left field some tag_is stays field_is =
      let next : until_end (group_at end (levels - 1)) end (length rest) number at rest ≡ until_end (group_at end
      (levels - 1)) end (length left) number at left =
      step some ∙ rw (tag_is, stays, field_is) refl in
      sym next ∙ leads

  pub cut : length rest ≡ 0 → group_at end levels number at bytes ≡ Err (fault_at at cause_cut)
  cut none = so_far ∙ until_end-none (group_at end (levels - 1)) end (length rest) number at rest none
