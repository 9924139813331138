-- The field in front of what is left is read where one stands, and only there; and a walk goes from field to field.
use Rattle.std.proofs.Common.{◌≡◌, ℕ, zero, suc, ◌+◌, ◌-◌, ◌<◌, ◌≤◌, List, ◌++◌, length, None, Result, Ok, Err, true, false, refl, sym, ap, ◌∙◌, arith, subst}
use Rattle.std.specs.Prelude.{◌==◌}
use Rattle.std.specs.Result.{IfOk}
use Rattle.std.proofs.lemmas.Bool.{ne_eqb, eq-eqb}
use Rattle.std.proofs.lemmas.List.{length-append}
use Rattle.proto_wire.specs.declared.fault.WireFault.{WireFault}
use Rattle.proto_wire.specs.declared.tag.Tag.{Tag}
use Rattle.proto_wire.specs.Fields.{BodyOf, Varint, Fixed64, Bytes, Group, Fixed32, FieldOf, Rest, inside_of}
use Rattle.proto_wire.specs.WireCauses.{most_depth}
use Rattle.proto_wire.specs.WireReading.{tag_at, field_with, group_at, field_at, Walk, with_field, walk_end, walk_on, walk_turns, walk_from}
use Rattle.proto_wire.specs.Grammar.{IsPayload, IsLaidOut, IsGroup, StartsWith, wire_type_for, IsTag}
use Rattle.sd_base.proofs.ReadsLemmas.{IfOk-bind, choice-agree}
use Rattle.proto_wire.proofs.TagReading.{TagRead, tag_at-read, tag_at-only}
use Rattle.proto_wire.proofs.FieldReading.{FieldRead, field_with-read, field_with-only}
use Rattle.proto_wire.proofs.GroupReading.{group_at-read}
use Rattle.proto_wire.proofs.GroupGiven.{group_at-only}

-- a tag and what is after it are the field in front
starts : (rest : Rest) (tag : Tag × List ℕ) (field : FieldOf × List ℕ) → TagRead rest.bytes tag
    → FieldRead (IsGroup (most_depth - rest.depth)) (rest.at + length rest.bytes) rest.at tag.0.number tag.0.wire_type
    tag.1 field
    → StartsWith rest field.0 (record {
      bytes = field.1;
      at = rest.at + length rest.bytes - length field.1;
      depth = rest.depth;
    })
starts rest tag field there body =
    let long : length rest.bytes ≡ length there.front + (length body.count + (length body.payload + length field.1)) =
    omega (
      arith,
      ap length there.parts,
      length-append there.front tag.1,
      ap length body.parts,
      length-append body.count
          (body.payload ++ field.1),
      length-append body.payload field.1,
    ) in
    let at_is : rest.at + length rest.bytes - length field.1 ≡ rest.at + length there.front + length body.count + length
    body.payload = omega arith in
    record {
      tag = there.front;
      count = body.count;
      payload = body.payload;
      parts = there.parts ∙ ap (λ l. there.front ++ l) body.parts;
      laid_out = record {
        tagged = subst (λ n. IsTag there.front n (wire_type_for field.0.body)) (sym body.number_is) (subst
            (IsTag there.front tag.0.number) (sym body.laid_out) there.tagged);
        counted = body.counted;
        filled = subst (λ n. IsPayload (IsGroup (most_depth - rest.depth)) n body.payload field.0.body)
            (sym body.number_is) body.filled;
      };
      at = body.at_is;
      payload_at = body.payload_at_is ∙ omega (arith, length-append body.payload field.1);
      moved = ap (λ (n : ℕ). let moved : Rest = record { bytes = field.1; at = n; depth = rest.depth } in moved) at_is;
    }

-- what is read is the field in front
pub field_at-read : (rest : Rest) → IfOk (field_at rest) (λ read. StartsWith rest read.0 read.1)
unfolding field_at
field_at-read rest =
    let end : ℕ = rest.at + length rest.bytes in
    IfOk-bind (tag_at rest.at rest.bytes) _ (TagRead rest.bytes) (λ read. StartsWith rest read.0 read.1)
    (tag_at-read rest.at rest.bytes) (λ tag there.
    IfOk-bind (field_with (group_at end (most_depth - rest.depth)) end rest.at tag.0.number tag.0.wire_type tag.1) _
    (FieldRead (IsGroup (most_depth - rest.depth)) end rest.at tag.0.number tag.0.wire_type tag.1)
    (λ read. StartsWith rest read.0 read.1)
    (field_with-read (IsGroup (most_depth - rest.depth)) (group_at end (most_depth - rest.depth)) (group_at-read end
    (most_depth - rest.depth)) end rest.at tag.0.number tag.0.wire_type tag.1)
    (λ field body. starts rest tag field there body))

-- a field laid out so is read so
laid_out-read : (at depth number : ℕ) (body : BodyOf) (tag count payload left : List ℕ)
    → IsLaidOut (IsGroup (most_depth - depth)) number body tag count payload
    → (bytes : List ℕ) → bytes ≡ tag ++ (count ++ (payload ++ left))
    → (payload_at next : ℕ) → payload_at ≡ at + length tag + length count
    → next ≡ at + length tag + length count + length payload
    → field_at (record { bytes = bytes; at = at; depth = depth })
    ≡ Ok (
      record { number = number; at = at; payload_at = payload_at; body = body },
      record {
        bytes = left;
        at = next;
        depth = depth;
      },
    )
unfolding field_at
laid_out-read at depth number body tag count payload left laid_out bytes parts payload_at next payload_at_is next_is =
    let end : ℕ = at + length bytes in
    let long : length bytes ≡ length tag + (length count + (length payload + length left)) =
    omega (
      arith,
      ap length parts,
      length-append tag (count ++ (payload ++ left)),
      length-append count
          (payload ++ left),
      length-append payload left,
    ) in
    let tag_is : tag_at at bytes ≡ Ok (
      record { number = number; wire_type = wire_type_for body },
      count ++
          (payload ++ left),
    ) =
    ap (λ l. tag_at at l) parts ∙ tag_at-only at number (wire_type_for body) tag (count ++
    (payload ++ left)) laid_out.tagged in
    let field_is = field_with-only (IsGroup (most_depth - depth)) (group_at end (most_depth - depth)) (group_at-only end
    (most_depth - depth)) end at number body count payload left laid_out.counted laid_out.filled in
    let payload_place : end - length (payload ++ left) ≡ payload_at = omega (arith, length-append payload left) in
    let next_place : end - length left ≡ next = omega arith in
    rw (tag_is, field_is, payload_place, next_place) refl

-- and the field in front is read
pub field_at-only : (rest : Rest) (field : FieldOf) (new : Rest) → StartsWith rest field new
    → field_at rest ≡ Ok (field, new)
field_at-only rest field new stands =
    let read = laid_out-read rest.at rest.depth field.number field.body stands.tag stands.count stands.payload
    new.bytes stands.laid_out rest.bytes stands.parts
    field.payload_at (rest.at + length stands.tag + length stands.count + length stands.payload) stands.payload_at refl
    in
    read
    ∙ ap (λ (n : ℕ). let it : FieldOf = record {
      number = field.number;
      at = n;
      payload_at = field.payload_at;
      body = field.body;
    } in
    let left : Rest = record {
      bytes = new.bytes;
      at = rest.at + length stands.tag + length stands.count + length
          stands.payload;
      depth = rest.depth;
    } in
    let both : Result (FieldOf × Rest) WireFault = Ok (it, left) in both) (sym stands.at)
    ∙ ap (λ (left : Rest). let both : Result (FieldOf × Rest) WireFault = Ok (field, left) in both) (sym stands.moved)

pub shorter : (rest : Rest) (field : FieldOf) (new : Rest) → StartsWith rest field new
    → length new.bytes < length rest.bytes
shorter rest field new stands =
    omega (
      arith,
      stands.laid_out.tagged.spelled.some,
      ap length stands.parts,
      length-append stands.tag (stands.count ++ (stands.payload ++ new.bytes)),
      length-append stands.count (stands.payload ++ new.bytes),
      length-append stands.payload new.bytes,
    )

inside-short : (levels number : ℕ) (payload : List ℕ) (body : BodyOf) → IsPayload
    (IsGroup levels) number payload body → length (inside_of body) ≤ length payload
inside-short levels number payload (Varint value) filled = omega arith
inside-short levels number payload (Fixed64 value) filled = omega arith
inside-short levels number payload (Bytes bytes) filled = omega (arith, ap length filled)
inside-short zero number payload (Group bytes) filled = absurd filled
inside-short (suc levels) number payload (Group bytes) filled = omega (
  arith,
  ap length filled.parts,
  length-append bytes filled.last,
)
inside-short levels number payload (Fixed32 value) filled = omega arith

-- no part of a field is past the end of what was left
pub within : (rest : Rest) (field : FieldOf) (new : Rest) → StartsWith rest field new
    → field.payload_at + length (inside_of field.body) ≤ rest.at + length rest.bytes
within rest field new stands =
    let short = inside-short (most_depth - rest.depth) field.number stands.payload field.body stands.laid_out.filled in
    omega (
      arith,
      short,
      stands.payload_at,
      ap length stands.parts,
      length-append stands.tag (stands.count ++ (stands.payload ++ new.bytes)),
      length-append stands.count (stands.payload ++ new.bytes),
      length-append stands.payload new.bytes,
    )

walk_on-agree : (read : Result (FieldOf × Rest) WireFault) (after other : Rest → Walk) (P : FieldOf × Rest → Type 0)
    → IfOk read P
    → ((field : FieldOf × Rest) → P field → after field.1 ≡ other field.1) → walk_on after read ≡ walk_on other read
walk_on-agree (Ok field) after other P told same = ap (λ walk. with_field field.0 walk) (same field told)
walk_on-agree (Err fault) after other P told same = refl

-- turns enough are turns enough
walk_turns_turns : (turns others : ℕ) (rest : Rest) → length rest.bytes ≤ turns → length rest.bytes ≤ others
    → walk_turns turns rest ≡ walk_turns others rest
unfolding walk_turns
walk_turns_turns zero zero rest enough also = refl
walk_turns_turns zero (suc others) rest enough also = let none : (length rest.bytes == 0) ≡ true = eq-eqb _ _
    (omega arith) in rw none refl
walk_turns_turns (suc turns) zero rest enough also = let none : (length rest.bytes == 0) ≡ true = eq-eqb _ _
    (omega arith) in rw none refl
walk_turns_turns (suc turns) (suc others) rest enough also =
    choice-agree (length rest.bytes == 0) _ _ _ _ (λ _. refl) (λ _.
    walk_on-agree (field_at rest) (walk_turns turns) (walk_turns others) (λ read. StartsWith rest read.0 read.1)
    (field_at-read rest) (λ field stands.
    let less = shorter rest field.0 field.1 stands in
    walk_turns_turns turns others field.1 (omega (arith, less)) (omega (arith, less))))

walk-in_turns : (turns : ℕ) (rest : Rest) → length rest.bytes ≡ suc turns
    → walk_turns (suc turns) rest ≡ walk_on walk_from (field_at rest)
unfolding walk_turns walk_from
walk-in_turns turns rest len =
    let full : (length rest.bytes == 0) ≡ false = ne_eqb _ _ (λ none. absurd (omega (arith, none))) in
    rw full (walk_on-agree (field_at rest) (walk_turns turns) walk_from (λ read. StartsWith rest read.0 read.1)
    (field_at-read rest) (λ field stands.
    let less = shorter rest field.0 field.1 stands in
    walk_turns_turns turns (length field.1.bytes) field.1 (omega (arith, less)) (omega arith)))

-- a walk where bytes are left
pub walk_from-some : (rest : Rest) → 0 < length rest.bytes → walk_from rest ≡ walk_on walk_from (field_at rest)
unfolding walk_from
walk_from-some rest some =
    let len : length rest.bytes ≡ suc (length rest.bytes - 1) = omega arith in
    ap (λ n. walk_turns n rest) len ∙ walk-in_turns (length rest.bytes - 1) rest len

-- a walk at the end
pub walk_from-none : (rest : Rest) → length rest.bytes ≡ 0 → walk_from rest ≡ walk_end None
unfolding walk_from walk_turns
walk_from-none rest none = rw none refl
