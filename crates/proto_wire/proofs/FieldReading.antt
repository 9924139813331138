-- A field is read from after its tag where one stands, and only there, if so is the inside of a group.
use Rattle.std.proofs.Common.{◌≡◌, ℕ, ◌-◌, List, [], ◌++◌, length, take, Option, Ok, false, refl, sym, ap, ◌∙◌, arith, subst, append_assoc}
use Rattle.std.specs.Prelude.{nat_lt}
use Rattle.std.specs.Result.{IfOk}
use Rattle.std.specs.Option.{ok_or}
use Rattle.std.specs.Int.{Width, w32, w64, byte_len, from_le_bytes}
use Rattle.std.proofs.lemmas.Bool.{ltb-false, le-ltb}
use Rattle.std.proofs.lemmas.List.{take-append-drop, length-take-le, length-append}
use Rattle.std.proofs.Math.Seq.{take-append_seam, drop-append_seam}
use Rattle.proto_wire.specs.declared.tag.WireType.{WireType}
use Rattle.proto_wire.specs.declared.tag.WireType.TheVariants as wire
use Rattle.proto_wire.specs.Fields.{BodyOf, Varint, Fixed64, Bytes, Group, Fixed32, FieldOf}
use Rattle.proto_wire.specs.WireCauses.{cause_cut}
use Rattle.proto_wire.specs.WireReading.{fault_at, varint_at, taken_at, fixed_at, Inside, field_with}
use Rattle.proto_wire.specs.Grammar.{IsVarint, wire_type_for, IsCount, IsPayload}
use Rattle.sd_base.proofs.ReadsLemmas.{IfOk-bind, choice-holds}
use Rattle.proto_wire.proofs.VarintReading.{VarintRead, varint_at-read, varint_at-only}

-- so many bytes stand in front
record TakenRead (count : ℕ) (bytes : List ℕ) (read : List ℕ × List ℕ) : Type 0 where
  len : length read.0 ≡ count
  parts : bytes ≡ read.0 ++ read.1

taken_at-read : (at count : ℕ) (bytes : List ℕ) → IfOk (taken_at at count bytes) (TakenRead count bytes)
unfolding taken_at
taken_at-read at count bytes =
    choice-holds (λ (o : Option (List ℕ × List ℕ)). IfOk (ok_or o (fault_at at cause_cut)) (TakenRead count bytes))
    (nat_lt (length bytes) count) _ _ (λ _. tt) (λ enough.
    record { len = length-take-le count bytes (ltb-false _ _ enough); parts = sym (take-append-drop count bytes) })

taken_at-only : (at count : ℕ) (bytes after : List ℕ) → length bytes ≡ count
    → taken_at at count (bytes ++ after) ≡ Ok (bytes, after)
unfolding taken_at
taken_at-only at count bytes after len =
    let enough : nat_lt (length (bytes ++ after)) count ≡ false = le-ltb _ _ (omega (
      arith,
      length-append bytes after,
    )) in
    rw (enough, ← len, take-append_seam bytes after, drop-append_seam bytes after) refl

-- a number of this width stands in front
record FixedRead (width : Width) (bytes : List ℕ) (read : ℕ × List ℕ) : Type 0 where
  front : List ℕ
  len : length front ≡ byte_len width
  parts : bytes ≡ front ++ read.1
  value : read.0 ≡ from_le_bytes width front

fixed_at-read : (width : Width) (at : ℕ) (bytes : List ℕ) → IfOk (fixed_at width at bytes) (FixedRead width bytes)
fixed_at-read width at bytes =
    let size = byte_len width in
    choice-holds (λ (o : Option (ℕ × List ℕ)). IfOk (ok_or o (fault_at at cause_cut)) (FixedRead width bytes))
    (nat_lt (length bytes) size) _ _ (λ _. tt) (λ enough.
    record {
      front = take size bytes;
      len = length-take-le size bytes (ltb-false _ _ enough);
      parts = sym (take-append-drop size bytes);
      value = refl;
    })

fixed_at-only : (width : Width) (at : ℕ) (bytes after : List ℕ) → length bytes ≡ byte_len width
    → fixed_at width at (bytes ++ after) ≡ Ok (from_le_bytes width bytes, after)
fixed_at-only width at bytes after len =
    let enough : nat_lt (length (bytes ++ after)) (byte_len width) ≡ false = le-ltb _ _ (omega (
      arith,
      length-append bytes after,
    )) in
    rw (enough, ← len, take-append_seam bytes after, drop-append_seam bytes after) refl

-- the front is a group with this inside, and this is after it
pub record InsideRead (IsGroupOf : ℕ → List ℕ → List ℕ → Type 0) (number : ℕ) (bytes : List ℕ)
    (read : List ℕ × List ℕ) : Type 0 where
  pub payload : List ℕ
  pub parts : bytes ≡ payload ++ read.1
  pub group : IsGroupOf number (take (length bytes - length read.0) bytes) payload

-- what is read of the inside of groups are groups
abbrev pub ReadsGroups : (ℕ → List ℕ → List ℕ → Type 0) → Inside → Type 0
ReadsGroups IsGroupOf inside = (number at : ℕ) (bytes : List ℕ) → IfOk (inside number at bytes)
    (InsideRead IsGroupOf number bytes)

-- the front is such a field without its tag, and this is after it
pub record FieldRead (IsGroupOf : ℕ → List ℕ → List ℕ → Type 0) (end at number : ℕ) (wire_type : WireType)
    (bytes : List ℕ) (read : FieldOf × List ℕ) : Type 0 where
  pub count : List ℕ
  pub payload : List ℕ
  pub parts : bytes ≡ count ++ (payload ++ read.1)
  pub number_is : read.0.number ≡ number
  pub at_is : read.0.at ≡ at
  pub payload_at_is : read.0.payload_at ≡ end - length (payload ++ read.1)
  pub laid_out : wire_type_for read.0.body ≡ wire_type
  pub counted : IsCount count read.0.body
  pub filled : IsPayload IsGroupOf number payload read.0.body

module _ (IsGroupOf : ℕ → List ℕ → List ℕ → Type 0) (inside : Inside) where
  -- what is read is a field
  pub field_with-read : ReadsGroups IsGroupOf inside → (end at number : ℕ) (wire_type : WireType) (bytes : List ℕ)
      → IfOk (field_with inside end at number wire_type bytes) (FieldRead IsGroupOf end at number wire_type bytes)
  unfolding field_with
  field_with-read groups end at number wire.Varint bytes =
      IfOk-bind (varint_at at bytes) _ (VarintRead bytes) _ (varint_at-read at bytes) (λ value read.
      record {
        count = [];
        payload = read.front;
        parts = read.parts;
        number_is = refl;
        at_is = refl;
        payload_at_is = ap (λ l. end - length l) read.parts;
        laid_out = refl;
        counted = refl;
        filled = read.varint;
      })
  field_with-read groups end at number wire.Fixed64 bytes =
      IfOk-bind (fixed_at w64 at bytes) _ (FixedRead w64 bytes) _ (fixed_at-read w64 at bytes) (λ value read.
      record {
        count = [];
        payload = read.front;
        parts = read.parts;
        number_is = refl;
        at_is = refl;
        payload_at_is = ap (λ l. end - length l) read.parts;
        laid_out = refl;
        counted = refl;
        filled = (read.len, read.value);
      })
  field_with-read groups end at number wire.Bytes bytes =
      IfOk-bind (varint_at at bytes) _ (VarintRead bytes) _ (varint_at-read at bytes) (λ count read.
      IfOk-bind (taken_at at count.0 count.1) _ (TakenRead count.0 count.1) _ (taken_at-read at count.0 count.1)
      (λ taken told.
      record {
        count = read.front;
        payload = taken.0;
        parts = read.parts ∙ ap (λ l. read.front ++ l) told.parts;
        number_is = refl;
        at_is = refl;
        payload_at_is = ap (λ l. end - length l) told.parts;
        laid_out = refl;
        counted = subst (IsVarint read.front) (sym told.len) read.varint;
        filled = refl;
      }))
  field_with-read groups end at number wire.GroupStart bytes =
      IfOk-bind (inside number at bytes) _ (InsideRead IsGroupOf number bytes) _ (groups number at bytes) (λ ended read.
      record {
        count = [];
        payload = read.payload;
        parts = read.parts;
        number_is = refl;
        at_is = refl;
        payload_at_is = ap (λ l. end - length l) read.parts;
        laid_out = refl;
        counted = refl;
        filled = read.group;
      })
  field_with-read groups end at number wire.GroupEnd bytes = tt
  field_with-read groups end at number wire.Fixed32 bytes =
      IfOk-bind (fixed_at w32 at bytes) _ (FixedRead w32 bytes) _ (fixed_at-read w32 at bytes) (λ value read.
      record {
        count = [];
        payload = read.front;
        parts = read.parts;
        number_is = refl;
        at_is = refl;
        payload_at_is = ap (λ l. end - length l) read.parts;
        laid_out = refl;
        counted = refl;
        filled = (read.len, read.value);
      })

-- a group is read as one, whatever is after it
pub record InsideGiven (inside : Inside) (number at : ℕ) (body payload after : List ℕ) : Type 0 where
  pub last : List ℕ
  pub parts : payload ≡ body ++ last
  pub given : inside number at (payload ++ after) ≡ Ok (last ++ after, after)

-- each group is read as one
abbrev pub GivesGroups : (ℕ → List ℕ → List ℕ → Type 0) → Inside → Type 0
GivesGroups IsGroupOf inside = (number at : ℕ) (body payload after : List ℕ) → IsGroupOf number body payload
    → InsideGiven inside number at body payload after

-- what stands before the last part of a payload
before_last : (body last payload after : List ℕ) → payload ≡ body ++ last
    → take (length (payload ++ after) - length (last ++ after)) (payload ++ after) ≡ body
before_last body last payload after parts =
    let joined : payload ++ after ≡ body ++ (last ++ after) = ap (λ l. l ++ after) parts
    ∙ append_assoc body last after in
    let len : length (body ++ (last ++ after)) - length (last ++ after) ≡ length body = omega (
      arith,
      length-append body (last ++ after),
    ) in
    rw (joined, len) (take-append_seam body (last ++ after))

module _ (IsGroupOf : ℕ → List ℕ → List ℕ → Type 0) (inside : Inside) where
  -- and a field is read, whatever is after it
  pub field_with-only : GivesGroups IsGroupOf inside → (end at number : ℕ) (body : BodyOf)
      (count payload after : List ℕ)
      → IsCount count body → IsPayload IsGroupOf number payload body
      → field_with inside end at number (wire_type_for body) (count ++ (payload ++ after))
      ≡ Ok (record { number = number; at = at; payload_at = end - length (payload ++ after); body = body }, after)
  unfolding field_with
  field_with-only groups end at number (Varint value) count payload after counted filled =
      rw (counted, varint_at-only at value payload after filled) refl
  field_with-only groups end at number (Fixed64 value) count payload after counted filled =
      rw (counted, fixed_at-only w64 at payload after filled.0, ← filled.1) refl
  field_with-only groups end at number (Bytes bytes) count payload after counted filled =
      rw (
        filled,
        varint_at-only at (length bytes) count (bytes ++ after) counted,
        taken_at-only at
            (length bytes) bytes after refl,
      ) refl
  field_with-only groups end at number (Group body) count payload after counted filled =
      let read = groups number at body payload after filled in
      let body_is = before_last body read.last payload after read.parts in
      rw (counted, read.given, body_is) refl
  field_with-only groups end at number (Fixed32 value) count payload after counted filled =
      rw (counted, fixed_at-only w32 at payload after filled.0, ← filled.1) refl
