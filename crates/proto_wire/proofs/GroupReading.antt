-- A group is read where one stands, and only there.
use Rattle.std.proofs.Common.{◌≡◌, ℕ, zero, suc, ◌-◌, ◌<◌, ◌≤◌, List, [], ◌∷◌, ◌++◌, length, take, Result, Ok, Err, true, false, refl, sym, ap, ◌∙◌, arith, subst, append_assoc}
use Rattle.std.specs.Prelude.{◌==◌, if◌then◌else◌}
use Rattle.std.specs.List.{AllByRecursion, concat}
use Rattle.std.specs.Result.{IfOk}
use Rattle.std.proofs.lemmas.Bool.{eqb-true, ne_eqb, eq-eqb, and_parts, false≢true}
use Rattle.std.proofs.lemmas.Result.{IfOk-weaker}
use Rattle.std.proofs.lemmas.List.{length-append}
use Rattle.std.proofs.Math.Seq.{take-append_seam}
use Rattle.sd_base.specs.Reads.{◌>>=◌}
use Rattle.proto_wire.specs.declared.fault.WireFault.{WireFault}
use Rattle.proto_wire.specs.WireCauses.{cause_cut}
use Rattle.proto_wire.specs.declared.tag.Tag.{Tag}
use Rattle.proto_wire.specs.declared.tag.WireType.{WireType}
use Rattle.proto_wire.specs.declared.tag.WireType.TheVariants as wire
use Rattle.proto_wire.specs.Fields.{FieldOf}
use Rattle.proto_wire.specs.WireReading.{fault_at, tag_at, Inside, field_with, is_group_end, ends, until_end, group_at}
use Rattle.proto_wire.specs.Grammar.{IsTag, IsRecord, IsGroup}
use Rattle.sd_base.proofs.ReadsLemmas.{IfOk-bind, choice-holds, bind-agree, choice-agree}
use Rattle.proto_wire.proofs.TagReading.{TagRead, tag_at-read}
use Rattle.proto_wire.proofs.FieldReading.{InsideRead, ReadsGroups, FieldRead, field_with-read}

-- records stand in front, then the group's end, and this is after it
record EndRead (IsGroupOf : ℕ → List ℕ → List ℕ → Type 0) (number : ℕ) (bytes : List ℕ)
    (read : List ℕ × List ℕ) : Type 0 where
  records : List (List ℕ)
  last : List ℕ
  parts : bytes ≡ concat records ++ read.0
  end_parts : read.0 ≡ last ++ read.1
  each : AllByRecursion (IsRecord IsGroupOf) records
  ended : IsTag last number wire.GroupEnd

group_end_is : (wire_type : WireType) → is_group_end wire_type ≡ true → wire_type ≡ wire.GroupEnd
group_end_is wire.GroupEnd closes = refl
group_end_is wire.Varint closes = absurd (false≢true closes)
group_end_is wire.Fixed64 closes = absurd (false≢true closes)
group_end_is wire.Bytes closes = absurd (false≢true closes)
group_end_is wire.GroupStart closes = absurd (false≢true closes)
group_end_is wire.Fixed32 closes = absurd (false≢true closes)

-- a tag that ends the group
end_tag : (bytes : List ℕ) (number : ℕ) (tag : Tag) → ends number tag ≡ true → IsTag bytes tag.number tag.wire_type
    → IsTag bytes number wire.GroupEnd
end_tag bytes number tag closes tagged =
    let both = and_parts (is_group_end tag.wire_type) (tag.number == number) closes in
    subst (λ n. IsTag bytes n wire.GroupEnd) (eqb-true tag.number number both.1) (subst (IsTag bytes tag.number)
    (group_end_is tag.wire_type both.0) tagged)

regroup : (tag count payload records after : List ℕ) → tag ++ (count ++ (payload ++ (records ++ after))) ≡ ((tag ++
    (count ++ payload)) ++ records) ++ after
regroup tag count payload records after = simp append_assoc

module _ (IsGroupOf : ℕ → List ℕ → List ℕ → Type 0) (inside : Inside) (groups : ReadsGroups IsGroupOf inside)
    (end : ℕ) where
  -- one record, and then others
  one_more : (number at : ℕ) (bytes : List ℕ) (tag : Tag × List ℕ) (field : FieldOf × List ℕ) (read : List ℕ × List ℕ)
      → TagRead bytes tag → FieldRead IsGroupOf end at tag.0.number tag.0.wire_type tag.1 field
      → EndRead IsGroupOf number field.1 read
      → EndRead IsGroupOf number bytes read
  one_more number at bytes tag field read there body others =
      let piece : List ℕ = there.front ++ (body.count ++ body.payload) in
      record {
        records = piece ∷ others.records;
        last = others.last;
        parts = there.parts ∙ ap (λ l. there.front ++ l) (body.parts ∙ ap (λ l. body.count ++
            (body.payload ++ l)) others.parts)
            ∙ regroup there.front body.count body.payload (concat others.records) read.0;
        end_parts = others.end_parts;
        each = (
          record {
            number = tag.0.number;
            body = field.0.body;
            tag = there.front;
            count = body.count;
            payload = body.payload;
            parts = refl;
            laid_out = record {
              tagged = subst (IsTag there.front tag.0.number) (sym body.laid_out) there.tagged;
              counted = body.counted;
              filled = body.filled;
            };
          },
          others.each,
        );
        ended = others.ended;
      }

  -- what is read are records and the end
  until_end-read : (turns number at : ℕ) (bytes : List ℕ) → IfOk (until_end inside end turns number at bytes)
      (EndRead IsGroupOf number bytes)
  unfolding until_end
  until_end-read zero number at bytes = tt
  until_end-read (suc turns) number at bytes =
      let here : ℕ = end - length bytes in
      let P : Result (List ℕ × List ℕ) WireFault → Type 0 = λ r. IfOk r (EndRead IsGroupOf number bytes) in
      choice-holds P (length bytes == 0) _ _ (λ _. tt) (λ _.
      IfOk-bind (tag_at here bytes) _ (TagRead bytes) (EndRead IsGroupOf number bytes) (tag_at-read here bytes)
      (λ tag there.
      choice-holds P (ends number tag.0) _ _
      (λ closes. record {
        records = [];
        last = there.front;
        parts = refl;
        end_parts = there.parts;
        each = tt;
        ended = end_tag there.front number tag.0 closes there.tagged;
      })
      (λ _. IfOk-bind (field_with inside end here tag.0.number tag.0.wire_type tag.1) _
      (FieldRead IsGroupOf end here tag.0.number tag.0.wire_type tag.1) (EndRead IsGroupOf number bytes)
      (field_with-read IsGroupOf inside groups end here tag.0.number tag.0.wire_type tag.1) (λ field body.
      IfOk-weaker (until_end inside end turns number at field.1) (EndRead IsGroupOf number field.1)
      (EndRead IsGroupOf number bytes)
      (λ read others. one_more number here bytes tag field read there body others)
      (until_end-read turns number at field.1)))))

-- what stands before the end of a list
before : (front after bytes : List ℕ) → bytes ≡ front ++ after → take (length bytes - length after) bytes ≡ front
before front after bytes parts =
    let len : length (front ++ after) - length after ≡ length front = omega (arith, length-append front after) in
    rw (parts, len) (take-append_seam front after)

-- what is read of the inside of a group is a group
pub group_at-read : (end levels : ℕ) → ReadsGroups (IsGroup levels) (group_at end levels)
unfolding group_at
group_at-read end zero number at bytes = tt
group_at-read end (suc levels) number at bytes =
    IfOk-weaker (until_end (group_at end levels) end (length bytes) number at bytes) (EndRead
    (IsGroup levels) number bytes) (InsideRead (IsGroup (suc levels)) number bytes)
    (λ read told.
    let inside_is : take (length bytes - length read.0) bytes ≡ concat told.records = before
    (concat told.records) read.0 bytes told.parts in
    record {
      payload = concat told.records ++ told.last;
      parts = told.parts ∙ ap (λ l. concat told.records ++ l) told.end_parts
          ∙ sym (append_assoc (concat told.records) told.last read.1);
      group = record {
        records = told.records;
        last = told.last;
        joined = inside_is;
        parts = ap (λ l. l ++ told.last) (sym inside_is);
        each = told.each;
        ended = told.ended;
      };
    })
    (until_end-read (IsGroup levels) (group_at end levels) (group_at-read end levels) end
    (length bytes) number at bytes)

-- a field leaves less than there was before its tag
pub field-shorter : (IsGroupOf : ℕ → List ℕ → List ℕ → Type 0) (end at number : ℕ) (wire_type : WireType)
    (bytes : List ℕ) (tag : Tag × List ℕ) (field : FieldOf × List ℕ)
    → TagRead bytes tag → FieldRead IsGroupOf end at number wire_type tag.1 field → length field.1 < length bytes
field-shorter IsGroupOf end at number wire_type bytes tag field there body =
    omega (
      arith,
      there.tagged.spelled.some,
      ap length there.parts,
      length-append there.front tag.1,
      ap length body.parts,
      length-append body.count (body.payload ++ field.1),
      length-append body.payload field.1,
    )

module _ (IsGroupOf : ℕ → List ℕ → List ℕ → Type 0) (inside : Inside) (groups : ReadsGroups IsGroupOf inside)
    (end : ℕ) where
  -- turns enough are turns enough
  until_end_turns : (turns others number at : ℕ) (bytes : List ℕ) → length bytes ≤ turns → length bytes ≤ others
      → until_end inside end turns number at bytes ≡ until_end inside end others number at bytes
  unfolding until_end
  until_end_turns zero zero number at bytes enough also = refl
  until_end_turns zero (suc others) number at bytes enough also =
      let none : (length bytes == 0) ≡ true = eq-eqb _ _ (omega arith) in rw none refl
  until_end_turns (suc turns) zero number at bytes enough also =
      let none : (length bytes == 0) ≡ true = eq-eqb _ _ (omega arith) in rw none refl
  until_end_turns (suc turns) (suc others) number at bytes enough also =
      let here : ℕ = end - length bytes in
      choice-agree (length bytes == 0) _ _ _ _ (λ _. refl) (λ _.
      bind-agree (tag_at here bytes) _ _ (TagRead bytes) (tag_at-read here bytes) (λ tag there.
      choice-agree (ends number tag.0) _ _ _ _ (λ _. refl) (λ _.
      bind-agree (field_with inside end here tag.0.number tag.0.wire_type tag.1) _ _
      (FieldRead IsGroupOf end here tag.0.number tag.0.wire_type tag.1)
      (field_with-read IsGroupOf inside groups end here tag.0.number tag.0.wire_type tag.1) (λ field body.
      let less : length field.1 < length bytes = field-shorter IsGroupOf end here tag.0.number tag.0.wire_type bytes
      tag field there body in
      until_end_turns turns others number at field.1 (omega arith) (omega arith)))))

  in_turns : (turns number at : ℕ) (bytes : List ℕ) → length bytes ≡ suc turns
      → until_end inside end (suc turns) number at bytes
      ≡ (tag_at (end - length bytes) bytes >>= λ tag.
      if ends number tag.0 then Ok (bytes, tag.1)
      else (field_with inside end (end - length bytes) tag.0.number tag.0.wire_type tag.1 >>= λ field.
      until_end inside end (length field.1) number at field.1))
  unfolding until_end
  in_turns turns number at bytes len =
      let here : ℕ = end - length bytes in
      let some : (length bytes == 0) ≡ false = ne_eqb _ _ (λ none. absurd (omega (arith, none))) in
      rw some (bind-agree (tag_at here bytes) _ _ (TagRead bytes) (tag_at-read here bytes) (λ tag there.
      choice-agree (ends number tag.0) _ _ _ _ (λ _. refl) (λ _.
      bind-agree (field_with inside end here tag.0.number tag.0.wire_type tag.1) _ _
      (FieldRead IsGroupOf end here tag.0.number tag.0.wire_type tag.1)
      (field_with-read IsGroupOf inside groups end here tag.0.number tag.0.wire_type tag.1) (λ field body.
      let less : length field.1 < length bytes = field-shorter IsGroupOf end here tag.0.number tag.0.wire_type bytes
      tag field there body in
      until_end_turns turns (length field.1) number at field.1 (omega arith) (omega arith)))))

  -- one turn, where bytes are left
  pub until_end-some : (number at : ℕ) (bytes : List ℕ) → 0 < length bytes
      → until_end inside end (length bytes) number at bytes
      ≡ (tag_at (end - length bytes) bytes >>= λ tag.
      if ends number tag.0 then Ok (bytes, tag.1)
      else (field_with inside end (end - length bytes) tag.0.number tag.0.wire_type tag.1 >>= λ field.
      until_end inside end (length field.1) number at field.1))
  until_end-some number at bytes some =
      let len : length bytes ≡ suc (length bytes - 1) = omega arith in
      ap (λ n. until_end inside end n number at bytes) len ∙ in_turns (length bytes - 1) number at bytes len

-- the bytes end before the group's end
pub until_end-none : (inside : Inside) (end turns number at : ℕ) (bytes : List ℕ) → length bytes ≡ 0
    → until_end inside end turns number at bytes ≡ Err (fault_at at cause_cut)
unfolding until_end
until_end-none inside end zero number at bytes none = refl
until_end-none inside end (suc turns) number at bytes none = let is :
    (length bytes == 0) ≡ true = eq-eqb _ _ none in rw is refl

-- a group that may be open is read up to its end
pub group_at-open : (end levels number at : ℕ) (bytes : List ℕ) → 0 < levels
    → group_at end levels number at bytes ≡ until_end (group_at end (levels - 1)) end (length bytes) number at bytes
unfolding group_at
group_at-open end zero number at bytes some = absurd (omega arith)
group_at-open end (suc levels) number at bytes some = let is : suc levels - 1 ≡ levels = omega arith in rw is refl
