-- A tag is read where one stands, and only there.
use Rattle.std.proofs.Common.{◌≡◌, ℕ, ◌+◌, ◌-◌, ◌*◌, ◌/◌, ◌%◌, ◌^◌, ◌<◌, ◌≤◌, List, ◌++◌, Option, None, Some, Result, Ok, false, refl, arith, subst, lit<}
use Rattle.std.specs.Prelude.{nat_lt, ◌==◌, IfSome}
use Rattle.std.specs.Result.{IfOk}
use Rattle.std.proofs.lemmas.Bool.{ltb-false, le-ltb, eqb-true, eqb-false, ne_eqb}
use Rattle.proto_wire.specs.declared.fault.WireFault.{WireFault}
use Rattle.proto_wire.specs.declared.tag.Tag.{Tag}
use Rattle.proto_wire.specs.declared.tag.WireType.{WireType}
use Rattle.proto_wire.specs.declared.tag.WireType.TheVariants as wire
use Rattle.proto_wire.specs.WireTypes.{code_of, wire_type_of}
use Rattle.proto_wire.specs.WireReading.{varint_at, tag_with, tag_of, tag_at}
use Rattle.proto_wire.specs.Grammar.{IsVarint, IsTag}
use Rattle.sd_base.proofs.ReadsLemmas.{IfOk-bind, choice-holds}
use Rattle.proto_wire.proofs.VarintReading.{VarintRead, varint_at-read, varint_at-only}

-- the value of a tag is made of these
record TagOf (value : ℕ) (tag : Tag) : Type 0 where
  is : value ≡ tag.number * 8 + code_of tag.wire_type
  named : 1 ≤ tag.number
  fits : tag.number < 2 ^ 29

-- the front is such a tag, and this is after it
pub record TagRead (bytes : List ℕ) (read : Tag × List ℕ) : Type 0 where
  pub front : List ℕ
  pub parts : bytes ≡ front ++ read.1
  pub tagged : IsTag front read.0.number read.0.wire_type

wire_type_of-code : (code : ℕ) → IfSome (wire_type_of code) (λ wire_type. code ≡ code_of wire_type)
wire_type_of-code code =
    let P : Option WireType → Type 0 = λ o. IfSome o (λ wire_type. code ≡ code_of wire_type) in
    choice-holds P (code == 0) _ _ (eqb-true code 0) (λ _.
    choice-holds P (code == 1) _ _ (eqb-true code 1) (λ _.
    choice-holds P (code == 2) _ _ (eqb-true code 2) (λ _.
    choice-holds P (code == 3) _ _ (eqb-true code 3) (λ _.
    choice-holds P (code == 4) _ _ (eqb-true code 4) (λ _.
    choice-holds P (code == 5) _ _ (eqb-true code 5) (λ _. tt))))))

tag_with-read : (at value : ℕ) (o : Option WireType) → IfSome o (λ wire_type. value % 8 ≡ code_of wire_type)
    → 1 ≤ value / 8 → value < 2 ^ 32
    → IfOk (tag_with at (value / 8) o) (TagOf value)
tag_with-read at value None code named fits = tt
tag_with-read at value (Some wire_type) code named fits = record {
  is = omega (arith, code);
  named = named;
  fits = omega arith;
}

tag_of-read : (at value : ℕ) → IfOk (tag_of at value) (TagOf value)
unfolding tag_of
tag_of-read at value =
    let P : Result Tag WireFault → Type 0 = λ r. IfOk r (TagOf value) in
    choice-holds P (nat_lt (2 ^ 32 - 1) value) _ _ (λ _. tt) (λ small.
    choice-holds P (value / 8 == 0) _ _ (λ _. tt) (λ named.
    let some : value / 8 ≡ 0 → ⊥ = eqb-false (value / 8) 0 named in
    let below : value ≤ 2 ^ 32 - 1 = ltb-false (2 ^ 32 - 1) value small in
    tag_with-read at value (wire_type_of (value % 8)) (wire_type_of-code (value % 8)) (omega (arith, some)) (omega (
      arith,
      below,
    ))))

-- what is read is a tag
pub tag_at-read : (at : ℕ) (bytes : List ℕ) → IfOk (tag_at at bytes) (TagRead bytes)
unfolding tag_at
tag_at-read at bytes =
    IfOk-bind (varint_at at bytes) _ (VarintRead bytes) (TagRead bytes) (varint_at-read at bytes) (λ value read.
    IfOk-bind (tag_of at value.0) _ (TagOf value.0) (TagRead bytes) (tag_of-read at value.0) (λ tag told.
    record {
      front = read.front;
      parts = read.parts;
      tagged = record {
        spelled = subst
            (IsVarint read.front) told.is read.varint;
        named = told.named;
        fits = told.fits;
      };
    }))

code_of-small : (wire_type : WireType) → code_of wire_type < 8
code_of-small wire.Varint = lit< tt
code_of-small wire.Fixed64 = lit< tt
code_of-small wire.Bytes = lit< tt
code_of-small wire.GroupStart = lit< tt
code_of-small wire.GroupEnd = lit< tt
code_of-small wire.Fixed32 = lit< tt

wire_type_of-is : (wire_type : WireType) → wire_type_of (code_of wire_type) ≡ Some wire_type
wire_type_of-is wire.Varint = refl
wire_type_of-is wire.Fixed64 = refl
wire_type_of-is wire.Bytes = refl
wire_type_of-is wire.GroupStart = refl
wire_type_of-is wire.GroupEnd = refl
wire_type_of-is wire.Fixed32 = refl

tag_of-only : (at number : ℕ) (wire_type : WireType) → 1 ≤ number → number < 2 ^ 29
    → tag_of at (number * 8 + code_of wire_type) ≡ Ok (record { number = number; wire_type = wire_type })
unfolding tag_of
tag_of-only at number wire_type named fits =
    let small : code_of wire_type < 8 = code_of-small wire_type in
    let below : nat_lt (2 ^ 32 - 1) (number * 8 + code_of wire_type) ≡ false = le-ltb _ _ (omega arith) in
    let number_is : (number * 8 + code_of wire_type) / 8 ≡ number = omega arith in
    let code_is : (number * 8 + code_of wire_type) % 8 ≡ code_of wire_type = omega arith in
    let some : (number == 0) ≡ false = ne_eqb number 0 (λ none. absurd (omega (arith, none))) in
    rw (below, number_is, some, code_is, wire_type_of-is wire_type) refl

-- and a tag is read, whatever is after it
pub tag_at-only : (at number : ℕ) (wire_type : WireType) (tag after : List ℕ) → IsTag tag number wire_type
    → tag_at at (tag ++ after) ≡ Ok (record { number = number; wire_type = wire_type }, after)
unfolding tag_at
tag_at-only at number wire_type tag after tagged =
    rw (
      varint_at-only at (number * 8 + code_of wire_type) tag after tagged.spelled,
      tag_of-only at number wire_type tagged.named tagged.fits,
    ) refl
