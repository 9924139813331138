-- Lemmas on proto_wire's `Grammar`, for JoinLemmas: a group is one also where more groups may be open inside one
-- another.
use Rattle.std.proofs.Common.{ℕ, zero, suc, ◌≤◌, List, [], ◌∷◌, arith}
use Rattle.std.specs.List.{AllByRecursion}
use Rattle.proto_wire.specs.Fields.{BodyOf, Varint, Fixed64, Bytes, Group, Fixed32}
use Rattle.proto_wire.specs.Grammar.{IsPayload, IsLaidOut, IsRecord, IsGroup}

-- which bytes are a group of a number, with this inside
abbrev Groups : Type 1
Groups = ℕ → List ℕ → List ℕ → Type 0

-- where more bytes are groups, what was laid out stays so
module _ (IsOne IsOther : Groups)
    (more : (number : ℕ) (inside payload : List ℕ) → IsOne number inside payload → IsOther number inside payload)
  where
    payload-more : (number : ℕ) (payload : List ℕ) (body : BodyOf) → IsPayload IsOne number payload body
        → IsPayload IsOther number payload body
    payload-more number payload (Varint value) filled = filled
    payload-more number payload (Fixed64 value) filled = filled
    payload-more number payload (Bytes bytes) filled = filled
    payload-more number payload (Group bytes) filled = more number bytes payload filled
    payload-more number payload (Fixed32 value) filled = filled

    pub laid_out-more : (number : ℕ) (body : BodyOf) (tag count payload : List ℕ)
        → IsLaidOut IsOne number body tag count payload → IsLaidOut IsOther number body tag count payload
    laid_out-more number body tag count payload laid_out = record {
      tagged = laid_out.tagged;
      counted = laid_out.counted;
      filled = payload-more number payload body laid_out.filled;
    }

    record-more : (bytes : List ℕ) → IsRecord IsOne bytes → IsRecord IsOther bytes
    record-more bytes one = record {
      number = one.number;
      body = one.body;
      tag = one.tag;
      count = one.count;
      payload = one.payload;
      parts = one.parts;
      laid_out = laid_out-more one.number one.body one.tag one.count one.payload one.laid_out;
    }

    records-more : (records : List (List ℕ)) → AllByRecursion (IsRecord IsOne) records
        → AllByRecursion (IsRecord IsOther) records
    records-more [] each = tt
    records-more (bytes ∷ others) each = (record-more bytes each.0, records-more others each.1)

pub group-more : (levels more : ℕ) → levels ≤ more → (number : ℕ) (inside payload : List ℕ)
    → IsGroup levels number inside payload → IsGroup more number inside payload
group-more zero more below number inside payload group = absurd group
group-more (suc levels) zero below number inside payload group = absurd (omega arith)
group-more (suc levels) (suc more) below number inside payload group = record {
  records = group.records;
  last = group.last;
  joined = group.joined;
  parts = group.parts;
  each = records-more (IsGroup levels) (IsGroup more) (group-more levels more (omega arith)) group.records group.each;
  ended = group.ended;
}
