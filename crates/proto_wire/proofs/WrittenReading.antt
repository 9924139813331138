-- What a writer wrote is laid out as the grammar says.
use Rattle.std.proofs.Common.{◌≡◌, ℕ, zero, suc, ◌+◌, ◌-◌, ◌*◌, ◌/◌, ◌%◌, ◌^◌, ◌<◌, ◌≤◌, List, [], ◌∷◌, ◌++◌, length, get_or, refl, sym, ◌∙◌, arith, append_assoc, ⊎_elim, lit<}
use Rattle.std.specs.Int.{w32, to_le_bytes}
use Rattle.std.proofs.Math.Nat.{div-lt_iff_lt-mul, pow-suc}
use Rattle.std.proofs.lemmas.Bool.{cases_lt}
use Rattle.std.proofs.lemmas.Nat.{from_le_bytes-to_le_bytes_4}
use Rattle.proto_wire.specs.declared.tag.WireType.TheVariants as wire
use Rattle.proto_wire.specs.Spelling.{varint, varint_in, tag_bytes}
use Rattle.proto_wire.specs.Fields.{FieldOf, Rest}
use Rattle.proto_wire.specs.WireReading.{groups_value}
use Rattle.proto_wire.specs.Grammar.{IsVarint, StartsWith, Written, AsVarint, AsBytes, AsFixed32, spelling, written_number, written_body, IsWritable}
use Rattle.proto_wire.proofs.VarintLemmas.{in-last, in-step}

-- bytes as a varint has them, in at most so many
record IsSpelled (turns value : ℕ) (bytes : List ℕ) : Type 0 where
  some : 0 < length bytes
  short : length bytes ≤ turns
  marked : (k : ℕ) → k + 1 < length bytes → 128 ≤ get_or bytes k 0
  ended : get_or bytes (length bytes - 1) 0 < 128
  holds : groups_value bytes ≡ value

one_byte : (turns n : ℕ) → n < 128 → IsSpelled (suc turns) n (n ∷ [])
one_byte turns n small = record {
  some = omega arith;
  short = omega arith;
  marked = λ k below. absurd (omega arith);
  ended = small;
  holds = omega arith;
}

marked_front : (byte : ℕ) (bytes : List ℕ) → 128 ≤ byte → ((k : ℕ) → k + 1 < length bytes → 128 ≤ get_or bytes k 0)
    → (k : ℕ) → k + 1 < suc (length bytes) → 128 ≤ get_or (byte ∷ bytes) k 0
marked_front byte bytes high others zero below = high
marked_front byte bytes high others (suc k) below = others k (omega arith)

byte_more : (turns n : ℕ) (bytes : List ℕ) → 128 ≤ n → IsSpelled turns (n / 128) bytes
    → IsSpelled (suc turns) n ((n % 128 + 128) ∷ bytes)
byte_more turns n bytes large others =
    let last_is : suc (length bytes) - 1 ≡ suc (length bytes - 1) = omega (arith, others.some) in
    record {
      some = omega arith;
      short = omega (arith, others.short);
      marked = marked_front (n % 128 + 128) bytes (omega arith) others.marked;
      ended = rw last_is others.ended;
      holds = omega (arith, others.holds);
    }

in-spelled : (turns n : ℕ) → n < 128 ^ suc turns → IsSpelled (suc turns) n (varint_in (suc turns) n)
in-spelled zero n fits = let small : n < 128 = omega arith in rw (in-last 0 n small) (one_byte 0 n small)
in-spelled (suc turns) n fits =
    let less : n / 128 < 128 ^ suc turns = (div-lt_iff_lt-mul {k = 128} {x = n} {y = 128 ^ suc turns} (lit< tt)).1 (rw
    (pow-suc 128 (suc turns)) at fits) in
    ⊎_elim (λ small. rw (in-last (suc turns) n small) (one_byte (suc turns) n small))
    (λ large. rw (in-step (suc turns) n large) (byte_more (suc turns) n (varint_in (suc turns) (n / 128)) large
    (in-spelled turns (n / 128) less)))
    (cases_lt n 128)

-- the shortest spelling of a number is a varint
pub varint-spelled : (n : ℕ) → n < 2 ^ 64 → IsVarint (varint n) n
unfolding varint
varint-spelled n fits =
    let spelled = in-spelled 9 n (omega arith) in
    record {
      some = spelled.some;
      short = spelled.short;
      marked = spelled.marked;
      ended = spelled.ended;
      holds = let same = spelled.holds in rw same (omega arith);
    }

-- the field that was written, where it stands in front
abbrev pub field_there : Rest → Written → ℕ → FieldOf
field_there rest field payload_at = record {
  number = written_number field;
  at = rest.at;
  payload_at = payload_at;
  body = written_body field;
}

-- a written field is the field in front
pub written-starts : (rest : Rest) (field : Written) (after : List ℕ) → IsWritable field
    → rest.bytes ≡ spelling field ++ after
    → (payload_at : ℕ) × (next : ℕ) × StartsWith rest (field_there rest field payload_at) (record {
      bytes = after;
      at = next;
      depth = rest.depth;
    })
written-starts rest (AsVarint number value) after writable parts =
    let first : List ℕ = tag_bytes number wire.Varint in (
      rest.at + length first + 0,
      rest.at + length first + 0 + length (varint value),
      record {
        tag = first;
        count = [];
        payload = varint value;
        parts = parts ∙ append_assoc first (varint value) after;
        laid_out = record {
          tagged = record {
            spelled = varint-spelled (number * 8 + 0) (omega (arith, writable.numbered));
            named = writable.named;
            fits = writable.numbered;
          };
          counted = refl;
          filled = varint-spelled value writable.fits;
        };
        at = refl;
        payload_at = refl;
        moved = refl;
      },
    )
written-starts rest (AsBytes number bytes) after writable parts =
    let first : List ℕ = tag_bytes number wire.Bytes in
    let count : List ℕ = varint (length bytes) in (
      rest.at + length first + length count,
      rest.at + length first + length count + length bytes,
      record {
        tag = first;
        count = count;
        payload = bytes;
        parts = parts ∙ simp append_assoc;
        laid_out = record {
          tagged = record {
            spelled = varint-spelled (number * 8 + 2) (omega (arith, writable.numbered));
            named = writable.named;
            fits = writable.numbered;
          };
          counted = varint-spelled (length bytes) writable.fits;
          filled = refl;
        };
        at = refl;
        payload_at = refl;
        moved = refl;
      },
    )
written-starts rest (AsFixed32 number value) after writable parts =
    let first : List ℕ = tag_bytes number wire.Fixed32 in (
      rest.at + length first + 0,
      rest.at + length first + 0 + length (to_le_bytes w32 value),
      record {
        tag = first;
        count = [];
        payload = to_le_bytes w32 value;
        parts = parts ∙ append_assoc first (to_le_bytes w32 value) after;
        laid_out = record {
          tagged = record {
            spelled = varint-spelled (number * 8 + 5) (omega (arith, writable.numbered));
            named = writable.named;
            fits = writable.numbered;
          };
          counted = refl;
          filled = (refl, sym (from_le_bytes-to_le_bytes_4 value writable.fits));
        };
        at = refl;
        payload_at = refl;
        moved = refl;
      },
    )
