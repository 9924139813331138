-- A varint is read where one stands, and only there.
use Rattle.std.proofs.Common.{◌≡◌, ℕ, ◌+◌, ◌-◌, ◌%◌, ◌^◌, ◌<◌, List, ◌++◌, length, take, drop, get_or, Option, None, Some, Ok, refl, sym, ◌∙◌, arith, min}
use Rattle.std.specs.Prelude.{nat_lt, position}
use Rattle.std.specs.List.{position_or_len}
use Rattle.std.proofs.lemmas.List.Sums.{position_or_len_is}
use Rattle.std.specs.Result.{IfOk}
use Rattle.std.proofs.lemmas.Bool.{ltb-true, ltb-false, lt-ltb, le-ltb}
use Rattle.std.proofs.lemmas.List.{take-append-drop, get_or-take, length-take-le, length-take, length-append, get_or_append_left}
use Rattle.std.proofs.Math.Seq.{take-append_seam, drop-append_seam}
use Rattle.std.proofs.lemmas.List.Quantifiers.{position-Some}
use Rattle.proto_wire.specs.WireReading.{varint_at, varint_to, groups_value}
use Rattle.proto_wire.specs.Grammar.{IsVarint}

-- the front is a varint of this value, and this is after it
pub record VarintRead (bytes : List ℕ) (read : ℕ × List ℕ) : Type 0 where
  pub front : List ℕ
  pub parts : bytes ≡ front ++ read.1
  pub varint : IsVarint front read.0

to_last : (bytes : List ℕ) (last : ℕ) → position (λ byte. nat_lt byte 128) (take 10 bytes) ≡ Some last
    → VarintRead bytes (groups_value (take (last + 1) bytes) % 2 ^ 64, drop (last + 1) bytes)
to_last bytes last found =
    let at = position-Some (λ byte. nat_lt byte 128) (take 10 bytes) last 0 found in
    let in_ten : last < 10 = omega (arith, at.0, length-take 10 bytes) in
    let inside : last < length bytes = omega (arith, at.0, length-take 10 bytes) in
    let len : length (take (last + 1) bytes) ≡ last + 1 = length-take-le (last + 1) bytes (omega arith) in
    let last_is : length (take (last + 1) bytes) - 1 ≡ last = omega arith in
    let front_is : (k : ℕ) → k < last + 1 → get_or (take (last + 1) bytes) k 0 ≡ get_or (take 10 bytes) k 0 =
    λ k below. get_or-take (last + 1) bytes k 0 below ∙ sym (get_or-take 10 bytes k 0 (omega arith)) in
    record {
      front = take (last + 1) bytes;
      parts = sym (take-append-drop (last + 1) bytes);
      varint = record {
        some = omega arith;
        short = omega arith;
        marked = λ k below. rw (front_is k (omega arith)) (ltb-false _ _ (at.2 k (omega arith)));
        ended = rw last_is (rw (front_is last (omega arith)) (ltb-true _ _ at.1));
        holds = refl;
      };
    }

-- what is read is a varint
pub varint_at-read : (at : ℕ) (bytes : List ℕ) → IfOk (varint_at at bytes) (VarintRead bytes)
unfolding varint_at
varint_at-read at bytes = by_place (position (λ byte. nat_lt byte 128) (take 10 bytes)) refl
  where
    by_place : (place : Option ℕ) → position (λ byte. nat_lt byte 128) (take 10 bytes) ≡ place
        → IfOk (varint_to at bytes place) (VarintRead bytes)
    by_place None found = tt
    by_place (Some last) found = to_last bytes last found

-- and a varint is read, whatever is after it
pub varint_at-only : (at value : ℕ) (front after : List ℕ) → IsVarint front value
    → varint_at at (front ++ after) ≡ Ok (value, after)
unfolding varint_at
varint_at-only at value front after varint =
    let bytes : List ℕ = front ++ after in
    let last : ℕ = length front - 1 in
    let last_is : last + 1 ≡ length front = omega (arith, varint.some) in
    let ten : length (take 10 bytes) ≡ min 10 (length bytes) = length-take 10 bytes in
    let long : length bytes ≡ length front + length after = length-append front after in
    let inside : last < length (take 10 bytes) = omega (arith, varint.short) in
    let in_front : (k : ℕ) → k < length front → get_or (take 10 bytes) k 0 ≡ get_or front k 0 =
    λ k below. get_or-take 10 bytes k 0 (omega (arith, varint.short)) ∙ get_or_append_left front after 0 k below in
    let place : position_or_len (λ byte. nat_lt byte 128) (take 10 bytes) ≡ last =
    position_or_len_is (λ byte. nat_lt byte 128) (take 10 bytes) last 0 (omega arith)
    (λ k below. rw (in_front k (omega arith)) (le-ltb _ _ (varint.marked k (omega arith))))
    (λ _. rw (in_front last (omega arith)) (lt-ltb _ _ varint.ended)) in
    let found : position (λ byte. nat_lt byte 128) (take 10 bytes) ≡ Some last = rw place (rw (lt-ltb last (length
    (take 10 bytes)) inside) refl) in
    rw found (rw (last_is, take-append_seam front after, drop-append_seam front after, ← varint.holds) refl)
