-- Lemmas on `specs/Numbers.antt`, for callers: what is read in front is spelled so, and what is spelled is read again.
use Rattle.std.proofs.Common.{◌≡◌, ℕ, suc, ◌+◌, ◌^◌, ◌≤◌, ◌<◌, false, List, ◌∷◌, ◌++◌, length, get_or, take, drop, Option, None, Some, refl, sym, ap, subst, ◌∙◌, append_assoc, arith, inl, inr}
use Rattle.std.specs.Prelude.{nat_lt}
use Rattle.std.specs.Option.{option_and_then}
use Rattle.std.specs.Int.{Width, w16, w32, w64, byte_len, from_le_bytes, to_le_bytes}
use Rattle.std.proofs.lemmas.Bool.{cases_lt, ltb-false, le-ltb}
use Rattle.std.proofs.lemmas.List.{take_at, drop_at, take-append-drop, length-append, length-take, get_or-drop, get_or-take, get_or_past}
use Rattle.std.proofs.lemmas.Nat.{le_bytes_2, le_bytes_4, le_bytes_8, from_le_bytes-to_le_bytes_2, from_le_bytes-to_le_bytes_4, from_le_bytes-to_le_bytes_8}
use Rattle.sd_base.specs.Numbers.{front_bytes, front_number, front_counted}
use Rattle.sd_base.proofs.ReadsLemmas.{choice-second}

-- each number is a byte
abbrev pub IsBytes : List ℕ → Type 0
IsBytes bytes = (i : ℕ) → get_or bytes i 0 < 256

pub IsBytes-drop : (n : ℕ) (bytes : List ℕ) → IsBytes bytes → IsBytes (drop n bytes)
IsBytes-drop n bytes fits i = rw get_or-drop (fits (n + i))

pub IsBytes-take : (n : ℕ) (bytes : List ℕ) → IsBytes bytes → IsBytes (take n bytes)
IsBytes-take n bytes fits i =
    elim (cases_lt i n) [
      | inl below ↦ rw (get_or-take n bytes i 0 below) (fits i)
      | inr past ↦ rw (get_or_past (take n bytes) i 0 (omega (arith, length-take n bytes))) (omega arith)
    ]

pub IsBytes-rest : (byte : ℕ) (bytes : List ℕ) → IsBytes (byte ∷ bytes) → IsBytes bytes
IsBytes-rest byte bytes fits i = fits (suc i)

-- the bytes are these in front and then the rest
pub record Takes (bytes front rest : List ℕ) : Type 0 where
  pub parts : bytes ≡ front ++ rest
  pub fits : IsBytes rest

pub Takes-then : (a x b y c : List ℕ) → Takes a x b → Takes b y c → Takes a (x ++ y) c
Takes-then a x b y c first second = record {
  parts = first.parts ∙ ap (λ (t : List ℕ). x ++ t) second.parts ∙ sym (append_assoc x y c);
  fits = second.fits;
}

pub Takes-front : (n : ℕ) (bytes : List ℕ) → IsBytes bytes → Takes bytes (take n bytes) (drop n bytes)
Takes-front n bytes fits = record { parts = sym (take-append-drop n bytes); fits = IsBytes-drop n bytes fits }

pub Takes-byte : (byte : ℕ) (bytes front rest : List ℕ) → Takes bytes front rest
    → Takes (byte ∷ bytes) (byte ∷ front) rest
Takes-byte byte bytes front rest took = record {
  parts = ap (λ (t : List ℕ). byte ∷ t) took.parts;
  fits = took.fits;
}

-- what holds of the bytes of a number of this width, whose numbers are below the limit
pub record IsWide (width : Width) (limit : ℕ) : Type 0 where
  pub len : (n : ℕ) → length (to_le_bytes width n) ≡ byte_len width
  pub back : (bytes : List ℕ) → length bytes ≡ byte_len width → IsBytes bytes
      → to_le_bytes width (from_le_bytes width bytes) ≡ bytes
  pub again : (n : ℕ) → n < limit → from_le_bytes width (to_le_bytes width n) ≡ n
  pub below : (bytes : List ℕ) → IsBytes bytes → from_le_bytes width bytes < limit

pub wide16 : IsWide w16 (2 ^ 16)
wide16 = record {
  len = λ n. refl;
  back = λ bytes len fits. le_bytes_2 bytes _ len fits refl;
  again = λ n below. from_le_bytes-to_le_bytes_2 n below;
  below = λ bytes fits. omega (arith, fits 0, fits 1);
}

pub wide32 : IsWide w32 (2 ^ 32)
wide32 = record {
  len = λ n. refl;
  back = λ bytes len fits. le_bytes_4 bytes _ len fits refl;
  again = λ n below. from_le_bytes-to_le_bytes_4 n below;
  below = λ bytes fits. omega (arith, fits 0, fits 1, fits 2, fits 3);
}

pub wide64 : IsWide w64 (2 ^ 64)
wide64 = record {
  len = λ n. refl;
  back = λ bytes len fits. le_bytes_8 bytes _ len fits refl;
  again = λ n below. from_le_bytes-to_le_bytes_8 n below;
  below = λ bytes fits. omega (arith, fits 0, fits 1, fits 2, fits 3, fits 4, fits 5, fits 6, fits 7);
}

-- what is read in front stands there, and as many bytes as were asked for
pub front_bytes-takes : (count : ℕ) (bytes : List ℕ) (x : List ℕ × List ℕ) → IsBytes bytes
    → front_bytes count bytes ≡ Some x
    → Takes bytes x.0 x.1 × (length x.0 ≡ count) × IsBytes x.0
front_bytes-takes count bytes x fits read =
    let there = choice-second (nat_lt (length bytes) count) None (Some (take count bytes, drop count bytes)) (Some x)
    (λ e. cc e) read in
    let long : count ≤ length bytes = ltb-false _ _ there.0 in
    let same : (let y : List ℕ × List ℕ = (take count bytes, drop count bytes) in y) ≡ x = cc (there.1) in
    subst (λ (y : List ℕ × List ℕ). Takes bytes y.0 y.1 × (length y.0 ≡ count) × IsBytes y.0) same (
      Takes-front count bytes fits,
      omega (arith, length-take count bytes),
      IsBytes-take count bytes fits,
    )

-- bytes in front are read, whatever stands after them
pub front_bytes-again : (front rest : List ℕ) → front_bytes (length front) (front ++ rest) ≡ Some (front, rest)
front_bytes-again front rest =
    let long : nat_lt (length (front ++ rest)) (length front) ≡ false = le-ltb _ _ (omega (
      arith,
      length-append front rest,
    )) in
    rw (long, take_at front rest (length front) refl, drop_at front rest (length front) refl) refl

module _ (width : Width) (limit : ℕ) (wide : IsWide width limit) where
  -- a number that is read is below the limit, and stands spelled in front
  pub front_number-takes : (bytes : List ℕ) (x : ℕ × List ℕ) → IsBytes bytes
      → front_number width bytes ≡ Some x
      → Takes bytes (to_le_bytes width x.0) x.1 × (x.0 < limit)
  front_number-takes bytes x fits read =
      let size = byte_len width in
      let value = from_le_bytes width (take size bytes) in
      let there = choice-second (nat_lt (length bytes) size) None (Some (value, drop size bytes)) (Some x)
      (λ e. cc e) read in
      let long : size ≤ length bytes = ltb-false _ _ there.0 in
      let same : (let y : ℕ × List ℕ = (value, drop size bytes) in y) ≡ x = cc (there.1) in
      let front : to_le_bytes width value ≡ take size bytes = wide.back (take size bytes) (omega (
        arith,
        length-take size bytes,
      )) (IsBytes-take size bytes fits) in
      subst (λ (y : ℕ × List ℕ). Takes bytes (to_le_bytes width y.0) y.1 × (y.0 < limit)) same (
        rw front (Takes-front size bytes fits),
        wide.below (take size bytes) (IsBytes-take size bytes fits),
      )

  -- a spelled number is read again, whatever stands after it
  pub front_number-again : (n : ℕ) (rest : List ℕ) → n < limit
      → front_number width (to_le_bytes width n ++ rest) ≡ Some (n, rest)
  front_number-again n rest below =
      let len = wide.len n in
      let long : nat_lt (length (to_le_bytes width n ++ rest)) (byte_len width) ≡ false = le-ltb _ _ (omega (
        arith,
        length-append (to_le_bytes width n) rest,
      )) in
      rw (
        long,
        take_at (to_le_bytes width n) rest (byte_len width) len,
        drop_at (to_le_bytes width n) rest (byte_len width) len,
        wide.again n below,
      ) refl

-- both parts are there where their whole is
and_then-some : {A B : Type 0} (found : Option A) (next : A → Option B) (y : B)
    → option_and_then next found ≡ Some y
    → (x : A) × (found ≡ Some x) × (next x ≡ Some y)
and_then-some None next y e = absurd cc
and_then-some (Some x) next y e = (x, refl, e)

-- counted bytes that are read stand in front after their count, which has two bytes
pub front_counted-takes : (bytes : List ℕ) (x : List ℕ × List ℕ) → IsBytes bytes
    → front_counted bytes ≡ Some x
    → Takes bytes (to_le_bytes w16 (length x.0) ++ x.0) x.1 × (length x.0 < 2 ^ 16) × IsBytes x.0
front_counted-takes bytes x fits read =
    let step = and_then-some (front_number w16 bytes) (λ c. front_bytes c.0 c.1) x read in
    let count = front_number-takes w16 (2 ^ 16) wide16 bytes step.0 fits step.1 in
    let text = front_bytes-takes step.0.0 step.0.1 x count.0.fits step.2 in
    let both = Takes-then bytes (to_le_bytes w16 step.0.0) step.0.1 x.0 x.1 count.0 text.0 in (
      subst (λ (n : ℕ). Takes bytes (to_le_bytes w16 n ++ x.0) x.1) (sym text.1) both,
      omega (arith, count.1, text.1),
      text.2,
    )

-- counted bytes are read again, whatever stands after them
pub front_counted-again : (text rest : List ℕ) → length text < 2 ^ 16
    → front_counted ((to_le_bytes w16 (length text) ++ text) ++ rest) ≡ Some (text, rest)
front_counted-again text rest below =
    ap front_counted (append_assoc (to_le_bytes w16 (length text)) text rest)
    ∙ ap (option_and_then (λ (c : ℕ × List ℕ). front_bytes c.0 c.1)) (front_number-again w16 (2 ^ 16) wide16
    (length text) (text ++ rest) below)
    ∙ front_bytes-again text rest
