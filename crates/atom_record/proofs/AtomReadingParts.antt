-- Numbers, truths and texts, for values: what is read is spelled so, and what is spelled is read again.
use Rattle.std.proofs.Common.{◌≡◌, ℕ, ◌^◌, ◌<◌, Bool, true, false, List, [], ◌∷◌, ◌++◌, length, Ok, Err, refl, ap, subst, inl, inr}
use Rattle.std.specs.Prelude.{if◌then◌else◌, ◌==◌}
use Rattle.std.specs.Int.{Width, to_le_bytes}
use Rattle.std.specs.Option.{ok_or}
use Rattle.std.proofs.lemmas.Bool.{eqb-true}
use Rattle.std.proofs.lemmas.List.Elements.{All-from_get_or}
use Rattle.sd_base.specs.Numbers.{front_number, front_counted}
use Rattle.sd_base.proofs.ReadsLemmas.{choice-side, ok_or-ok, ok-same}
use Rattle.sd_base.proofs.NumbersLemmas.{IsBytes, IsBytes-rest, IsWide, Takes, front_number-takes, front_number-again, front_counted-takes, front_counted-again}
use Rattle.atom_record.specs.AtomReasons.{reason_cut, reason_bad_type}
use Rattle.atom_record.specs.AtomReading.{number_at, text_at, bool_at}
use Rattle.atom_record.specs.AtomSpelling.{truth_byte, sized_bytes}
use Rattle.atom_record.specs.AtomSound.{IsText}

-- a number that is read is spelled so, and is below the limit of its width
pub number_takes : (width : Width) (limit : ℕ) (wide : IsWide width limit) (bytes : List ℕ) (x : ℕ × List ℕ)
    → IsBytes bytes
    → number_at width bytes ≡ Ok x
    → Takes bytes (to_le_bytes width x.0) x.1 × (x.0 < limit)
number_takes width limit wide bytes x fits read =
    front_number-takes width limit wide bytes x fits (ok_or-ok (front_number width bytes) reason_cut x read)

-- a number below the limit of its width is read from its spelling
pub number_again : (width : Width) (limit : ℕ) (wide : IsWide width limit) (n : ℕ) (rest : List ℕ)
    → n < limit
    → number_at width (to_le_bytes width n ++ rest) ≡ Ok (n, rest)
number_again width limit wide n rest below =
    ap (λ found. ok_or found reason_cut) (front_number-again width limit wide n rest below)

-- a truth that is read is spelled so
pub bool_takes : (bytes : List ℕ) (x : Bool × List ℕ)
    → IsBytes bytes
    → bool_at bytes ≡ Ok x
    → Takes bytes (truth_byte x.0 ∷ []) x.1
bool_takes [] x fits read = absurd cc
bool_takes (byte ∷ bytes) x fits read =
    let rest : IsBytes bytes = IsBytes-rest byte bytes fits in
    let is_spelled : Bool × List ℕ → Type 0 = λ y. Takes (byte ∷ bytes) (truth_byte y.0 ∷ []) y.1 in
    elim (choice-side (byte == 0) (Ok (false, bytes)) (if byte == 1 then Ok (true, bytes) else Err reason_bad_type)
    (Ok x) read) [
      | inl zero_is ↦ subst is_spelled (ok-same (false, bytes) x zero_is.1)
          (record { parts = ap (λ (b : ℕ). b ∷ bytes) (eqb-true byte 0 zero_is.0); fits = rest })
      | inr other ↦ elim (choice-side (byte == 1) (Ok (true, bytes)) (Err reason_bad_type) (Ok x) other.1) [
        | inl one_is ↦ subst is_spelled (ok-same (true, bytes) x one_is.1)
            (record { parts = ap (λ (b : ℕ). b ∷ bytes) (eqb-true byte 1 one_is.0); fits = rest })
        | inr bad ↦ let never = bad.1 in absurd cc
      ]
    ]

-- a truth is read from its spelling
pub bool_again : (b : Bool) (rest : List ℕ) → bool_at (truth_byte b ∷ rest) ≡ Ok (b, rest)
bool_again false rest = refl
bool_again true rest = refl

-- a text that is read is spelled so, and has as many bytes as two bytes can tell
pub text_takes : (bytes : List ℕ) (x : List ℕ × List ℕ)
    → IsBytes bytes
    → text_at bytes ≡ Ok x
    → Takes bytes (sized_bytes x.0) x.1 × IsText x.0
unfolding text_at
text_takes bytes x fits read =
    let took = front_counted-takes bytes x fits (ok_or-ok (front_counted bytes) reason_cut x read) in
    (took.0, (took.1, All-from_get_or (λ byte. byte < 256) x.0 0 (λ i below. took.2 i)))

-- a text whose length two bytes can tell is read from its spelling
pub text_again : (text rest : List ℕ) → length text < 2 ^ 16 → text_at (sized_bytes text ++ rest) ≡ Ok (text, rest)
unfolding text_at
text_again text rest below = ap (λ found. ok_or found reason_cut) (front_counted-again text rest below)
