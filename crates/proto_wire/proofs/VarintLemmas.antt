-- How a varint is spelled, one byte after the other.
use Rattle.std.proofs.Common.{◌≡◌, ℕ, zero, suc, ◌+◌, ◌/◌, ◌%◌, ◌^◌, ◌<◌, ◌≤◌, [], ◌∷◌, ◌++◌, List, length, take, drop, set, insert, sym, ap, subst, append_assoc, ◌∙◌, arith, ⊎_elim, lit<, rules}
use Rattle.std.proofs.Math.Nat.{div-lt_iff_lt-mul, pow-suc}
use Rattle.std.proofs.lemmas.Bool.{cases_lt}
use Rattle.std.proofs.lemmas.List.{length-append, length-take-le, take-append-drop, take-set, drop-set, drop-drop}
use Rattle.std.proofs.Math.Seq.{take-append-add, drop-append-add}
use Rattle.proto_wire.specs.Spelling.{varint, varint_in}

-- one byte of a spelling, by whether it is the last
pub in-last : (turns n : ℕ) → n < 128 → varint_in (suc turns) n ≡ n ∷ []
in-last turns n small = search rules

pub in-step : (turns n : ℕ) → 128 ≤ n → varint_in (suc turns) n ≡ (n % 128 + 128) ∷ varint_in turns (n / 128)
in-step turns n large = search rules

-- a number below 128 is its own spelling
pub varint-last : (n : ℕ) → n < 128 → varint n ≡ n ∷ []
unfolding varint
varint-last n small = in-last 9 n small

-- more turns than the number has bytes change nothing
turns_enough : (turns n : ℕ) → n < 128 ^ suc turns → varint_in (suc turns) n ≡ varint_in (suc (suc turns)) n
turns_enough zero n fits = let small : n < 128 = omega arith in in-last 0 n small ∙ sym (in-last 1 n small)
turns_enough (suc turns) n fits =
    let less : n / 128 < 128 ^ suc turns = (div-lt_iff_lt-mul {k = 128} {x = n} {y = 128 ^ suc turns} (lit< tt)).1 (rw
    (pow-suc 128 (suc turns)) at fits) in
    ⊎_elim (λ small. in-last (suc turns) n small ∙ sym (in-last (suc (suc turns)) n small))
    (λ large. in-step (suc turns) n large ∙ ap (λ rest. (n % 128 + 128) ∷ rest) (turns_enough turns (n / 128) less)
    ∙ sym (in-step (suc (suc turns)) n large))
    (cases_lt n 128)

-- a greater number puts its low seven bits first
pub varint-step : (n : ℕ) → 128 ≤ n → n < 2 ^ 64 → varint n ≡ (n % 128 + 128) ∷ varint (n / 128)
unfolding varint
varint-step n large fits =
    let small : n / 128 < 128 ^ 9 = omega arith in
    in-step 9 n large ∙ ap (λ rest. (n % 128 + 128) ∷ rest) (turns_enough 8 (n / 128) small)

-- a spelling has a byte at least, and at most as many as there are turns
in-longest : (turns n : ℕ) → length (varint_in turns n) ≤ turns
in-longest zero n = omega arith
in-longest (suc turns) n =
    ⊎_elim (λ small. rw (in-last turns n small) (omega arith))
    (λ large. rw (in-step turns n large) (omega (arith, in-longest turns (n / 128))))
    (cases_lt n 128)

pub varint-longest : (n : ℕ) → length (varint n) ≤ 10
unfolding varint
varint-longest n = in-longest 10 n

pub varint-shortest : (n : ℕ) → 1 ≤ length (varint n)
unfolding varint
varint-shortest n =
    ⊎_elim (λ small. rw (in-last 9 n small) (omega arith))
    (λ large. rw (in-step 9 n large) (omega arith))
    (cases_lt n 128)

-- where a number was spelled in part, what is left of it finds room for a byte, and needs no more than ten in all
pub room-left : (old out : List ℕ) (value rest : ℕ)
    → out ++ varint rest ≡ old ++ varint value
    → length out + length (varint rest) ≤ length old + 10
room-left old out value rest spelled =
    omega (
      arith,
      ap length spelled,
      length-append out (varint rest),
      length-append old (varint value),
      varint-longest value,
    )

-- a byte that is written at a place stands between what was before it and what was after it
pub written : (bytes : List ℕ) (place byte : ℕ) → place < length bytes
    → set bytes place byte ≡ take place bytes ++ byte ∷ drop (place + 1) bytes
written bytes place byte there =
    sym (take-append-drop place (set bytes place byte))
    ∙ ap (λ (front : List ℕ). front ++ drop place (set bytes place byte)) (take-set bytes place byte)
    ∙ ap (λ (back : List ℕ). take place bytes ++ back) (drop-set bytes place byte there)

-- Where a byte was put in, it stands between what was before the place and what stood there.
module _ (bytes : List ℕ) (place byte : ℕ) (there : place < length bytes) where
  front_is : length (take place bytes) ≡ place
  front_is = length-take-le place bytes (omega (arith, there))

  put-before : take (place + 1) (insert bytes place byte) ≡ take place bytes ++ byte ∷ []
  put-before =
      subst (λ (n : ℕ). take (n + 1) (insert bytes place byte) ≡ take place bytes ++ byte ∷ []) front_is
      (take-append-add (take place bytes) (byte ∷ drop place bytes) 1)

  put-after : drop (place + 1 + 1) (insert bytes place byte) ≡ drop (place + 1) bytes
  put-after =
      let two : place + 1 + 1 ≡ place + 2 = omega arith in
      ap (λ (n : ℕ). drop n (insert bytes place byte)) two
      ∙ subst (λ (n : ℕ). drop (n + 2) (insert bytes place byte) ≡ drop (place + 1) bytes) front_is
      (drop-append-add (take place bytes) (byte ∷ drop place bytes) 2 ∙ drop-drop 1 place bytes)

  -- so one byte of a spelling more stands before the place
  pub put-in : (rest : List ℕ) → take (place + 1) (insert bytes place byte) ++ (rest
      ++ drop (place + 1 + 1) (insert bytes place byte)) ≡ take place bytes ++ ((byte ∷ rest) ++ drop (place + 1) bytes)
  put-in rest =
      ap (λ (front : List ℕ). front ++ (rest ++ drop (place + 1 + 1) (insert bytes place byte))) put-before
      ∙ ap (λ (back : List ℕ). (take place bytes ++ byte ∷ []) ++ (rest ++ back)) put-after
      ∙ append_assoc (take place bytes) (byte ∷ []) (rest ++ drop (place + 1) bytes)
