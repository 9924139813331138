-- Lemmas on `specs/Reads.antt`, for callers: readings one after another, choices in a reading, loops that read so many.
use Rattle.std.proofs.Common.{◌≡◌, ℕ, zero, suc, ◌+◌, ◌-◌, ◌<◌, ◌≤◌, Bool, true, false, List, [], ◌∷◌, ◌++◌, Option, None, Some, Result, Ok, Err, refl, sym, ap, ◌∙◌, append_assoc, arith, inl, inr, ◌⊎◌}
use Rattle.std.proofs.lemmas.List.{append-nil}
use Rattle.std.specs.Prelude.{if◌then◌else◌}
use Rattle.std.specs.Result.{IfOk}
use Rattle.std.specs.Option.{option_map, ok_or}
use Rattle.sd_base.specs.Reads.{◌>>=◌, FailsBy, GivesBy, many, with_front}

-- Readings one after another.

-- both readings are good where their whole is
pub bind-ok : {A B F : Type 0} (read : Result A F) (next : A → Result B F) (y : B)
    → (read >>= next) ≡ Ok y
    → (x : A) × (read ≡ Ok x) × (next x ≡ Ok y)
bind-ok (Ok x) next y e = (x, refl, e)
bind-ok (Err fault) next y e = absurd cc

-- the first or the second reading has the fault of their whole
pub bind-err : {A B F : Type 0} (read : Result A F) (next : A → Result B F) (fault : F)
    → (read >>= next) ≡ Err fault
    → (read ≡ Err fault) ⊎ ((x : A) × (read ≡ Ok x) × (next x ≡ Err fault))
bind-err (Ok x) next fault e = inr (x, refl, e)
bind-err (Err fault) next other e = let same : fault ≡ other = cc in inl (rw same refl)

-- what the second reading tells, knowing what the first told
pub IfOk-bind : {A B F : Type 0} (read : Result A F) (next : A → Result B F) (P : A → Type 0) (Q : B → Type 0)
    → IfOk read P
    → ((x : A) → P x → IfOk (next x) Q)
    → IfOk (read >>= next) Q
IfOk-bind (Ok x) next P Q told more = more x told
IfOk-bind (Err fault) next P Q told more = tt

-- second readings that agree where the first tells so much
pub bind-agree : {A B F : Type 0} (read : Result A F) (next other : A → Result B F) (P : A → Type 0)
    → IfOk read P
    → ((x : A) → P x → next x ≡ other x)
    → (read >>= next) ≡ (read >>= other)
bind-agree (Ok x) next other P told same = same x told
bind-agree (Err fault) next other P told same = refl

-- what the call answers is what the definition reads, where both put a fault in the place of what isn't there
pub GivesBy-ok_or : {X Y E F : Type 0} (fault_of : E → Option F) (view : X → Y) (found : Option X) (e : E)
    (read : Option Y) (fault : F)
    → option_map view found ≡ read
    → fault_of e ≡ Some fault
    → GivesBy fault_of view (ok_or found e) (ok_or read fault)
GivesBy-ok_or fault_of view None e read fault is named = rw (← is, named) refl
GivesBy-ok_or fault_of view (Some x) e read fault is named = rw (← is) refl

-- what was there where a fault stands in the place of none
pub ok_or-ok : {X F : Type 0} (read : Option X) (fault : F) (x : X) → ok_or read fault ≡ Ok x → read ≡ Some x
ok_or-ok None fault x e = absurd cc
ok_or-ok (Some y) fault x e = let same : y ≡ x = cc in ap Some same

-- two good readings that are the same have the same value
pub ok-same : {A F : Type 0} (x y : A) → (let read : Result A F = Ok x in read) ≡ Ok y → x ≡ y
ok-same x y e = cc

-- Choices.

-- what holds of each side holds of the choice
pub choice-holds : {A : Type 0} (P : A → Type 0) (test : Bool) (x y : A)
    → (test ≡ true → P x)
    → (test ≡ false → P y)
    → P (if test then x else y)
choice-holds P true x y of_x of_y = of_x refl
choice-holds P false x y of_x of_y = of_y refl

-- choices by one test agree where their sides do
pub choice-agree : {A : Type 0} (test : Bool) (x y x' y' : A)
    → (test ≡ true → x ≡ x')
    → (test ≡ false → y ≡ y')
    → (if test then x else y) ≡ (if test then x' else y')
choice-agree true x y x' y' same other = same refl
choice-agree false x y x' y' same other = other refl

-- which side an answer comes from
pub choice-side : {A : Type 0} (test : Bool) (x y z : A)
    → (if test then x else y) ≡ z
    → ((test ≡ true) × (x ≡ z)) ⊎ ((test ≡ false) × (y ≡ z))
choice-side true x y z e = inl (refl, e)
choice-side false x y z e = inr (refl, e)

-- an answer that isn't the first side is the second
pub choice-second : {A : Type 0} (test : Bool) (x y z : A)
    → (x ≡ z → ⊥)
    → (if test then x else y) ≡ z
    → (test ≡ false) × (y ≡ z)
choice-second true x y z differs e = absurd (differs e)
choice-second false x y z differs e = (refl, e)

-- a good reading was not refused by a test before it
pub choice-passed : {A F : Type 0} (refuses : Bool) (fault : F) (read : Result A F) (y : A)
    → (if refuses then Err fault else read) ≡ Ok y
    → (refuses ≡ false) × (read ≡ Ok y)
choice-passed true fault read y e = absurd cc
choice-passed false fault read y e = (refl, e)

-- So many readings, one after another.

-- nothing in front changes nothing
pub with_front-nil : {X F : Type 0} (read : Result (List X × List ℕ) F) → with_front [] read ≡ read
with_front-nil (Ok x) = refl
with_front-nil (Err fault) = refl

-- one more in front
pub with_front-push : {X F : Type 0} (front : List X) (x : X) (read : Result (List X × List ℕ) F)
    → with_front (front ++ x ∷ []) read ≡ with_front front (read >>= λ others. Ok (x ∷ others.0, others.1))
with_front-push front x (Ok others) = ap (λ l. Ok (l, others.1)) (append_assoc front (x ∷ []) others.0)
with_front-push front x (Err fault) = refl

module _ {X F : Type 0} (one : List ℕ → Result (X × List ℕ) F) (front : List X) where
  -- the next one is read
  pub many-next : (n : ℕ) (bytes : List ℕ) (x : X) (after : List ℕ)
      → one bytes ≡ Ok (x, after)
      → with_front (front ++ x ∷ []) (many one n after) ≡ with_front front (many one (suc n) bytes)
  unfolding many
  many-next n bytes x after read = rw read (with_front-push front x (many one n after))

  -- the next one has a fault
  pub many-fault : (n : ℕ) (bytes : List ℕ) (fault : F)
      → one bytes ≡ Err fault
      → with_front front (many one (suc n) bytes) ≡ Err fault
  unfolding many
  many-fault n bytes fault read = rw read refl

  -- no more is asked for
  pub many-none : (bytes : List ℕ) → with_front front (many one zero bytes) ≡ Ok (front, bytes)
  unfolding many
  many-none bytes = ap (λ l. Ok (l, bytes)) (append-nil front)

-- A turn of a loop over `0..count` that reads one each turn. Those in front were read, `rest` is what is left,
-- and `whole` is what the definition reads of all.
module _ {X F : Type 0} (one : List ℕ → Result (X × List ℕ) F) (front : List X) (turn count : ℕ) (rest : List ℕ)
    (whole : Result (List X × List ℕ) F) (reads : with_front front (many one (count - turn) rest) ≡ whole) where
  -- the next one is read: the same holds at the next turn
  pub loop-next : (x : X) (after : List ℕ)
      → turn < count
      → one rest ≡ Ok (x, after)
      → with_front (front ++ x ∷ []) (many one (count - (turn + 1)) after) ≡ whole
  loop-next x after more read =
      let one_left : count - turn ≡ suc (count - (turn + 1)) = omega arith in
      many-next one front (count - (turn + 1)) rest x after read
      ∙ ap (λ n. with_front front (many one n rest)) (sym one_left) ∙ reads

  -- the next one failed: so does the whole
  pub loop-fails : (fault : Option F) → turn < count → FailsBy fault (one rest) → FailsBy fault whole
  loop-fails None more failed = tt
  loop-fails (Some fault) more failed =
      let one_left : count - turn ≡ suc (count - (turn + 1)) = omega arith in
      sym reads ∙ ap (λ n. with_front front (many one n rest)) one_left
      ∙ many-fault one front (count - (turn + 1)) rest fault failed

  -- all turns are done: the whole is what was read
  pub loop-done : count ≤ turn → whole ≡ Ok (front, rest)
  loop-done done =
      let none_left : count - turn ≡ 0 = omega arith in
      sym reads ∙ ap (λ n. with_front front (many one n rest)) none_left ∙ many-none one front rest
