-- Lemmas on packed numbers of `specs/Walk.antt`, for the loops over them: any number of turns that is enough reads the
-- same.
use Rattle.std.proofs.Common.{◌≡◌, ℕ, zero, suc, ◌<◌, ◌≤◌, List, [], ◌∷◌, length, None, Some, Result, Ok, Err, false, refl, sym, ap, ◌∙◌, arith}
use Rattle.std.specs.Prelude.{◌==◌}
use Rattle.std.specs.Result.{IfOk}
use Rattle.std.proofs.lemmas.Bool.{ne_eqb}
use Rattle.std.proofs.lemmas.List.{length-append}
use Rattle.proto_wire.specs.declared.fault.WireFault.{WireFault}
use Rattle.proto_wire.specs.WireReading.{varint_at}
use Rattle.proto_wire.proofs.VarintReading.{VarintRead, varint_at-read}
use Rattle.config_decode.specs.Walk.{Packed, packed_on, packed_in, packed_at}

-- less is left after a number
less_left : (bytes : List ℕ) (read : Result (ℕ × List ℕ) WireFault) → IfOk read (VarintRead bytes)
    → IfOk read (λ number. length number.1 < length bytes)
less_left bytes (Ok number) told =
    omega (arith, told.varint.some, ap length told.parts, length-append told.front number.1)
less_left bytes (Err fault) told = tt

-- the rest decides what a number and the rest are
packed_on-agree : (after other : List ℕ → Packed) (read : Result (ℕ × List ℕ) WireFault) (bytes : List ℕ)
    → IfOk read (λ number. length number.1 < length bytes)
    → ((left : List ℕ) → length left < length bytes → after left ≡ other left)
    → packed_on after read ≡ packed_on other read
packed_on-agree after other (Ok number) bytes less same =
    ap (λ (packed : Packed). packed_on (λ left. packed) (Ok number)) (same number.1 less)
packed_on-agree after other (Err fault) bytes less same = refl

abbrev nothing : Packed
nothing = record { numbers = []; fault = None }

packed_in-empty : (turns at : ℕ) → packed_in turns at [] ≡ nothing
unfolding packed_in
packed_in-empty zero at = refl
packed_in-empty (suc turns) at = refl

packed_in-some : (turns at byte : ℕ) (bytes : List ℕ)
    → packed_in (suc turns) at (byte ∷ bytes) ≡ packed_on (packed_in turns at) (varint_at at (byte ∷ bytes))
unfolding packed_in
packed_in-some turns at byte bytes =
    let some : (length (byte ∷ bytes) == 0) ≡ false = ne_eqb _ _ (omega arith) in
    rw some refl

packed_in-agree : (turns other at : ℕ) (bytes : List ℕ) → length bytes ≤ turns → length bytes ≤ other
    → packed_in turns at bytes ≡ packed_in other at bytes
packed_in-agree turns other at [] enough too = packed_in-empty turns at ∙ sym (packed_in-empty other at)
packed_in-agree zero other at (byte ∷ bytes) enough too = absurd (omega arith)
packed_in-agree (suc turns) zero at (byte ∷ bytes) enough too = absurd (omega arith)
packed_in-agree (suc turns) (suc other) at (byte ∷ bytes) enough too =
    packed_in-some turns at byte bytes
    ∙ packed_on-agree (packed_in turns at) (packed_in other at) (varint_at at (byte ∷ bytes)) (byte ∷ bytes)
    (less_left (byte ∷ bytes) (varint_at at (byte ∷ bytes)) (varint_at-read at (byte ∷ bytes)))
    (λ left less. packed_in-agree turns other at left (omega arith) (omega arith))
    ∙ sym (packed_in-some other at byte bytes)

-- nothing is read at the end
pub packed_at-none : (at : ℕ) (bytes : List ℕ) → length bytes ≡ 0 → packed_at at bytes ≡ nothing
unfolding packed_at
packed_at-none at [] none = packed_in-empty 0 at
packed_at-none at (byte ∷ bytes) none = absurd (omega arith)

-- and else a number, or the fault
pub packed_at-some : (at : ℕ) (bytes : List ℕ) → 0 < length bytes
    → packed_at at bytes ≡ packed_on (packed_at at) (varint_at at bytes)
unfolding packed_at
packed_at-some at [] some = absurd (omega arith)
packed_at-some at (byte ∷ bytes) some =
    packed_in-some (length bytes) at byte bytes
    ∙ packed_on-agree (packed_in (length bytes) at) (packed_at at) (varint_at at (byte ∷ bytes)) (byte ∷ bytes)
    (less_left (byte ∷ bytes) (varint_at at (byte ∷ bytes)) (varint_at-read at (byte ∷ bytes)))
    (λ left less. packed_in-agree (length bytes) (length left) at left (omega arith) (omega arith))

-- after a number that is read, the fault is that of the rest
pub fault-after : (at number : ℕ) (bytes left : List ℕ) → 0 < length bytes → varint_at at bytes ≡ Ok (number, left)
    → (packed_at at bytes).fault ≡ (packed_at at left).fault
fault-after at number bytes left some read = rw (packed_at-some at bytes some, read) refl

-- where no number can be read, this is the fault
pub fault-here : (at : ℕ) (bytes : List ℕ) (fault : WireFault) → 0 < length bytes → varint_at at bytes ≡ Err fault
    → (packed_at at bytes).fault ≡ Some fault
fault-here at bytes fault some read = rw (packed_at-some at bytes some, read) refl
