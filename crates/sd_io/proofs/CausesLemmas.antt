-- Lemmas on `specs/Causes.antt`, for callers: reads and puts one after another.
use Rattle.std.proofs.Common.{ℕ, ◌≤◌, List, [], ◌++◌, Result, Ok, Err, IsErr, sym, ap, ◌∙◌, append_assoc, arith}
pub use Rattle.std.proofs.KnownBytes.{Appends-nil, Appends-trans, Appends-kept, Consumes-nil, Consumes-trans, Consumes-kept}
use Rattle.sd_io.specs.States.{Input, Output}
use Rattle.sd_io.specs.Causes.{Keeps, IsPut, Takes, Gains, GainsFront}

-- nothing was taken
pub Takes-nil : (a : Input) → Takes a a []
Takes-nil a = Consumes-nil a.left

-- these bytes were taken, and then those
pub Takes-trans : (a b c : Input) (first second : List ℕ)
    → Takes a b first
    → Takes b c second
    → Takes a c (first ++ second)
Takes-trans a b c first second before after = Consumes-trans a.left b.left c.left first second before after

-- these bytes were taken, and then nothing
pub Takes-kept : (a b c : Input) (bytes : List ℕ) → Takes a b bytes → Keeps b.left c.left → Takes a c bytes
Takes-kept a b c bytes before kept = Consumes-kept a.left b.left c.left bytes before kept

-- nothing was written
pub Gains-nil : (a : Output) → Gains a a []
Gains-nil a = Appends-nil a.written

-- these bytes were written, and then those
pub Gains-trans : (a b c : Output) (first second : List ℕ)
    → Gains a b first
    → Gains b c second
    → Gains a c (first ++ second)
Gains-trans a b c first second before after = Appends-trans a.written b.written c.written first second before after

-- a whole piece was written, and then a front of the next
pub front_after : (a b c : Output) (first second : List ℕ)
    → Gains a b first
    → GainsFront b c second
    → GainsFront a c (first ++ second)
front_after a b c first second whole front = (
  first ++ front.0,
  (front.1.0, ap (λ l. first ++ l) front.1.1 ∙ sym (append_assoc first front.0 front.1.0)),
  Gains-trans a b c first front.0 whole front.2,
)

-- a front of the first piece is a front of both together
pub front_before : (a b : Output) (first second : List ℕ) → GainsFront a b first → GainsFront a b (first ++ second)
front_before a b first second front = (
  front.0,
  (front.1.0 ++ second, ap (λ l. l ++ second) front.1.1 ∙ append_assoc front.0 front.1.0 second),
  front.2,
)

-- a whole piece was put, and then a put of another ended as it says
pub IsPut-after : {E : Type 0} (a b c : Output) (result : Result Unit E) (first second : List ℕ)
    → Gains a b first
    → a.faults ≤ b.faults
    → IsPut b c result second
    → IsPut a c result (first ++ second)
IsPut-after a b c (Ok done) first second whole later put = record {
  bytes = Gains-trans a b c first second whole put.bytes;
  cause = record { later = omega (arith, later, put.cause.later); failed = tt };
}
IsPut-after a b c (Err e) first second whole later put = record {
  bytes = front_after a b c first second whole put.bytes;
  cause = record {
    later = omega (arith, later, put.cause.later);
    failed = omega (arith, later, put.cause.failed);
  };
}

-- a put of the first piece failed, and so the second was not tried
pub IsPut-before : {E F : Type 0} (a b : Output) (result : Result Unit E) (first second : List ℕ) (e : F)
    → IsErr result
    → IsPut a b (Err e) first
    → IsPut a b result (first ++ second)
IsPut-before a b (Ok done) first second e failed put = absurd (cc)
IsPut-before a b (Err e) first second own failed put = record {
  bytes = front_before a b first second put.bytes;
  cause = record { later = put.cause.later; failed = put.cause.failed };
}
