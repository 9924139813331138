-- On specs/Form.antt: bytes are taken piece by piece, a form by its length, and what stands in front of an input is one
-- form at most.
use Rattle.std.proofs.Common.{◌≡◌, ℕ, ◌<◌, ◌≤◌, ◌^◌, List, ◌++◌, length, take, drop, sym, ap, subst, ◌∙◌, append_assoc, arith, inl, inr}
use Rattle.std.specs.Int.{w64, from_le_bytes, to_le_bytes}
use Rattle.std.proofs.lemmas.List.{length-append, take-append-le}
use Rattle.std.proofs.lemmas.Nat.{from_le_bytes-to_le_bytes_8}
use Rattle.std.proofs.Math.Seq.{take-append_seam, drop-append_seam}
use Rattle.sd_io.specs.States.{Input}
use Rattle.sd_io.specs.Causes.{Takes}
use Rattle.sd_io.proofs.CausesLemmas.{Takes-trans}
use Rattle.checkpoint.specs.Forms.{most_saved}
use Rattle.statsd_cli.specs.declared.saved_form.FormError.{FormError}
use Rattle.statsd_cli.specs.declared.saved_form.FormError.TheVariants.{Cut, TooLong, Read, Memory}
use Rattle.statsd_cli.specs.Form.{framed, form_size, TakesForm, IsFormUnfinished, IsLengthTooLarge, LacksForm, TakesWhole, LacksBytes}

-- so many of the bytes that are wanted were taken
pub record IsTakenSo (old new : Input) (count : ℕ) (bytes piece : List ℕ) : Type 0 where
  pub consumes : Takes old new bytes
  pub within : length bytes ≤ count
  pub later : old.faults ≤ new.faults
  pub room : 0 < count → 0 < length piece

-- the length that eight bytes tell is the one that they were made of
size_told : (size : ℕ) (bytes : List ℕ) → size < 2 ^ 64 → form_size (to_le_bytes w64 size ++ bytes) ≡ size
size_told size bytes small = from_le_bytes-to_le_bytes_8 size small

-- that of a form with more after it
pub size_framed : (bytes rest : List ℕ) → length bytes ≤ most_saved → form_size (framed bytes ++ rest) ≡ length bytes
size_framed bytes rest short =
    ap form_size (append_assoc (to_le_bytes w64 (length bytes)) bytes rest)
    ∙ size_told (length bytes) (bytes ++ rest) (omega (arith, short))

-- memory was wanting
pub wants_memory : (old new : Input) (count : ℕ) (taken : List ℕ) → Takes old new taken
    → LacksBytes old new count Memory
wants_memory old new count taken consumes = record { taken = taken; consumes = consumes; cause = tt }

-- fewer than the eight bytes of a length were taken
pub lacks_length : (old new : Input) (e : FormError) → LacksBytes old new 8 e → LacksForm old new e
lacks_length old new Cut l = record { taken = l.taken; consumes = l.consumes; cause = (inl l.cause.0, l.cause.1) }
lacks_length old new (TooLong size) l = absurd l.cause
lacks_length old new Read l = record { taken = l.taken; consumes = l.consumes; cause = (inl l.cause.0, l.cause.1) }
lacks_length old new Memory l = record { taken = l.taken; consumes = l.consumes; cause = tt }

-- a length was taken, of eight bytes
module _ (old mid : Input) (told : List ℕ) (size : ℕ) (first : TakesWhole old mid 8 told)
    (is : to_le_bytes w64 size ≡ told) (small : size < 2 ^ 64) where
  size_is : (bytes : List ℕ) → form_size (told ++ bytes) ≡ size
  size_is bytes = ap (λ t. form_size (t ++ bytes)) (sym is) ∙ size_told size bytes small

  -- it is too large
  pub too_large : most_saved < size → LacksForm old mid (TooLong size)
  too_large large = record {
    taken = told;
    consumes = first.consumes;
    cause = record {
      told = first.whole;
      is = sym (ap (λ t. form_size t) (sym is) ∙ from_le_bytes-to_le_bytes_8 size small);
      large = large;
    };
  }

  module _ (new : Input) (short : size ≤ most_saved) where
    -- as many bytes were taken after it
    pub takes_form : (bytes : List ℕ) → TakesWhole mid new size bytes → TakesForm old new bytes
    takes_form bytes second =
        let own : told ++ bytes ≡ framed bytes =
        ap (λ t. t ++ bytes) (sym is ∙ ap (to_le_bytes w64) (sym second.whole)) in
        record {
          consumes = subst (Takes old new) own
              (Takes-trans old mid new told bytes first.consumes second.consumes);
          short = omega (arith, short, second.whole);
          later = omega (arith, first.later, second.later);
        }

    begun : (taken : List ℕ) → length taken < size → IsFormUnfinished (told ++ taken)
    begun taken fewer =
        let long = length-append told taken in
        let whole = first.whole in
        inr (record {
          told = omega (arith, long, whole);
          short = omega (arith, size_is taken, short);
          fewer = omega (arith, long, whole, size_is taken, fewer);
        })

    -- fewer were
    pub lacks_rest : (e : FormError) → LacksBytes mid new size e → LacksForm old new e
    lacks_rest Cut l = record {
      taken = told ++ l.taken;
      consumes = Takes-trans old mid new told l.taken first.consumes l.consumes;
      cause = (begun l.taken l.cause.0, l.cause.1);
    }
    lacks_rest (TooLong other) l = absurd l.cause
    lacks_rest Read l = record {
      taken = told ++ l.taken;
      consumes = Takes-trans old mid new told l.taken first.consumes l.consumes;
      cause = (
        begun l.taken l.cause.0,
        let rose = l.cause.1 in
            let later = first.later in
            omega (arith, later, rose),
      );
    }
    lacks_rest Memory l = record {
      taken = told ++ l.taken;
      consumes = Takes-trans old mid new told l.taken first.consumes l.consumes;
      cause = tt;
    }

-- What stands in front of these bytes is this form, and no other.
module _ (form rest : List ℕ) (short : length form ≤ most_saved) where
  -- it isn't unfinished where nothing is after
  pub is_whole : (taken : List ℕ) → taken ≡ framed form ++ rest → IsFormUnfinished taken → ⊥
  is_whole taken is (inl few) =
      let long = ap length is ∙ length-append (framed form) rest in
      let own = length-append (to_le_bytes w64 (length form)) form in
      absurd (omega (arith, few, long, own))
  is_whole taken is (inr begun) =
      let long = ap length is ∙ length-append (framed form) rest in
      let own = length-append (to_le_bytes w64 (length form)) form in
      let same = ap form_size is ∙ size_framed form rest short in
      let fewer = begun.fewer in
      absurd (omega (arith, fewer, long, own, same))

  -- its length isn't too large
  pub is_short : (size : ℕ) (taken left : List ℕ) → taken ++ left ≡ framed form ++ rest
      → IsLengthTooLarge size taken → ⊥
  is_short size taken left is large =
      let told = large.told in
      let front : take 8 (taken ++ left) ≡ take 8 taken = take-append-le 8 taken left (omega (arith, told)) in
      let own : size ≡ length form =
      large.is ∙ ap (from_le_bytes w64) (sym front) ∙ ap form_size is ∙ size_framed form rest short in
      let more = large.large in
      absurd (omega (arith, own, more, short))

  -- a form that was taken is this one, and what is left is what is after it
  pub is_this : (bytes left : List ℕ) → length bytes ≤ most_saved → framed bytes ++ left ≡ framed form ++ rest
      → (bytes ≡ form) × (left ≡ rest)
  is_this bytes left few is =
      let same : length bytes ≡ length form =
      sym (size_framed bytes left few) ∙ ap form_size is ∙ size_framed form rest short in
      let later : bytes ++ left ≡ form ++ rest = ap (drop 8) is in (
        sym (take-append_seam bytes left) ∙ ap (λ n. take n (bytes ++ left)) same ∙ ap (take (length form)) later
            ∙ take-append_seam form rest,
        sym (drop-append_seam bytes left) ∙ ap (λ n. drop n (bytes ++ left)) same ∙ ap (drop (length form)) later
            ∙ drop-append_seam form rest,
      )
