-- For callers that read or spell values outside of atoms: what is read is spelled so, and what is spelled is read
-- again.
use Rattle.std.proofs.Common.{◌≡◌, ℕ, List, [], ◌∷◌, ◌++◌, Ok, sym, ap, ◌∙◌}
use Rattle.atom_record.specs.declared.value.Value.{Value}
use Rattle.atom_record.specs.declared.value.Value.TheVariants as values
use Rattle.atom_record.specs.AtomReading.{kind_at, value_at}
use Rattle.atom_record.specs.AtomSpelling.{type_of, value_bytes}
use Rattle.atom_record.specs.AtomSound.{IsInRange}
use Rattle.atom_record.specs.TypedValue.{typed_bytes, typed_at, HasShortText}
use Rattle.sd_base.proofs.ReadsLemmas.{bind-ok}
use Rattle.sd_base.proofs.NumbersLemmas.{IsBytes, IsBytes-rest, Takes, Takes-byte}
use Rattle.atom_record.proofs.AtomReadingValues.{value_takes, value_again, type_is, kind_takes, kind_again, number_of}

-- what was read fits its bytes and is spelled so
pub typed_takes : (bytes : List ℕ) (x : Value × List ℕ)
    → IsBytes bytes
    → typed_at bytes ≡ Ok x
    → Takes bytes (typed_bytes x.0) x.1 × IsInRange x.0
unfolding typed_at
typed_takes [] x fits read = absurd cc
typed_takes (number ∷ bytes) x fits read =
    let kind = bind-ok (kind_at number) (λ kind. value_at kind bytes) x read in
    let took = value_takes kind.0 bytes x (IsBytes-rest number bytes fits) kind.2 in
    let named : number ≡ type_of x.0 = kind_takes number kind.0 kind.1 ∙ ap number_of (sym took.same)
    ∙ sym (type_is x.0) in (
      rw named (Takes-byte (type_of x.0) bytes (value_bytes x.0) x.1 took.took),
      took.fits,
    )

-- what is spelled is read again
pub typed_again : (value : Value) (rest : List ℕ)
    → IsInRange value
    → typed_at (typed_bytes value ++ rest) ≡ Ok (value, rest)
unfolding typed_at
typed_again value rest fits = rw (kind_again value) (value_again value rest fits)

-- a value that fits its bytes can be spelled
pub short_value : (value : Value) → IsInRange value → HasShortText value
short_value (values.Int n) fits = tt
short_value (values.Long n) fits = tt
short_value (values.Bool b) fits = tt
short_value (values.Str text) fits = fits.0
short_value (values.Raw bytes) fits = fits.0
short_value (values.Bits32 bits) fits = tt
