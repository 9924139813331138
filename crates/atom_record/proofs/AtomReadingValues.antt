-- Values, for entries and items: what is read is spelled so, and what is spelled is read again.
use Rattle.std.proofs.Common.{◌≡◌, ℕ, ◌^◌, ◌<◌, List, ◌++◌, Result, Ok, refl, sym, ap, subst, ◌∙◌, inl, inr, ℤ, Fits, arith}
use Rattle.std.proofs.Math.Facts.{Fits-of_z, sfits_to_z}
use Rattle.std.proofs.lemmas.Bool.{eqb-true}
use Rattle.std.proofs.lemmas.Int.{to_z-of_z, of_z-to_z}
use Rattle.std.specs.Prelude.{if◌then◌else◌, ◌==◌, FitsSigned}
use Rattle.std.specs.Int.{Width, w32, w64, to_le_bytes, cast_signed, cast_unsigned}
use Rattle.atom_record.specs.declared.value.Value.{Value}
use Rattle.atom_record.specs.declared.value.Value.TheVariants as values
use Rattle.atom_record.specs.declared.parse.Kind.{Kind}
use Rattle.atom_record.specs.declared.parse.Kind.TheVariants as kinds
use Rattle.atom_record.specs.AtomReading.{number_at, text_at, bool_at, kind_at, value_at}
use Rattle.atom_record.specs.AtomSpelling.{type_of, sized_bytes, value_bytes}
use Rattle.atom_record.specs.AtomSound.{IsText, IsInRange}
use Rattle.sd_base.specs.Reads.{◌>>=◌}
use Rattle.sd_base.proofs.ReadsLemmas.{bind-ok, ok-same, choice-side}
use Rattle.sd_base.proofs.NumbersLemmas.{IsBytes, IsWide, Takes, wide32, wide64}
use Rattle.atom_record.proofs.AtomReadingParts.{number_takes, number_again, bool_takes, bool_again, text_takes, text_again}

-- the kind of a value
abbrev pub kind_of : Value → Kind
kind_of (values.Int n) = kinds.Int
kind_of (values.Long n) = kinds.Long
kind_of (values.Bool b) = kinds.Bool
kind_of (values.Str text) = kinds.Str
kind_of (values.Raw bytes) = kinds.Raw
kind_of (values.Bits32 bits) = kinds.Bits32

-- a signed number of four bytes, as bits
pub unsigned32 : (n : ℤ) → FitsSigned w32 n → cast_unsigned w32 n < 2 ^ 32
unsigned32 n fits = let bits = Fits-of_z fits in omega arith

-- a signed number of eight bytes, as bits
pub unsigned64 : (n : ℤ) → FitsSigned w64 n → cast_unsigned w64 n < 2 ^ 64
unsigned64 n fits = let bits = Fits-of_z fits in omega arith

-- four bytes as a signed number
pub signed32 : (n : ℕ) → n < 2 ^ 32 → FitsSigned w32 (cast_signed w32 n)
signed32 n below = let bits : Fits w32 n = record { fits = omega arith } in sfits_to_z bits

-- eight bytes as a signed number
pub signed64 : (n : ℕ) → n < 2 ^ 64 → FitsSigned w64 (cast_signed w64 n)
signed64 n below = let bits : Fits w64 n = record { fits = omega arith } in sfits_to_z bits

-- a value that fits its bytes is read from its spelling
pub value_again : (value : Value) (rest : List ℕ)
    → IsInRange value
    → value_at (kind_of value) (value_bytes value ++ rest) ≡ Ok (value, rest)
unfolding value_at
value_again (values.Int n) rest fits =
    rw (number_again w32 (2 ^ 32) wide32 (cast_unsigned w32 n) rest (unsigned32 n fits), to_z-of_z w32 n fits) refl
value_again (values.Long n) rest fits =
    rw (number_again w64 (2 ^ 64) wide64 (cast_unsigned w64 n) rest (unsigned64 n fits), to_z-of_z w64 n fits) refl
value_again (values.Bool b) rest fits = rw (bool_again b rest) refl
value_again (values.Str text) rest fits = rw (text_again text rest fits.0) refl
value_again (values.Raw bytes) rest fits = rw (text_again bytes rest fits.0) refl
value_again (values.Bits32 bits) rest fits = rw (number_again w32 (2 ^ 32) wide32 bits rest fits) refl

-- what was read as a value of this kind
pub record TakesValue (kind : Kind) (bytes : List ℕ) (value : Value) (rest : List ℕ) : Type 0 where
  pub took : Takes bytes (value_bytes value) rest
  pub fits : IsInRange value
  pub same : kind_of value ≡ kind

-- a value that is made of a number of this width
of_number : (kind : Kind) (width : Width) (limit : ℕ) (wide : IsWide width limit) (make : ℕ → Value) (bytes : List ℕ)
    (x : Value × List ℕ)
    → IsBytes bytes
    → (number_at width bytes >>= λ n. Ok (make n.0, n.1)) ≡ Ok x
    → ((n : ℕ) → n < limit → (value_bytes (make n) ≡ to_le_bytes width n) × IsInRange (make n))
    → ((n : ℕ) → kind_of (make n) ≡ kind)
    → TakesValue kind bytes x.0 x.1
of_number kind width limit wide make bytes x fits read made same =
    let n = bind-ok (number_at width bytes) (λ n. Ok (make n.0, n.1)) x read in
    let took = number_takes width limit wide bytes n.0 fits n.1 in
    let is = made n.0.0 took.1 in
    let is_value : Value × List ℕ → Type 0 = λ y. TakesValue kind bytes y.0 y.1 in
    subst is_value (ok-same (make n.0.0, n.0.1) x n.2)
    (record { took = rw is.0 took.0; fits = is.1; same = same n.0.0 })

-- a value that is made of a text
of_text : (kind : Kind) (make : List ℕ → Value) (bytes : List ℕ) (x : Value × List ℕ)
    → IsBytes bytes
    → (text_at bytes >>= λ text. Ok (make text.0, text.1)) ≡ Ok x
    → ((text : List ℕ) → IsText text → (value_bytes (make text) ≡ sized_bytes text) × IsInRange (make text))
    → ((text : List ℕ) → kind_of (make text) ≡ kind)
    → TakesValue kind bytes x.0 x.1
of_text kind make bytes x fits read made same =
    let text = bind-ok (text_at bytes) (λ text. Ok (make text.0, text.1)) x read in
    let took = text_takes bytes text.0 fits text.1 in
    let is = made text.0.0 took.1 in
    let is_value : Value × List ℕ → Type 0 = λ y. TakesValue kind bytes y.0 y.1 in
    subst is_value (ok-same (make text.0.0, text.0.1) x text.2)
    (record { took = rw is.0 took.0; fits = is.1; same = same text.0.0 })

-- a value that is read is spelled so, fits its bytes, and is of the kind
pub value_takes : (kind : Kind) (bytes : List ℕ) (x : Value × List ℕ)
    → IsBytes bytes
    → value_at kind bytes ≡ Ok x
    → TakesValue kind bytes x.0 x.1
unfolding value_at
value_takes kinds.Int bytes x fits read =
    of_number kinds.Int w32 (2 ^ 32) wide32 (λ n. values.Int (cast_signed w32 n)) bytes x fits read
    (λ n below. (ap (to_le_bytes w32) (of_z-to_z w32 n below), signed32 n below)) (λ n. refl)
value_takes kinds.Long bytes x fits read =
    of_number kinds.Long w64 (2 ^ 64) wide64 (λ n. values.Long (cast_signed w64 n)) bytes x fits read
    (λ n below. (ap (to_le_bytes w64) (of_z-to_z w64 n below), signed64 n below)) (λ n. refl)
value_takes kinds.Bool bytes x fits read =
    let b = bind-ok (bool_at bytes) (λ b. Ok (values.Bool b.0, b.1)) x read in
    let is_value : Value × List ℕ → Type 0 = λ y. TakesValue kinds.Bool bytes y.0 y.1 in
    subst is_value (ok-same _ x b.2) (record { took = bool_takes bytes b.0 fits b.1; fits = tt; same = refl })
value_takes kinds.Str bytes x fits read =
    of_text kinds.Str values.Str bytes x fits read (λ text is. (refl, is)) (λ text. refl)
value_takes kinds.Raw bytes x fits read =
    of_text kinds.Raw values.Raw bytes x fits read (λ text is. (refl, is)) (λ text. refl)
value_takes kinds.Bits32 bytes x fits read =
    of_number kinds.Bits32 w32 (2 ^ 32) wide32 values.Bits32 bytes x fits read (λ n below. (refl, below)) (λ n. refl)

-- the number of a kind
abbrev pub number_of : Kind → ℕ
number_of kinds.Int = 1
number_of kinds.Long = 2
number_of kinds.Bool = 3
number_of kinds.Str = 4
number_of kinds.Raw = 5
number_of kinds.Bits32 = 6

-- the type byte of a value is the number of its kind
pub type_is : (value : Value) → type_of value ≡ number_of (kind_of value)
type_is (values.Int n) = refl
type_is (values.Long n) = refl
type_is (values.Bool b) = refl
type_is (values.Str text) = refl
type_is (values.Raw bytes) = refl
type_is (values.Bits32 bits) = refl

-- the type byte of a value names its kind
pub kind_again : (value : Value) → kind_at (type_of value) ≡ Ok (kind_of value)
kind_again (values.Int n) = refl
kind_again (values.Long n) = refl
kind_again (values.Bool b) = refl
kind_again (values.Str text) = refl
kind_again (values.Raw bytes) = refl
kind_again (values.Bits32 bits) = refl

-- one case of a chain of numbers
named : (number at : ℕ) (it : Kind) (others : Result Kind ℕ) (kind : Kind)
    → number_of it ≡ at
    → (if number == at then Ok it else others) ≡ Ok kind
    → (others ≡ Ok kind → number ≡ number_of kind)
    → number ≡ number_of kind
named number at it others kind is read next =
    elim (choice-side (number == at) (Ok it) others (Ok kind) read) [
      | inl this ↦ let same : it ≡ kind = let e = this.1 in cc in eqb-true number at this.0 ∙ sym is ∙ ap number_of same
      | inr other ↦ next other.1
    ]

-- a type byte that names a kind is the number of that kind
pub kind_takes : (number : ℕ) (kind : Kind) → kind_at number ≡ Ok kind → number ≡ number_of kind
kind_takes number kind read =
    named number 1 kinds.Int _ kind refl read (λ read.
    named number 2 kinds.Long _ kind refl read (λ read.
    named number 3 kinds.Bool _ kind refl read (λ read.
    named number 4 kinds.Str _ kind refl read (λ read.
    named number 5 kinds.Raw _ kind refl read (λ read.
    named number 6 kinds.Bits32 _ kind refl read (λ never. absurd cc))))))
