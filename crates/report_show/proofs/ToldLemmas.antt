-- What is told of the fields that were written: each can be read, and what is found among them by number.
use Rattle.std.proofs.Common.{◌≡◌, ℕ, ℤ, ◌^◌, ◌<◌, ◌≤◌, Bool, true, false, List, [], ◌∷◌, ◌++◌, length, map, refl, sym, ap, ◌∙◌, subst, arith, append-nil}
use Rattle.std.specs.Prelude.{◌==◌, nat_lt, not, if◌then◌else◌}
use Rattle.std.specs.List.{AllByRecursion}
use Rattle.std.specs.Int.{w64, cast_unsigned}
use Rattle.std.proofs.lemmas.Bool.{ltb-false, eq-eqb}
use Rattle.proto_wire.specs.Fields.{Varint}
use Rattle.proto_wire.specs.Grammar.{Written, AsVarint, AsBytes}
use Rattle.report_writer.specs.ReportSpelling.{truth_number}
use Rattle.report_show.specs.Reading.{contents_in, number_under, payloads_under, held_payload}
use Rattle.report_show.proofs.FieldLemmas.{told, IsTold, said, contents-told, repeated, if_above, payloads-same, payloads-other, number-other, fits-first, fits-second}
use Rattle.report_show.proofs.Spelled.{spelled, spelled-append, AsSigned}
use Rattle.report_show.proofs.NumberLemmas.{low64-same}

-- the bytes can be counted
abbrev pub Counted : List ℕ → Type 0
Counted bytes = length bytes < 2 ^ 64

-- each of these is read back if one is
module _ {X : Type 0} (P : X → Type 0) (read : List ℕ → X) (message : X → List ℕ)
    (one : (x : X) → P x → Counted (message x) → read (message x) ≡ x) where
  pub all_back : (xs : List X) → AllByRecursion P xs → AllByRecursion (λ x. Counted (message x)) xs
      → map read (map message xs) ≡ xs
  all_back [] all fit = refl
  all_back (x ∷ xs) all fit =
      ap (λ (y : X). y ∷ map read (map message xs)) (one x all.0 fit.0)
      ∙ ap (λ (l : List X). x ∷ l) (all_back xs all.1 fit.1)

-- a varint is told
pub varint-told : (number value : ℕ) → 1 ≤ number → number < 2 ^ 29 → value < 2 ^ 64 → IsTold (AsVarint number value)
varint-told number value named numbered fits = record { named = named; numbered = numbered; fits = fits }

-- and so is one that holds a number that may be below 0
pub signed-told : (number : ℕ) (value : ℤ) → 1 ≤ number → number < 2 ^ 29 → cast_unsigned w64 value < 2 ^ 64
    → IsTold (AsSigned number value)
signed-told number value named numbered fits = varint-told number (cast_unsigned w64 value) named numbered fits

-- bytes are told
pub bytes-told : (number : ℕ) (bytes : List ℕ) → 1 ≤ number → number < 2 ^ 29 → IsTold (AsBytes number bytes)
bytes-told number bytes named numbered = record { named = named; numbered = numbered; fits = tt }

-- the message says what was written
pub says : (message : List ℕ) (fields : List Written) → message ≡ spelled fields → AllByRecursion IsTold fields
    → Counted message → contents_in message ≡ said fields
says message fields is all counted = contents-told fields message all is counted

-- a number that is left out where it is 0
pub if-told : (number value : ℕ) → 1 ≤ number → number < 2 ^ 29 → value < 2 ^ 64
    → AllByRecursion IsTold (if_above number value)
if-told number value named numbered fits = by (nat_lt 0 value)
  where
    by : (b : Bool) → AllByRecursion IsTold (if b then AsVarint number value ∷ [] else [])
    by true = (varint-told number value named numbered fits, tt)
    by false = tt

-- fields in two parts
pub told-append : (xs ys : List Written) → AllByRecursion IsTold xs → AllByRecursion IsTold ys
    → AllByRecursion IsTold (xs ++ ys)
told-append [] ys first second = second
told-append (x ∷ xs) ys first second = (first.0, told-append xs ys first.1 second)

pub zero-if : (n : ℕ) → nat_lt 0 n ≡ false → n ≡ 0
zero-if n is = let least = ltb-false 0 n is in omega (arith, least)

-- optional numbers among other fields
pub number-if_same : (number value : ℕ) (after : List Written) → value < 2 ^ 64 → number_under number (said after) ≡ 0
    → number_under number (said (if_above number value ++ after)) ≡ value
number-if_same number value after fits none = by (nat_lt 0 value) refl
  where
    by : (b : Bool) → nat_lt 0 value ≡ b
        → number_under number (said ((if b then AsVarint number value ∷ [] else []) ++ after)) ≡ value
    by true is = rw (eq-eqb number number refl) (low64-same value fits)
    by false is = none ∙ sym (zero-if value is)

pub number-if_other : (number other value : ℕ) (after : List Written) → (number == other) ≡ false
    → number_under other (said (if_above number value ++ after)) ≡ number_under other (said after)
number-if_other number other value after apart = by (nat_lt 0 value)
  where
    by : (b : Bool)
        → number_under other (said ((if b then AsVarint number value ∷ [] else []) ++ after))
        ≡ number_under other (said after)
    by true = rw apart refl
    by false = refl

pub payloads-if : (number other value : ℕ) (after : List Written)
    → payloads_under other (said (if_above number value ++ after)) ≡ payloads_under other (said after)
payloads-if number other value after = by (nat_lt 0 value)
  where
    none : (b : Bool) → (if b then held_payload (Varint value) else []) ≡ []
    none true = refl
    none false = refl

    by : (b : Bool)
        → payloads_under other (said ((if b then AsVarint number value ∷ [] else []) ++ after))
        ≡ payloads_under other (said after)
    by true =
        ap (λ (l : List (List ℕ)). l ++ payloads_under other (said after)) (none (number == other))
    by false = refl

-- the last of the fields
pub last : (number value : ℕ) → if_above number value ++ [] ≡ if_above number value
last number value = append-nil (if_above number value)

pub number-last_same : (number value : ℕ) → value < 2 ^ 64 → number_under number (said (if_above number value)) ≡ value
number-last_same number value fits =
    ap (λ (l : List Written). number_under number (said l)) (sym (last number value))
    ∙ number-if_same number value [] fits refl

pub number-last_other : (number other value : ℕ) → (number == other) ≡ false
    → number_under other (said (if_above number value)) ≡ 0
number-last_other number other value apart =
    ap (λ (l : List Written). number_under other (said l)) (sym (last number value))
    ∙ number-if_other number other value [] apart

pub payloads-last : (number other value : ℕ) → payloads_under other (said (if_above number value)) ≡ []
payloads-last number other value =
    ap (λ (l : List Written). payloads_under other (said l)) (sym (last number value))
    ∙ payloads-if number other value []

module _ {X : Type 0} (number : ℕ) (message : X → List ℕ) where
  -- the messages of a number that comes once
  pub found : (items : List X) (after : List Written) → payloads_under number (said after) ≡ []
      → payloads_under number (said (repeated number message items ++ after)) ≡ map message items
  found items after none =
      payloads-same number message items after
      ∙ ap (λ (l : List (List ℕ)). map message items ++ l) none ∙ append-nil (map message items)

  pub found-last : (items : List X) → payloads_under number (said (repeated number message items)) ≡ map message items
  found-last items =
      ap (λ (l : List Written). payloads_under number (said l)) (sym (append-nil (repeated number message items)))
      ∙ found items [] refl

  pub found-none : (other : ℕ) → (number == other) ≡ false → (items : List X)
      → payloads_under other (said (repeated number message items)) ≡ []
  found-none other apart items =
      ap (λ (l : List Written). payloads_under other (said l)) (sym (append-nil (repeated number message items)))
      ∙ payloads-other number message other apart items []

  pub number-none : (other : ℕ) → (number == other) ≡ false → (items : List X)
      → number_under other (said (repeated number message items)) ≡ 0
  number-none other apart items =
      ap (λ (l : List Written). number_under other (said l)) (sym (append-nil (repeated number message items)))
      ∙ number-other number message other apart items []

-- of fields in two parts, each can be counted
pub first-counts : (xs ys : List Written) → Counted (spelled (xs ++ ys)) → Counted (spelled xs)
first-counts xs ys counted =
    fits-first (spelled xs) (spelled ys) (subst Counted (spelled-append xs ys) counted)

pub second-counts : (xs ys : List Written) → Counted (spelled (xs ++ ys)) → Counted (spelled ys)
second-counts xs ys counted =
    fits-second (spelled xs) (spelled ys) (subst Counted (spelled-append xs ys) counted)

-- both of each
pub both-hold : {X : Type 0} (P Q : X → Type 0) (xs : List X) → AllByRecursion P xs → AllByRecursion Q xs
    → AllByRecursion (λ x. P x × Q x) xs
both-hold P Q [] first second = tt
both-hold P Q (x ∷ xs) first second = ((first.0, second.0), both-hold P Q xs first.1 second.1)

pub truth-back : (truth : Bool) → not (truth_number truth == 0) ≡ truth
truth-back true = refl
truth-back false = refl
