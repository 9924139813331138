-- On specs/Tokens.antt: the tokens of a number that may be below 0, and of a list.
use Rattle.std.proofs.Common.{◌≡◌, ℕ, ℤ, pos, negsuc, List, [], ◌∷◌, ◌++◌, map, refl, sym, ap, ◌∙◌, append_assoc}
use Rattle.std.specs.List.{flat_map}
use Rattle.std.specs.Fmt.{signed_decimal}
use Rattle.json.specs.Token.{Token, begin_array, end_array, key, number}
use Rattle.json.specs.Print.{print}
use Rattle.json.specs.Tree.{items_tokens}
use Rattle.serde_json.specs.Data.{Data}
use Rattle.serde_json.specs.View.{items_of}
use Rattle.serde_json.specs.Written.{items_outline, compact_text}
use Rattle.serde_json.proofs.Texts.{print-outline}
use Rattle.report_json.specs.ReportJson.{integer, list_of}
use Rattle.report_json.specs.Tokens.{tokens_of}

-- a number that may be below 0 is its digits with their sign
pub integer_tokens : (z : ℤ) → number (signed_decimal z) ∷ [] ≡ tokens_of (integer z)
integer_tokens (pos n) = refl
integer_tokens (negsuc n) = refl

-- a list is its items between brackets
module _ {X : Type 0} (shown : X → Data) where
  items-tokens : (xs : List X)
      → items_tokens (items_outline (items_of (map shown xs)))
      ≡ flat_map (λ x. tokens_of (shown x)) xs ++ end_array ∷ []
  items-tokens [] = refl
  items-tokens (x ∷ xs) =
      ap (λ (ts : List Token). tokens_of (shown x) ++ ts) (items-tokens xs)
      ∙ sym (append_assoc (tokens_of (shown x)) (flat_map (λ x. tokens_of (shown x)) xs) (end_array ∷ []))

  list_tokens : (xs : List X)
      → begin_array ∷ (flat_map (λ x. tokens_of (shown x)) xs ++ end_array ∷ []) ≡ tokens_of (list_of shown xs)
  list_tokens xs = ap (λ (ts : List Token). begin_array ∷ ts) (sym (items-tokens xs))

-- a list that is written after other tokens
pub array_written : {X : Type 0} (shown : X → Data) (xs : List X) (old : List Token)
    → (old ++ begin_array ∷ flat_map (λ x. tokens_of (shown x)) xs) ++ end_array ∷ []
    ≡ old ++ tokens_of (list_of shown xs)
array_written shown xs old =
    append_assoc old (begin_array ∷ flat_map (λ x. tokens_of (shown x)) xs) (end_array ∷ [])
    ∙ ap (λ (ts : List Token). old ++ ts) (list_tokens shown xs)

-- the tokens of a value, printed, are its text
pub printed : (shown : Data) → print (tokens_of shown) ≡ compact_text shown
printed shown = print-outline shown

-- tokens that were written after others, with the rest after them
pub after : (old new more rest : List Token) → new ≡ old ++ more → new ++ rest ≡ old ++ (more ++ rest)
after old new more rest is = ap (λ (ts : List Token). ts ++ rest) is ∙ append_assoc old more rest

-- a member that is an array, of items that are these
pub listed : {X : Type 0} (shown : X → Data) (name : List ℕ) (old new : List Token) (items same : List X)
    → new ≡ old ++ key name ∷ tokens_of (list_of shown items) → items ≡ same
    → new ≡ old ++ key name ∷ tokens_of (list_of shown same)
listed shown name old new items same is equal =
    is ∙ ap (λ xs. old ++ key name ∷ tokens_of (list_of shown xs)) equal
