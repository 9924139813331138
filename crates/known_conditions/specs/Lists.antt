-- Places in lists under keys: for private clauses.
use Rattle.std.specs.Prelude.{◌≡◌, ℕ, ◌<◌, ◌==◌, Bool, true, List, [], length, get_or, if◌then◌else◌}
use Rattle.std.specs.List.{flat_map, list_any, range_with_len}

-- a number is in a list
abbrev pub is_in : ℕ → List ℕ → Bool
is_in number numbers = list_any (λ other. other == number) numbers

-- a place is in the list of this key
abbrev pub stands_under : List (List ℕ) → ℕ → ℕ → Bool
stands_under lists key place = is_in place (get_or lists key [])

-- what was listed still is
abbrev pub KeepsListed : List (List ℕ) → List (List ℕ) → Type 0
KeepsListed old new = (key place : ℕ) → stands_under old key place ≡ true → stands_under new key place ≡ true

-- a place is listed under each of these keys
abbrev pub IsListedUnder : List (List ℕ) → List ℕ → ℕ → Type 0
IsListedUnder lists keys place = (key : ℕ) → is_in key keys ≡ true → stands_under lists key place ≡ true

-- each item's place is in the lists of its keys
abbrev pub AreListed : {A : Type 0} → List (List ℕ) → (A → List ℕ) → List A → Type 0
AreListed {A} lists keys items =
    (place : ℕ) (none : A) → place < length items → IsListedUnder lists (keys (get_or items place none)) place

-- the places in the lists of the keys that hold
abbrev pub places_under : List (List ℕ) → (ℕ → Bool) → List ℕ
places_under lists holds =
    flat_map (λ key. if holds key then get_or lists key [] else []) (range_with_len 0 (length lists))
