-- Places in lists under keys.
use Rattle.std.proofs.Common.{◌≡◌, ℕ, zero, suc, ◌+◌, ◌<◌, ◌==◌, ◌||◌, Bool, true, false, if◌then◌else◌, List, [], ◌∷◌, ◌++◌, length, set, take, get_or, refl, sym, ap, subst, ◌∙◌, ◌⊎◌, append_assoc, append-nil, arith, inl, inr, map, drop}
use Rattle.std.specs.List.{flat_map, list_any, range_with_len}
use Rattle.std.proofs.lemmas.Bool.{cases_Bool, cases_lt, cases_eq, true≢false, false≢true}
use Rattle.std.proofs.lemmas.Bool.Decides.{Decides-eqb}
use Rattle.std.proofs.lemmas.List.{get_or-set_same, get_or-set_other, get_or_append_left, get_or_past, take_more, append-nil, take_all, drop_all}
use Rattle.std.proofs.lemmas.List.Concat.{flat_map-append}
use Rattle.std.proofs.lemmas.List.Folds.{list_any-append, list_any_none, list_any_at}
use Rattle.known_conditions.specs.Lists.{is_in, stands_under, KeepsListed, IsListedUnder, places_under}

-- a number is in a list that has it first
pub same_number : (n : ℕ) → (n == n) ≡ true
same_number n = (Decides-eqb n n).1 refl

-- a number is in the first list or in the second
pub is_in-append : (n : ℕ) (xs ys : List ℕ) → is_in n (xs ++ ys) ≡ (is_in n xs || is_in n ys)
is_in-append n xs ys = list_any-append (λ other. other == n) xs ys

either_first : (first second : Bool) → first ≡ true → (first || second) ≡ true
either_first true second on = refl
either_first false second on = absurd (false≢true on)

either_second : (first second : Bool) → second ≡ true → (first || second) ≡ true
either_second true second on = refl
either_second false second on = on

pub neither_first : (first second : Bool) → (first || second) ≡ false → first ≡ false
neither_first true second off = absurd (true≢false off)
neither_first false second off = refl

pub neither_second : (first second : Bool) → (first || second) ≡ false → second ≡ false
neither_second true second off = absurd (true≢false off)
neither_second false second off = off

-- what is in what one key gives is among what all give
in_some : (f : ℕ → List ℕ) (place from n key : ℕ) → key < n → is_in place (f (from + key)) ≡ true
    → is_in place (flat_map f (range_with_len from n)) ≡ true
in_some f place from zero key within there = absurd (omega (arith, within))
in_some f place from (suc n) zero within there =
    is_in-append place (f from) (flat_map f (range_with_len (from + 1) n))
    ∙ either_first (is_in place (f from)) (is_in place (flat_map f (range_with_len (from + 1) n)))
    (subst (λ k. is_in place (f k) ≡ true) (omega arith) there)
in_some f place from (suc n) (suc key) within there =
    is_in-append place (f from) (flat_map f (range_with_len (from + 1) n))
    ∙ either_second (is_in place (f from)) (is_in place (flat_map f (range_with_len (from + 1) n)))
    (in_some f place (from + 1) n key (omega (arith, within))
    (subst (λ k. is_in place (f k) ≡ true) (omega arith) there))

-- there is a list where something is listed
listed_within : (lists : List (List ℕ)) (key place : ℕ) → stands_under lists key place ≡ true → key < length lists
listed_within lists key place there = elim (cases_lt key (length lists)) [
  | inl within ↦ within
  | inr past ↦ absurd (false≢true (ap (is_in place) (sym (get_or_past lists key [] past)) ∙ there))
]

-- where a key holds, what is listed there is among the places under the keys that hold
under_key : (lists : List (List ℕ)) (holds : ℕ → Bool) (key place : ℕ) → holds key ≡ true
    → stands_under lists key place ≡ true → is_in place (places_under lists holds) ≡ true
under_key lists holds key place on there =
    in_some (λ k. if holds k then get_or lists k [] else []) place 0 (length lists) key
    (listed_within lists key place there)
    (subst (λ k. is_in place (if holds k then get_or lists k [] else []) ≡ true) (omega arith)
    (ap (λ b. is_in place (if b then get_or lists key [] else [])) on ∙ there))

-- so no key of a place holds that isn't among them
pub none_hold : (lists : List (List ℕ)) (holds : ℕ → Bool) (keys : List ℕ) (place : ℕ) → IsListedUnder lists keys place
    → is_in place (places_under lists holds) ≡ false → list_any holds keys ≡ false
none_hold lists holds keys place listed out =
    list_any_none holds keys (λ k none within.
    let key = get_or keys k none in
    elim (cases_Bool (holds key)) [
      | inl on ↦
          absurd (true≢false (sym (under_key lists holds key place on (listed key
          (list_any_at (λ other. other == key) keys k none within (same_number key)))) ∙ out))
      | inr off ↦ off
    ])

-- what was listed is listed where an empty list is added
pub kept_with_empty : (lists : List (List ℕ)) → KeepsListed lists (lists ++ [] ∷ [])
kept_with_empty lists key place there =
    ap (is_in place) (get_or_append_left lists ([] ∷ []) [] key (listed_within lists key place there)) ∙ there

-- and where a place is added to a list
pub kept_with_place : (lists : List (List ℕ)) (at place : ℕ) → at < length lists
    → KeepsListed lists (set lists at (get_or lists at [] ++ place ∷ []))
kept_with_place lists at place within key other there = elim (cases_eq key at) [
  | inl same ↦
      let old = get_or lists at [] in
      subst (λ k. stands_under (set lists at (old ++ place ∷ [])) k other ≡ true) (sym same)
      (ap (is_in other) (get_or-set_same lists at (old ++ place ∷ []) [] within)
      ∙ is_in-append other old (place ∷ [])
      ∙ either_first (is_in other old) (is_in other (place ∷ []))
      (subst (λ k. stands_under lists k other ≡ true) same there))
  | inr differ ↦
      ap (is_in other) (get_or-set_other lists at key (get_or lists at [] ++ place ∷ []) [] differ) ∙ there
]

-- where it is listed then
pub listed_with_place : (lists : List (List ℕ)) (at place : ℕ) → at < length lists
    → stands_under (set lists at (get_or lists at [] ++ place ∷ [])) at place ≡ true
listed_with_place lists at place within =
    let old = get_or lists at [] in
    ap (is_in place) (get_or-set_same lists at (old ++ place ∷ []) [] within)
    ∙ is_in-append place old (place ∷ [])
    ∙ either_second (is_in place old) (is_in place (place ∷ []))
    (ap (λ b. b || false) (same_number place))

-- what was listed stays listed through more
pub kept_through : (old middle new : List (List ℕ)) → KeepsListed old middle → KeepsListed middle new
    → KeepsListed old new
kept_through old middle new first second key place there = second key place (first key place there)

-- what is among one number more is among the others, or is that one
pub in_one_more : (numbers : List ℕ) (turn number none : ℕ) → turn < length numbers
    → is_in number (take (turn + 1) numbers) ≡ true
    → (is_in number (take turn numbers) ≡ true) ⊎ (get_or numbers turn none ≡ number)
in_one_more numbers turn number none within among =
    let all = ap (is_in number) (take_more numbers turn none within)
    ∙ is_in-append number (take turn numbers) (get_or numbers turn none ∷ []) in
    elim (cases_Bool (is_in number (take turn numbers))) [
      | inl there ↦ inl there
      | inr isnt ↦
          inr ((Decides-eqb (get_or numbers turn none) number).0
          (by_last (is_in number (take turn numbers)) (get_or numbers turn none == number) isnt (sym all ∙ among)))
    ]
  where
    by_last : (first last : Bool) → first ≡ false → (first || (last || false)) ≡ true → last ≡ true
    by_last true last off any = absurd (true≢false off)
    by_last false true off any = refl
    by_last false false off any = absurd (false≢true any)

-- a place is listed under one key more
pub under_one_more : (lists new : List (List ℕ)) (keys : List ℕ) (turn key place none : ℕ) → turn < length keys
    → key ≡ get_or keys turn none → KeepsListed lists new → IsListedUnder lists (take turn keys) place
    → stands_under new key place ≡ true → IsListedUnder new (take (turn + 1) keys) place
under_one_more lists new keys turn key place none within is kept listed here other among =
    elim (in_one_more keys turn other none within among) [
      | inl there ↦ kept other place (listed other there)
      | inr last ↦ subst (λ k. stands_under new k place ≡ true) (is ∙ last) here
    ]

-- So many of the items are in the lists of their keys.
abbrev pub AreListedBefore : {A : Type 0} → List (List ℕ) → (A → List ℕ) → List A → ℕ → Type 0
AreListedBefore {A} lists keys items count =
    (place : ℕ) (none : A) → place < count → IsListedUnder lists (keys (get_or items place none)) place

-- one more is
pub one_more_listed : {A : Type 0} (old new : List (List ℕ)) (keys : A → List ℕ) (items : List A) (count : ℕ)
    (item : A) → ((none : A) → item ≡ get_or items count none)
    → AreListedBefore old keys items count → KeepsListed old new → IsListedUnder new (keys item) count
    → AreListedBefore new keys items (count + 1)
one_more_listed old new keys items count item is before kept here place none within = elim (cases_eq place count) [
  | inl same ↦
      subst (λ p. IsListedUnder new (keys (get_or items p none)) p) (sym same)
      (subst (λ m. IsListedUnder new (keys m) count) (is none) here)
  | inr differ ↦ λ key among. kept key place (before place none (omega (arith, within, differ)) key among)
]

-- the numbers from one on, and one more
range_more : (from count : ℕ) → range_with_len from (suc count) ≡ range_with_len from count ++ (from + count) ∷ []
range_more from zero = ap (λ n. n ∷ []) (omega arith)
range_more from (suc count) =
    ap (λ l. from ∷ l) (range_more (from + 1) count
    ∙ ap (λ n. range_with_len (from + 1) count ++ n ∷ []) (omega arith))

-- the places under the keys so far that hold
abbrev pub places_before : List (List ℕ) → (ℕ → Bool) → ℕ → List ℕ
places_before lists holds count =
    flat_map (λ key. if holds key then get_or lists key [] else []) (range_with_len 0 count)

-- those under one key more
pub places_more : (lists : List (List ℕ)) (holds : ℕ → Bool) (count : ℕ) (list : List ℕ) (holds_here : Bool)
    → holds_here ≡ holds count → list ≡ get_or lists count [] → (before now : List ℕ)
    → now ≡ before ++ places_before lists holds count
    → now ++ (if holds_here then list else []) ≡ before ++ places_before lists holds (count + 1)
places_more lists holds count list holds_here on is before now so_far =
    let f : ℕ → List ℕ = λ key. if holds key then get_or lists key [] else [] in
    let next : count + 1 ≡ suc count = omega arith in
    let here : 0 + count ≡ count = omega arith in
    ap (λ l. l ++ (if holds_here then list else [])) so_far
    ∙ ap (λ b. (before ++ places_before lists holds count) ++ (if b then list else [])) on
    ∙ ap (λ l. (before ++ places_before lists holds count) ++ (if holds count then l else [])) is
    ∙ append_assoc before (places_before lists holds count) (f count)
    ∙ ap (λ l. before ++ l)
    (ap (λ l. flat_map f (range_with_len 0 count) ++ l) (sym (append-nil (f count)))
    ∙ sym (flat_map-append f (range_with_len 0 count) (count ∷ []))
    ∙ ap (flat_map f) (sym (ap (range_with_len 0) next ∙ range_more 0 count
    ∙ ap (λ n. range_with_len 0 count ++ n ∷ []) here)))

-- an element is replaced by one with the same image
pub map-set_same : {X Y : Type 0} (f : X → Y) (xs : List X) (i : ℕ) (x none : X) → i < length xs
    → f x ≡ f (get_or xs i none) → map f (set xs i x) ≡ map f xs
map-set_same f [] i x none within same = absurd (omega arith)
map-set_same f (first ∷ xs) zero x none within same = ap (λ y. y ∷ map f xs) same
map-set_same f (first ∷ xs) (suc i) x none within same =
    ap (λ l. f first ∷ l) (map-set_same f xs i x none (omega arith) same)

-- what a list of the same length as another leaves of it
pub whole : {X : Type 0} (items old : List X) (len : ℕ) → length items ≡ length old → len ≡ length old
    → take len (items ++ drop (length items) old) ≡ items
whole items old len same is =
    ap (λ l. take len (items ++ l)) (drop_all (length items) old (omega (arith, same)))
    ∙ ap (take len) (append-nil items) ∙ take_all len items (omega (arith, same, is))
