-- A search to a depth finds what is reached, where it follows as many references as there are that refer at all.
use Rattle.std.proofs.Common.{◌≡◌, ℕ, zero, suc, ◌<◌, ◌≤◌, ◌⊎◌, inl, inr, Bool, true, false, ◌||◌, List, [], ◌∷◌, length, refl, sym, ap, subst, arith}
use Rattle.std.specs.Bool.{Decides}
use Rattle.std.specs.List.{list_any, AllByRecursion}
use Rattle.std.proofs.lemmas.Bool.{cases_Bool, or_cases, or_left, or_right, false≢true}
use Rattle.link_graph.specs.Reaches.{Leads, Reaches}
use Rattle.link_graph.specs.Within.{follows_within}
use Rattle.link_graph.proofs.ReachesLaws.{reaches_once, reaches_first}

module _ {A : Type 0} (same : A → A → Bool) (exact : (x y : A) → Decides (same x y) (x ≡ y)) where
  -- an item is one of these
  abbrev pub among : A → List A → Bool
  among x xs = list_any (same x) xs

  equal : (x y : A) → same x y ≡ true → x ≡ y
  equal x y e = (exact x y).0 e

  itself : (x : A) → same x x ≡ true
  itself x = (exact x x).1 refl

  -- where some item passes a test, one of these does
  some_passes : (test : A → Bool) (xs : List A) → list_any test xs ≡ true
      → (x : A) × (among x xs ≡ true) × (test x ≡ true)
  some_passes test [] some = absurd (false≢true some)
  some_passes test (first ∷ xs) some =
      let cases : (test first ≡ true) ⊎ (list_any test xs ≡ true) = or_cases _ _ some in
      elim cases [
        | inl here ↦ (first, or_left _ _ (itself first), here)
        | inr later ↦ let found = some_passes test xs later in (found.0, or_right _ _ found.1, found.2)
      ]

  -- and the other way round
  passes_some : (test : A → Bool) (xs : List A) (x : A) → among x xs ≡ true → test x ≡ true
      → list_any test xs ≡ true
  passes_some test [] x there passes = absurd (false≢true there)
  passes_some test (first ∷ xs) x there passes =
      let cases : (same x first ≡ true) ⊎ (among x xs ≡ true) = or_cases _ _ there in
      elim cases [
        | inl here ↦ or_left _ _ (subst (λ (z : A). test z ≡ true) (equal x first here) passes)
        | inr later ↦ or_right _ _ (passes_some test xs x later passes)
      ]

  -- an item before others, unless it is left out
  abbrev unless : Bool → A → List A → List A
  unless true x xs = xs
  unless false x xs = x ∷ xs

  -- the items but for one
  abbrev without : A → List A → List A
  without x [] = []
  without x (first ∷ xs) = unless (same x first) first (without x xs)

  unless_among : (out : Bool) (z x : A) (xs : List A) → among z xs ≡ true → among z (unless out x xs) ≡ true
  unless_among true z x xs there = there
  unless_among false z x xs there = or_right _ _ there

  unless_first : (out : Bool) (z x : A) (xs : List A) → out ≡ false → same z x ≡ true
      → among z (unless out x xs) ≡ true
  unless_first true z x xs kept here = absurd (false≢true (sym kept))
  unless_first false z x xs kept here = or_left _ _ here

  -- an item stays where another is left out
  among_without : (x z : A) (xs : List A) → same x z ≡ false → among z xs ≡ true → among z (without x xs) ≡ true
  among_without x z [] other there = there
  among_without x z (first ∷ xs) other there =
      let cases : (same z first ≡ true) ⊎ (among z xs ≡ true) = or_cases _ _ there in
      elim cases [
        | inl here ↦
            unless_first (same x first) z first (without x xs)
            (subst (λ (y : A). same x y ≡ false) (equal z first here) other) here
        | inr later ↦ unless_among (same x first) z first (without x xs) (among_without x z xs other later)
      ]

  unless_length : (out : Bool) (x : A) (xs : List A) → length (unless out x xs) ≤ suc (length xs)
  unless_length true x xs = omega arith
  unless_length false x xs = omega arith

  unless_out : (out : Bool) (x : A) (xs : List A) → out ≡ true → unless out x xs ≡ xs
  unless_out true x xs is = refl
  unless_out false x xs is = absurd (false≢true is)

  no_more : (x : A) (xs : List A) → length (without x xs) ≤ length xs
  no_more x [] = omega arith
  no_more x (first ∷ xs) = omega (arith, unless_length (same x first) first (without x xs), no_more x xs)

  -- one that is left out makes them fewer
  fewer : (x : A) (xs : List A) → among x xs ≡ true → length (without x xs) < length xs
  fewer x [] there = absurd (false≢true there)
  fewer x (first ∷ xs) there =
      let cases : (same x first ≡ true) ⊎ (among x xs ≡ true) = or_cases _ _ there in
      elim cases [
        | inl here ↦ omega (arith, ap length (unless_out (same x first) first (without x xs) here), no_more x xs)
        | inr later ↦ omega (arith, unless_length (same x first) first (without x xs), fewer x xs later)
      ]

  -- each item of a way is one of these
  abbrev AreAmong : List A → List A → Type 0
  AreAmong xs via = AllByRecursion (λ z. among z xs ≡ true) via

  module _ (named : A → List A) where
    -- x names y
    abbrev pub Names : A → A → Type 0
    Names x y = among y (named x) ≡ true

    -- what the search finds is reached
    pub sound : (n : ℕ) (x y : A) → follows_within same named n x y ≡ true → Reaches Names x y
    sound zero x y found = absurd (false≢true found)
    sound (suc n) x y found =
        let one = some_passes (λ next. same next y || follows_within same named n next y) (named x) found in
        let cases : (same one.0 y ≡ true) ⊎ (follows_within same named n one.0 y ≡ true) = or_cases _ _ one.2 in
        elim cases [
          | inl here ↦ subst (λ (z : A). Reaches Names x z) (equal one.0 y here) (reaches_once Names x one.0 one.1)
          | inr later ↦ reaches_first Names x one.0 y one.1 (sound n one.0 y later)
        ]

    -- what a list of references does after its last visit of x; or it doesn't come there
    last_visit : (x y : A) (xs : List A) (z : A) (via : List A) → Leads Names z via y → AreAmong xs via
        → ((later : List A) × Leads Names x later y × AreAmong (without x xs) later) ⊎ AreAmong (without x xs) via
    last_visit x y xs z [] leads inside = inr tt
    last_visit x y xs z (next ∷ via) leads inside =
        elim (last_visit x y xs next via leads.1 inside.1) [
          | inl visit ↦ inl visit
          | inr apart ↦ elim (cases_Bool (same x next)) [
            | inl here ↦
                inl (via, subst (λ (w : A). Leads Names w via y) (sym (equal x next here)) leads.1, apart)
            | inr other ↦ inr (among_without x next xs other inside.0, apart)
          ]
        ]

    -- where a list of references stays among these, so many references are enough
    abbrev FindsAmong : ℕ → List A → Type 0
    FindsAmong n xs =
        (x y : A) (via : List A) → Leads Names x via y → among x xs ≡ true → AreAmong xs via
        → follows_within same named n x y ≡ true

    one_more : (n : ℕ) (xs : List A) → FindsAmong n xs → (x y : A) (via : List A) → Leads Names x via y
        → AreAmong xs via → follows_within same named (suc n) x y ≡ true
    one_more n xs finds x y [] leads inside =
        passes_some (λ next. same next y || follows_within same named n next y) (named x) y leads
        (or_left _ _ (itself y))
    one_more n xs finds x y (next ∷ via) leads inside =
        passes_some (λ next. same next y || follows_within same named n next y) (named x) next leads.0
        (or_right _ _ (finds next y via leads.1 inside.0 inside.1))

    complete : (n : ℕ) (xs : List A) → length xs ≤ n → FindsAmong n xs
    complete zero [] few x y via leads here inside = absurd (false≢true here)
    complete zero (first ∷ xs) few x y via leads here inside = absurd (omega arith)
    complete (suc n) xs few x y via leads here inside =
        let finds = complete n (without x xs) (omega (arith, few, fewer x xs here)) in
        elim (last_visit x y xs x via leads inside) [
          | inl visit ↦ one_more n (without x xs) finds x y visit.0 visit.1 visit.2
          | inr apart ↦ one_more n (without x xs) finds x y via leads apart
        ]

    module _ (xs : List A) (source : (x y : A) → Names x y → among x xs ≡ true) where
      sources : (x y : A) (via : List A) → Leads Names x via y → (among x xs ≡ true) × AreAmong xs via
      sources x y [] leads = (source x y leads, tt)
      sources x y (next ∷ via) leads =
          let later = sources next y via leads.1 in
          (source x next leads.0, (later.0, later.1))

      -- where only these refer to others, as many references as there are of these are enough
      pub found : (n : ℕ) → length xs ≤ n → (x y : A) → Reaches Names x y → follows_within same named n x y ≡ true
      found n few x y w =
          let inside = sources x y w.0 w.1 in
          complete n xs few x y w.0 w.1 inside.0 inside.1
