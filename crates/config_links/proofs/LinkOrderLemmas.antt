-- The leaves of a link in the order of the places that they are bound to.
use Rattle.std.proofs.Common.{◌≡◌, ◌≢◌, ℕ, zero, suc, ◌+◌, ◌<◌, ◌≤◌, Bool, true, false, cond, nat_eq, List, [], ◌∷◌, ◌++◌, length, map, filter, get_or, slice_get, Some, All, AllPairs, refl, sym, ap, ◌∙◌, subst, arith, inl, inr}
use Rattle.std.specs.Option.{unwrap_or}
use Rattle.std.specs.List.{list_any, range_with_len}
use Rattle.std.proofs.lemmas.List.{length-map, get_or-map, append-nil, map-append}
use Rattle.std.proofs.lemmas.List.Elements.{filter-append, All-filter, filter_passes}
use Rattle.std.proofs.lemmas.List.Folds.{list_any_at}
use Rattle.std.proofs.lemmas.List.FromFn.{get_or-range_with_len, length-range_with_len}
use Rattle.std.proofs.lemmas.List.Kept.{AllPairs-filter}
use Rattle.std.proofs.lemmas.Bool.{cases_lt}
use Rattle.std.proofs.lemmas.Bool.Decides.{Decides-eqb}
use Rattle.distinct.specs.Places.{first_place}
use Rattle.field_select.specs.declared.leaf.LeafPath.{LeafPath}
use Rattle.config_links.specs.LinkReasons.{no_leaf}
use Rattle.config_links.specs.MetricLinks.{leaf_bound, rising_places}
use Rattle.config_links.proofs.SoundNames.{pairs_mapped, place_below, passes_first}

-- one number more is the last
range_next : (from count : ℕ) → range_with_len from (suc count) ≡ range_with_len from count ++ (from + count) ∷ []
range_next from zero = ap (λ n. n ∷ []) (omega arith)
range_next from (suc count) =
    ap (λ l. from ∷ l) (range_next (from + 1) count)
    ∙ ap (λ n. from ∷ (range_with_len (from + 1) count ++ n ∷ [])) (omega arith)

range_more : (count : ℕ) → range_with_len 0 (count + 1) ≡ range_with_len 0 count ++ (0 + count) ∷ []
range_more count =
    let next : count + 1 ≡ suc count = omega arith in ap (range_with_len 0) next ∙ range_next 0 count

module _ (named : List ℕ) where
  -- one place more is there exactly where it is named
  places_more : (count : ℕ) → rising_places (count + 1) named
      ≡ rising_places count named ++ cond (list_any (nat_eq count) named) (count ∷ []) []
  places_more count =
      ap (filter (λ place. list_any (nat_eq place) named)) (range_more count)
      ∙ filter-append (λ place. list_any (nat_eq place) named) (range_with_len 0 count) ((0 + count) ∷ [])
      ∙ ap (λ n. rising_places count named ++ cond (list_any (nat_eq n) named) (n ∷ []) []) (omega arith)

  one_named : (count : ℕ) → list_any (nat_eq count) named ≡ true
      → rising_places (count + 1) named ≡ rising_places count named ++ count ∷ []
  one_named count is =
      places_more count ∙ ap (λ b. rising_places count named ++ cond b (count ∷ []) []) is

  one_unnamed : (count : ℕ) → list_any (nat_eq count) named ≡ false
      → rising_places (count + 1) named ≡ rising_places count named
  one_unnamed count is =
      places_more count ∙ ap (λ b. rising_places count named ++ cond b (count ∷ []) []) is
      ∙ append-nil (rising_places count named)

  module _ (leaves : List LeafPath) (place : ℕ) (places : List ℕ) (ordered : List LeafPath) (new_places : List ℕ)
      (new_ordered : List LeafPath) where
    -- the places that are named, and their leaves
    abbrev AreSoFar : ℕ → List ℕ → List LeafPath → Type 0
    AreSoFar count those made =
        (those ≡ rising_places count named) × (made ≡ map (leaf_bound named leaves) (rising_places count named))

    -- a place that is named comes last, with its leaf
    pub places_with : (leaf : LeafPath) → AreSoFar place places ordered → list_any (nat_eq place) named ≡ true
        → new_places ≡ places ++ place ∷ [] → new_ordered ≡ ordered ++ leaf ∷ [] → leaf ≡ leaf_bound named leaves place
        → AreSoFar (place + 1) new_places new_ordered
    places_with leaf before is added made bound =
        let more = one_named place is in (
          added ∙ ap (λ l. l ++ place ∷ []) before.0 ∙ sym more,
          made ∙ ap (λ l. l ++ leaf ∷ []) before.1
              ∙ ap (λ last. map (leaf_bound named leaves) (rising_places place named) ++ last ∷ []) bound
              ∙ sym (map-append (leaf_bound named leaves) (rising_places place named) (place ∷ []))
              ∙ ap (map (leaf_bound named leaves)) (sym more),
        )

    -- one that isn't changes nothing
    pub places_without : AreSoFar place places ordered → list_any (nat_eq place) named ≡ false
        → new_places ≡ places → new_ordered ≡ ordered → AreSoFar (place + 1) new_places new_ordered
    places_without before is same same_made =
        let more = one_unnamed place is in (
          same ∙ before.0 ∙ sym more,
          same_made ∙ before.1 ∙ ap (map (leaf_bound named leaves)) (sym more),
        )

-- a number that two lists have
same_some : (one other : ℕ) → Some one ≡ Some other → one ≡ other
same_some one other e = cc

-- a list that keeps an item isn't empty
some_kept : (test : ℕ → Bool) (xs : List ℕ) (at d : ℕ) → at < length xs → test (get_or xs at d) ≡ true
    → 1 ≤ length (filter test xs)
some_kept test [] at d within is = absurd (omega (arith, within))
some_kept test (x ∷ xs) zero d within is =
    let kept = ap (λ b. length (cond b (x ∷ filter test xs) (filter test xs))) is in omega (arith, kept)
some_kept test (x ∷ xs) (suc at) d within is =
    by (test x) (some_kept test xs at d (omega (arith, within)) is)
  where
    by : (b : Bool) → 1 ≤ length (filter test xs) → 1 ≤ length (cond b (x ∷ filter test xs) (filter test xs))
    by true some = omega arith
    by false some = some

module _ (count : ℕ) (named : List ℕ) where
  -- each is below the count
  pub places_within : All (λ place. place < count) (rising_places count named)
  places_within =
      All-filter (λ place. list_any (nat_eq place) named) (λ place. place < count) (range_with_len 0 count)
      (λ at d within.
      let size = length-range_with_len 0 count in
      let is = get_or-range_with_len 0 count at d (omega (arith, within, size)) in omega (arith, is, within, size))

  -- they rise
  pub places_rise : AllPairs (λ (place later : ℕ). place < later) (rising_places count named)
  places_rise =
      AllPairs-filter (λ (place later : ℕ). place < later) (λ place. list_any (nat_eq place) named)
      (range_with_len 0 count)
      (λ one later d before within.
      let size = length-range_with_len 0 count in
      let first = get_or-range_with_len 0 count one d (omega (arith, before, within, size)) in
      let second = get_or-range_with_len 0 count later d (omega (arith, within, size)) in
      omega (arith, first, second, before))

  -- there is one where one is named
  pub some_place : 1 ≤ length named → All (λ place. place < count) named → 1 ≤ length (rising_places count named)
  some_place some below =
      let place = get_or named 0 0 in
      let within : place < count = below 0 0 some in
      let size = length-range_with_len 0 count in
      let stands : get_or (range_with_len 0 count) place 0 ≡ place =
      get_or-range_with_len 0 count place 0 within ∙ omega arith in
      some_kept (λ p. list_any (nat_eq p) named) (range_with_len 0 count) place 0 (omega (arith, within, size))
      (ap (λ p. list_any (nat_eq p) named) stands
      ∙ list_any_at (nat_eq place) named 0 0 some ((Decides-eqb place place).1 refl))

  module _ (leaves : List LeafPath) (as_many : length named ≡ length leaves) where
    -- the turn of a place that is named
    abbrev turn : ℕ → ℕ
    turn place = unwrap_or (first_place (nat_eq place) named) 0

    turn_within : (place : ℕ) → list_any (nat_eq place) named ≡ true → turn place < length leaves
    turn_within place is = omega (arith, place_below (nat_eq place) named is, as_many)

    -- the place of a turn
    at_turn : (place : ℕ) → list_any (nat_eq place) named ≡ true → slice_get named (turn place) ≡ Some place
    at_turn place is =
        let first = passes_first (nat_eq place) named is in
        first.1 ∙ ap Some (sym ((Decides-eqb place first.0).0 first.2))

    -- a place in order is named
    is_named : (at d : ℕ) → at < length (rising_places count named)
        → list_any (nat_eq (get_or (rising_places count named) at d)) named ≡ true
    is_named at d within = filter_passes (λ place. list_any (nat_eq place) named) (range_with_len 0 count) at d within

    -- what holds of each leaf holds of those in order
    pub leaves_kept : (P : LeafPath → Type 0) → All P leaves
        → All P (map (leaf_bound named leaves) (rising_places count named))
    leaves_kept P each at d within =
        let places = rising_places count named in
        let in_places : at < length places =
        omega (arith, within, length-map places (leaf_bound named leaves)) in
        subst P (sym (get_or-map (leaf_bound named leaves) places at 0 d in_places))
        (each (turn (get_or places at 0)) no_leaf (turn_within (get_or places at 0) (is_named at 0 in_places)))

    -- leaves of which none comes twice
    leaves_differ : AllPairs (λ leaf later. leaf ≢ later) leaves → (one other : ℕ) → one < length leaves
        → other < length leaves → one ≢ other → get_or leaves one no_leaf ≢ get_or leaves other no_leaf
    leaves_differ once one other in_one in_other apart same = elim (cases_lt one other) [
      | inl before ↦ once one other no_leaf before in_other same
      | inr after ↦ once other one no_leaf (omega (arith, after, apart)) in_one (sym same)
    ]

    -- where no leaf comes twice, none does in order
    pub leaves_once : AllPairs (λ leaf later. leaf ≢ later) leaves
        → AllPairs (λ leaf later. leaf ≢ later) (map (leaf_bound named leaves) (rising_places count named))
    leaves_once once =
        let places = rising_places count named in
        pairs_mapped (leaf_bound named leaves) (λ leaf later. leaf ≢ later) places
        (λ one later d before within.
        let first = get_or places one d in
        let second = get_or places later d in
        let is = is_named one d (omega (arith, before, within)) in
        let is_too = is_named later d within in
        leaves_differ once (turn first) (turn second) (turn_within first is) (turn_within second is_too)
        (λ (same : turn first ≡ turn second).
        let one_place : first ≡ second =
        same_some first second (sym (at_turn first is) ∙ ap (slice_get named) same ∙ at_turn second is_too) in
        omega (arith, one_place, places_rise one later d before within)))
