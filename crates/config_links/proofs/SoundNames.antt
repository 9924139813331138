-- What stands at the place of an id that is known, and what a name of a metric leads to.
use Rattle.std.proofs.Common.{◌≡◌, ◌≢◌, ℕ, zero, suc, ◌<◌, ◌≤◌, Bool, true, false, not, ◌&&◌, ◌||◌, ◌+◌, ◌==◌, cond, List, [], ◌∷◌, map, length, get_or, Option, Some, None, is_none, is_some, slice_get, if◌then◌else◌, nat_lt, AllPairs, refl, sym, ap, ◌∙◌, subst, arith}
use Rattle.std.specs.Prelude.{ℤ, pos}
use Rattle.std.specs.Ordering.{int_eq}
use Rattle.std.specs.Option.{option_map, option_and_then, unwrap_or}
use Rattle.std.specs.List.{AllByRecursion, list_any, list_all, position_or_len, find}
use Rattle.std.proofs.lemmas.Bool.{ltb-true, ltb-false}
use Rattle.std.proofs.lemmas.Option.{slice_get_within}
use Rattle.std.proofs.lemmas.Bool.Decides.{Decides-int_eq, Decides-eqb}
use Rattle.std.proofs.lemmas.List.{length-map, get_or-map}
use Rattle.distinct.specs.Places.{first_place}
use Rattle.distinct.proofs.PlaceLemmas.{found_at}
use Rattle.link_rules.specs.EntityIds.{id_place, place_in}
use Rattle.link_rules.specs.EntityNames.{first_unknown}
use Rattle.link_rules.proofs.CycleLemmas.{stands_at}
use Rattle.config_links.specs.SoundConfig.{MayBeWithin}

-- an id is one of these
abbrev pub Known : List ℤ → ℤ → Type 0
Known known id = list_any (int_eq id) known ≡ true

map_itself : {A : Type 0} (xs : List A) → map (λ x. x) xs ≡ xs
map_itself [] = refl
map_itself (x ∷ xs) = ap (λ more. x ∷ more) (map_itself xs)

finds_step : (same : Bool) (id first : ℤ) (known : List ℤ) → int_eq id first ≡ same → Known (first ∷ known) id
    → (Known known id → find (int_eq id) known ≡ Some id) → find (int_eq id) (first ∷ known) ≡ Some id
finds_step true id first known same is later =
    let one : id ≡ first = (Decides-int_eq id first).0 same in
    cc
finds_step false id first known same is later =
    let among : Known known id = cc in
    let more = later among in
    cc

finds_it : (known : List ℤ) (id : ℤ) → Known known id → find (int_eq id) known ≡ Some id
finds_it [] id is = absurd (cc)
finds_it (first ∷ known) id is = finds_step (int_eq id first) id first known refl is (finds_it known id)

-- an id that is known has a place
place_of_known : (known : List ℤ) (id : ℤ) (place : Option ℕ) → option_and_then (slice_get known) place ≡ Some id
    → (p : ℕ) × (place ≡ Some p)
place_of_known known id None h = absurd (cc)
place_of_known known id (Some p) h = (p, refl)

pub has_place : (known : List ℤ) (id : ℤ) → Known known id → (p : ℕ) × (id_place id known ≡ Some p)
has_place known id is =
    place_of_known known id (first_place (int_eq id) known)
    (ap (λ (ids : List ℤ). option_and_then (slice_get known) (first_place (int_eq id) ids)) (sym (map_itself known))
    ∙ found_at (int_eq id) (λ x. x) known ∙ finds_it known id is)

-- what an id that is known leads to stands at its place
pub led_to : {A : Type 0} (xs : List A) (known : List ℤ) (id : ℤ) → Known known id
    → option_and_then (slice_get xs) (id_place id known) ≡ slice_get xs (place_in known id)
led_to xs known id is =
    let has = has_place known id is in
    ap (option_and_then (slice_get xs)) has.1 ∙ ap (λ (place : Option ℕ). slice_get xs (unwrap_or place 0)) (sym has.1)

some_same : (one other : ℤ) → Some one ≡ Some other → one ≡ other
some_same one other h = cc

-- ids at the same place are one
pub same_place : (known : List ℤ) (one other : ℤ) → Known known one → Known known other
    → place_in known one ≡ place_in known other → one ≡ other
same_place known one other is is_too same =
    some_same one other
    (sym (stands_at known one is) ∙ ap (slice_get known) same ∙ stands_at known other is_too)

first_passes : (one other : Bool) → (one && other) ≡ true → one ≡ true
first_passes true other h = refl
first_passes false other h = absurd (cc)

others_pass : (one other : Bool) → (one && other) ≡ true → other ≡ true
others_pass true other h = h
others_pass false other h = absurd (cc)

module _ {A : Type 0} (test : A → Bool) where
  any_some : (xs : List A) → list_any test xs ≡ true → 0 < length xs
  any_some [] h = absurd (cc)
  any_some (x ∷ xs) h = omega arith

  chosen_within : (place count : ℕ) (found : Bool) → nat_lt place count ≡ found → 0 < count
      → unwrap_or (cond found (Some place) None) 0 < count
  chosen_within place count true is some = ltb-true place count is
  chosen_within place count false is some = some

  -- the first place of what some pass is one of theirs
  pub place_below : (xs : List A) → list_any test xs ≡ true → unwrap_or (first_place test xs) 0 < length xs
  unfolding first_place
  place_below xs h = chosen_within (position_or_len test xs) (length xs) _ refl (any_some xs h)

  -- one step down the list
  first_step : (passes : Bool) (x : A) (xs : List A) → test x ≡ passes → (passes || list_any test xs) ≡ true
      → (list_any test xs ≡ true → (y : A) × (slice_get xs (position_or_len test xs) ≡ Some y) × (test y ≡ true))
      → (y : A) × (slice_get (x ∷ xs) (cond (not passes) (1 + position_or_len test xs) 0) ≡ Some y) × (test y ≡ true)
  first_step true x xs passes any later = (x, refl, passes)
  first_step false x xs passes any later =
      let next : 1 + position_or_len test xs ≡ suc (position_or_len test xs) = omega arith in
      let found = later any in (found.0, ap (slice_get (x ∷ xs)) next ∙ found.1, found.2)

  first_item : (xs : List A) → list_any test xs ≡ true
      → (y : A) × (slice_get xs (position_or_len test xs) ≡ Some y) × (test y ≡ true)
  first_item [] any = absurd (cc)
  first_item (x ∷ xs) any = first_step (test x) x xs refl any (first_item xs)

  chosen_place : (place count : ℕ) (found : Bool) → nat_lt place count ≡ found → place < count
      → unwrap_or (cond found (Some place) None) 0 ≡ place
  chosen_place place count true is within = refl
  chosen_place place count false is within = absurd (omega (arith, within, ltb-false place count is))

  -- where some pass, what stands at the first place passes
  pub passes_first : (xs : List A) → list_any test xs ≡ true
      → (y : A) × (slice_get xs (unwrap_or (first_place test xs) 0) ≡ Some y) × (test y ≡ true)
  unfolding first_place
  passes_first xs any =
      let first = first_item xs any in
      let within = slice_get_within xs (position_or_len test xs) first.0 first.1 in
      let at = chosen_place (position_or_len test xs) (length xs) _ refl within in
      (first.0, ap (slice_get xs) at ∙ first.1, first.2)

  -- where all pass, each does
  pub all_pass : (xs : List A) → list_all test xs ≡ true → AllByRecursion (λ x. test x ≡ true) xs
  all_pass [] h = tt
  all_pass (x ∷ xs) h = (
    first_passes (test x) (list_all test xs) h,
    all_pass xs
        (others_pass (test x) (list_all test xs) h),
  )

known_step : (is : Bool) (id : ℤ) (more : Option ℤ) → (if is then more else Some id) ≡ None
    → (is ≡ true) × (more ≡ None)
known_step true id more h = (refl, h)
known_step false id more h = absurd (cc)

-- a name that is there, and isn't unknown
abbrev pub MayBeKnown : List ℤ → Option ℤ → Type 0
MayBeKnown known None = Unit {0}
MayBeKnown known (Some id) = Known known id

-- where none of these names is unknown, each that is there is known
pub names_known : (known : List ℤ) (names : List (Option ℤ)) → first_unknown known names ≡ None
    → AllByRecursion (MayBeKnown known) names
names_known known [] h = tt
names_known known (None ∷ names) h = (tt, names_known known names h)
names_known known (Some id ∷ names) h =
    let both = known_step (list_any (int_eq id) known) id (first_unknown known names) h in
    (both.0, names_known known names both.1)

-- a name that is there, and is known
pub may_known : (known : List ℤ) (what : Option ℤ) → MayBeKnown known what → is_none what ≡ false
    → Known known (unwrap_or what (pos 0))
may_known known None may has = absurd (cc)
may_known known (Some id) may has = may

-- the place of a name that is known, where it is there
pub may_be_within : (known : List ℤ) (count : ℕ) → length known ≤ count → (name : Option ℤ) → MayBeKnown known name
    → MayBeWithin count (option_map (place_in known) name)
may_be_within known count few None may = tt
may_be_within known count few (Some id) may =
    let below : place_in known id < length known = place_below (int_eq id) known may in
    omega (arith, below, few)

-- a number of which it is said that it is 0, or isn't
pub not_zero : (count : ℕ) → not (count == 0) ≡ true → 1 ≤ count
not_zero zero h = absurd (cc)
not_zero (suc count) h = omega arith

pub is_zero : {A : Type 0} (xs : List A) → (length xs == 0) ≡ true → xs ≡ []
is_zero [] h = refl
is_zero (x ∷ xs) h = let none : length (x ∷ xs) ≡ 0 = (Decides-eqb (length (x ∷ xs)) 0).0 h in absurd (omega arith)

pub nothing_found : {A : Type 0} (found : Option A) → is_none found ≡ true → found ≡ None
nothing_found None h = refl
nothing_found (Some x) h = absurd (cc)

pub something_found : {A : Type 0} (found : Option A) → is_some found ≡ true → found ≢ None
something_found None h = absurd (cc)
something_found (Some x) h = λ e. absurd (cc)

-- what holds of any two items holds of what is made of them
pub pairs_mapped : {A B : Type 0} (f : A → B) (R : B → B → Type 0) (xs : List A)
    → AllPairs (λ one later. R (f one) (f later)) xs → AllPairs R (map f xs)
pairs_mapped f R [] all i j d before within = absurd (omega arith)
pairs_mapped f R (x ∷ xs) all i j d before within =
    let in_j : j < length (x ∷ xs) = omega (arith, within, length-map (x ∷ xs) f) in
    let in_i : i < length (x ∷ xs) = omega (arith, before, in_j) in
    subst (λ a. R a (get_or (map f (x ∷ xs)) j d)) (sym (get_or-map f (x ∷ xs) i x d in_i))
    (subst (λ b. R (f (get_or (x ∷ xs) i x)) b) (sym (get_or-map f (x ∷ xs) j x d in_j)) (all i j x before in_j))
