-- Leaves that are kept with their places come back where they were.
use Rattle.std.proofs.Common.{◌≡◌, ◌≢◌, ℕ, zero, suc, ◌+◌, ◌-◌, ◌<◌, ◌≤◌, ◌==◌, Bool, true, false, List, [], ◌∷◌, ◌++◌, length, slice_get, Some, if◌then◌else◌, refl, sym, ap, ◌∙◌, append-nil, arith}
use Rattle.std.proofs.Common.{Option, None, MatchOption, option_to_list, Decides, nat_lt, inl, inr, get_or, rules}
use Rattle.std.specs.List.Sorted.{IsPartitionedBy, IsPartitionPoint}
use Rattle.std.specs.Cmp.Rules.{comparing, hashing}
use Rattle.std.specs.Cmp.Lexicographic.{pointwise, pointwise_decides}
use Rattle.std.proofs.lemmas.Bool.{cases_lt, true≢false, ltb-true, lt-ltb}
use Rattle.std.proofs.lemmas.Option.{slice_get-get_or, slice_get_within, get_or_from_slice_get}
use Rattle.std.proofs.lemmas.Bool.Decides.{Decides-eqb}
use Rattle.std.proofs.lemmas.List.{length-append}
use Rattle.atom_record.specs.declared.value.Leaf.{Leaf}
use Rattle.atom_record.specs.declared.value.Leaf.TheVariants.{Missing, One, Many}
use Rattle.atom_record.specs.declared.key.Present.{Present}
use Rattle.atom_record.specs.contracts.value.LeafPartialEq.TheImpl as leaf
use Rattle.atom_record.specs.contracts.key.PresentPartialEq.TheImpl as present
use Rattle.atom_record.specs.Equal.{leaf_exact}
use Rattle.atom_record.specs.Sparse.{spread, present_in, not_missing, kept_from}

-- a test that doesn't hold
false_unless : (test : Bool) → test ≢ true → test ≡ false
false_unless true fails = absurd (fails refl)
false_unless false fails = refl

-- two numbers that differ aren't equal by the test
apart : (one other : ℕ) → one ≢ other → (one == other) ≡ false
apart one other differs = false_unless (one == other) (λ is. differs ((Decides-eqb one other).0 is))

-- where the first that is kept comes later, the leaf at a place is missing
pub spread_later : (count place later : ℕ) (leaves : List Leaf) → place < later
    → spread (suc count) place (present_in later leaves) ≡ Missing ∷ spread count (suc place) (present_in later leaves)
spread_later count place later [] below = refl
spread_later count place later (Missing ∷ leaves) below = spread_later count place (suc later) leaves (omega arith)
spread_later count place later (One value ∷ leaves) below = let kept = present_in later (One value ∷ leaves) in
    ap (λ b. if b then One value ∷ spread count (suc place) (present_in (suc later) leaves)
    else Missing ∷ spread count (suc place) kept) (apart later place (omega arith))
spread_later count place later (Many values ∷ leaves) below = let kept = present_in later (Many values ∷ leaves) in
    ap (λ b. if b then Many values ∷ spread count (suc place) (present_in (suc later) leaves)
    else Missing ∷ spread count (suc place) kept) (apart later place (omega arith))

-- what is kept of leaves is spread to these again
pub spread_back : (place : ℕ) (leaves : List Leaf) → spread (length leaves) place (present_in place leaves) ≡ leaves
spread_back place [] = refl
spread_back place (Missing ∷ leaves) =
    spread_later (length leaves) place (suc place) leaves (omega arith)
    ∙ ap (λ l. Missing ∷ l) (spread_back (suc place) leaves)
spread_back place (One value ∷ leaves) = let kept = present_in place (One value ∷ leaves) in
    ap (λ b. if b then One value ∷ spread (length leaves) (suc place) (present_in (suc place) leaves)
    else Missing ∷ spread (length leaves) (suc place) kept) ((Decides-eqb place place).1 refl)
    ∙ ap (λ l. One value ∷ l) (spread_back (suc place) leaves)
spread_back place (Many values ∷ leaves) = let kept = present_in place (Many values ∷ leaves) in
    ap (λ b. if b then Many values ∷ spread (length leaves) (suc place) (present_in (suc place) leaves)
    else Missing ∷ spread (length leaves) (suc place) kept) ((Decides-eqb place place).1 refl)
    ∙ ap (λ l. Many values ∷ l) (spread_back (suc place) leaves)

-- either list has so many leaves
either_long : (test : Bool) (one other : List Leaf) (count : ℕ) → length one ≡ count → length other ≡ count
    → length (if test then one else other) ≡ count
either_long true one other count first second = first
either_long false one other count first second = second

-- as many leaves are spread as were asked for
pub spread_length : (count place : ℕ) (kept : List Present) → length (spread count place kept) ≡ count
spread_length zero place kept = refl
spread_length (suc count) place [] = ap suc (spread_length count (suc place) [])
spread_length (suc count) place (first ∷ rest) = either_long (first.place == place)
    (first.leaf ∷ spread count (suc place) rest) (Missing ∷ spread count (suc place) (first ∷ rest)) (suc count)
    (ap suc (spread_length count (suc place) rest)) (ap suc (spread_length count (suc place) (first ∷ rest)))

-- what is kept of leaves and of more
pub present_more : (place : ℕ) (leaves more : List Leaf)
    → present_in place (leaves ++ more) ≡ present_in place leaves ++ present_in (place + length leaves) more
present_more place [] more = ap (λ at. present_in at more) (omega arith)
present_more place (Missing ∷ leaves) more = present_more (suc place) leaves more
    ∙ ap (λ at. present_in (suc place) leaves ++ present_in at more) (omega arith)
present_more place (One value ∷ leaves) more =
    ap (λ l. record { place = place; leaf = One value } ∷ l) (present_more (suc place) leaves more
    ∙ ap (λ at. present_in (suc place) leaves ++ present_in at more) (omega arith))
present_more place (Many values ∷ leaves) more =
    ap (λ l. record { place = place; leaf = Many values } ∷ l) (present_more (suc place) leaves more
    ∙ ap (λ at. present_in (suc place) leaves ++ present_in at more) (omega arith))

-- what is kept stands at its first place or after it
pub place_from : (place : ℕ) (leaves : List Leaf) (at : ℕ) (one : Present)
    → slice_get (present_in place leaves) at ≡ Some one → place ≤ one.place
place_from place [] at one is = cc
place_from place (Missing ∷ leaves) at one is = let later = place_from (suc place) leaves at one is in omega arith
place_from place (One value ∷ leaves) zero one is = let first : one.place ≡ place = cc in omega arith
place_from place (One value ∷ leaves) (suc at) one is =
    let later = place_from (suc place) leaves at one is in omega arith
place_from place (Many values ∷ leaves) zero one is = let first : one.place ≡ place = cc in omega arith
place_from place (Many values ∷ leaves) (suc at) one is =
    let later = place_from (suc place) leaves at one is in omega arith

-- of what is kept, what stands earlier has the lower place
pub places_rise : (place : ℕ) (leaves : List Leaf) (at later : ℕ) (one other : Present) → at < later
    → slice_get (present_in place leaves) at ≡ Some one → slice_get (present_in place leaves) later ≡ Some other
    → one.place < other.place
places_rise place [] at later one other before first second = cc
places_rise place (Missing ∷ leaves) at later one other before first second =
    places_rise (suc place) leaves at later one other before first second
places_rise place (One value ∷ leaves) at zero one other before first second = absurd (omega arith)
places_rise place (Many values ∷ leaves) at zero one other before first second = absurd (omega arith)
places_rise place (One value ∷ leaves) zero (suc later) one other before first second =
    let is : one.place ≡ place = cc in let after = place_from (suc place) leaves later other second in omega arith
places_rise place (Many values ∷ leaves) zero (suc later) one other before first second =
    let is : one.place ≡ place = cc in let after = place_from (suc place) leaves later other second in omega arith
places_rise place (One value ∷ leaves) (suc at) (suc later) one other before first second =
    places_rise (suc place) leaves at later one other (omega arith) first second
places_rise place (Many values ∷ leaves) (suc at) (suc later) one other before first second =
    places_rise (suc place) leaves at later one other (omega arith) first second

-- what is kept is the leaf at its place
pub kept_at : (place : ℕ) (leaves : List Leaf) (at turn : ℕ) (one : Present)
    → slice_get (present_in place leaves) turn ≡ Some one → one.place ≡ place + at
    → not_missing (slice_get leaves at) ≡ Some one.leaf
kept_at place [] at turn one is there = cc
kept_at place (Missing ∷ leaves) zero turn one is there =
    let later = place_from (suc place) leaves turn one is in absurd (omega arith)
kept_at place (Missing ∷ leaves) (suc at) turn one is there = kept_at (suc place) leaves at turn one is (omega arith)
kept_at place (One value ∷ leaves) zero zero one is there = cc
kept_at place (Many values ∷ leaves) zero zero one is there = cc
kept_at place (One value ∷ leaves) zero (suc turn) one is there =
    let later = place_from (suc place) leaves turn one is in absurd (omega arith)
kept_at place (Many values ∷ leaves) zero (suc turn) one is there =
    let later = place_from (suc place) leaves turn one is in absurd (omega arith)
kept_at place (One value ∷ leaves) (suc at) zero one is there =
    let first : one.place ≡ place = cc in absurd (omega arith)
kept_at place (Many values ∷ leaves) (suc at) zero one is there =
    let first : one.place ≡ place = cc in absurd (omega arith)
kept_at place (One value ∷ leaves) (suc at) (suc turn) one is there =
    kept_at (suc place) leaves at turn one is (omega arith)
kept_at place (Many values ∷ leaves) (suc at) (suc turn) one is there =
    kept_at (suc place) leaves at turn one is (omega arith)

-- where nothing is kept of a place, its leaf is missing, or past the end
pub none_at : (place : ℕ) (leaves : List Leaf) (at : ℕ)
    → ((turn : ℕ) (one : Present) → slice_get (present_in place leaves) turn ≡ Some one → one.place ≢ place + at)
    → not_missing (slice_get leaves at) ≡ None
none_at place [] at absent = refl
none_at place (Missing ∷ leaves) zero absent = refl
none_at place (Missing ∷ leaves) (suc at) absent =
    none_at (suc place) leaves at (λ turn one is there. absent turn one is (omega arith))
none_at place (One value ∷ leaves) zero absent =
    absurd (absent 0 (record { place = place; leaf = One value }) refl (omega arith))
none_at place (Many values ∷ leaves) zero absent =
    absurd (absent 0 (record { place = place; leaf = Many values }) refl (omega arith))
none_at place (One value ∷ leaves) (suc at) absent =
    none_at (suc place) leaves at (λ turn one is there. absent (suc turn) one is (omega arith))
none_at place (Many values ∷ leaves) (suc at) absent =
    none_at (suc place) leaves at (λ turn one is there. absent (suc turn) one is (omega arith))

-- of a leaf that isn't missing, it is kept
pub one_kept : (place : ℕ) (leaf : Leaf) → leaf ≢ Missing
    → present_in place (leaf ∷ []) ≡ record { place = place; leaf = leaf } ∷ []
one_kept place Missing there = absurd (there refl)
one_kept place (One value) there = refl
one_kept place (Many values) there = refl

-- a key that is made of what is kept
module _ (count : ℕ) (kept : List Present) (held : kept ≡ present_in 0 (spread count 0 kept)) where
  -- one leaf more, of which this is kept
  module _ (leaf : Leaf) (more : List Present) (is : present_in count (leaf ∷ []) ≡ more) where
    end : 0 + length (spread count 0 kept) ≡ count
    end = let size = spread_length count 0 kept in omega arith

    all_kept : present_in 0 (spread count 0 kept ++ leaf ∷ []) ≡ kept ++ more
    all_kept = present_more 0 (spread count 0 kept) (leaf ∷ [])
        ∙ ap (λ at. present_in 0 (spread count 0 kept) ++ present_in at (leaf ∷ [])) end
        ∙ ap (λ l. l ++ present_in count (leaf ∷ [])) (sym held)
        ∙ ap (λ l. kept ++ l) is

    one_longer : length (spread count 0 kept ++ leaf ∷ []) ≡ count + 1
    one_longer = length-append (spread count 0 kept) (leaf ∷ []) ∙ ap (λ n. n + 1) (spread_length count 0 kept)

    -- it comes last
    pub leaf_added : spread (count + 1) 0 (kept ++ more) ≡ spread count 0 kept ++ leaf ∷ []
    leaf_added = ap (λ n. spread n 0 (kept ++ more)) (sym one_longer)
        ∙ ap (spread (length (spread count 0 kept ++ leaf ∷ [])) 0) (sym all_kept)
        ∙ spread_back 0 (spread count 0 kept ++ leaf ∷ [])

    -- and what is kept is what has to be
    pub still_held : kept ++ more ≡ present_in 0 (spread (count + 1) 0 (kept ++ more))
    still_held = sym all_kept ∙ ap (present_in 0) (sym leaf_added)

  -- a missing leaf more
  pub missing_added : spread (count + 1) 0 kept ≡ spread count 0 kept ++ Missing ∷ []
  missing_added = ap (spread (count + 1) 0) (sym (append-nil kept)) ∙ leaf_added Missing [] refl

  pub missing_held : kept ≡ present_in 0 (spread (count + 1) 0 kept)
  missing_held = sym (append-nil kept) ∙ still_held Missing [] refl
      ∙ ap (λ l. present_in 0 (spread (count + 1) 0 l)) (append-nil kept)

  -- what is kept at a place
  pub found_at : (at turn : ℕ) (one : Present) → slice_get kept turn ≡ Some one → one.place ≡ at
      → Some one.leaf ≡ not_missing (slice_get (spread count 0 kept) at)
  found_at at turn one is there = let place : one.place ≡ 0 + at = omega (arith, there) in
      sym (kept_at 0 (spread count 0 kept) at turn one (ap (λ l. slice_get l turn) (sym held) ∙ is) place)

  -- what is kept later has the higher place
  rises : (turn later : ℕ) (one other : Present) → turn < later → slice_get kept turn ≡ Some one
      → slice_get kept later ≡ Some other → one.place < other.place
  rises turn later one other before first second = places_rise 0 (spread count 0 kept) turn later one other before
      (ap (λ l. slice_get l turn) (sym held) ∙ first) (ap (λ l. slice_get l later) (sym held) ∙ second)

  -- so places below another one come first
  pub places_parted : (at : ℕ) → IsPartitionedBy (λ (one : Present). nat_lt one.place at) kept
  places_parted at turn later none before within low =
      elim (cases_lt turn later) [
        | inl under ↦
            let rising = rises turn later (get_or kept turn none) (get_or kept later none) under
            (slice_get-get_or kept turn none (omega arith)) (slice_get-get_or kept later none within) in
            lt-ltb (get_or kept turn none).place at
            (omega (arith, rising, ltb-true (get_or kept later none).place at low))
        | inr over ↦ let same : turn ≡ later = omega arith in rw same low
      ]

  -- where the first that isn't below a place has another one, nothing is kept of it
  pub none_found : (at before : ℕ)
      → IsPartitionPoint (λ (one : Present). nat_lt one.place at ≡ true)
      (λ (one : Present). nat_lt one.place at ≡ false) kept before
      → ((one : Present) → slice_get kept before ≡ Some one → one.place ≢ at)
      → None ≡ not_missing (slice_get (spread count 0 kept) at)
  none_found at before parted other = sym (none_at 0 (spread count 0 kept) at absent)
    where
      absent : (turn : ℕ) (one : Present) → slice_get (present_in 0 (spread count 0 kept)) turn ≡ Some one
          → one.place ≢ 0 + at
      absent turn one is there =
          let stands : slice_get kept turn ≡ Some one = ap (λ l. slice_get l turn) held ∙ is in
          let within = slice_get_within kept turn one stands in
          let here : get_or kept turn one ≡ one = get_or_from_slice_get kept turn one one stands in
          elim (cases_lt turn before) [
            | inl under ↦
                let low : nat_lt one.place at ≡ true = rw here at (parted.0 turn one (omega arith) under) in
                let below = ltb-true one.place at low in
                absurd (omega arith)
            | inr over ↦
                elim (cases_lt before turn) [
                  | inl later ↦
                      let first = get_or kept before one in
                      let first_there : slice_get kept before ≡ Some first =
                      slice_get-get_or kept before one (omega arith) in
                      let rising = rises before turn first one later first_there stands in
                      let high = parted.1 before one (omega arith) (omega arith) in
                      let not_below : first.place < at → ⊥ = λ below.
                      true≢false (sym (lt-ltb first.place at below) ∙ high) in
                      not_below (omega arith)
                  | inr same ↦
                      let is_it : turn ≡ before = omega arith in
                      other one (ap (slice_get kept) (sym is_it) ∙ stands) (omega arith)
                ]
          ]

-- two tests of what comes to the same
decided_alike : {P Q : Type 0} (one other : Bool) → Decides one P → Decides other Q → (P → Q) → (Q → P) → one ≡ other
decided_alike true true first second there back = refl
decided_alike false false first second there back = refl
decided_alike true false first second there back = sym (second.1 (there (first.0 refl)))
decided_alike false true first second there back = first.1 (back (second.0 refl))

-- `==` of what is kept holds exactly where contracts see the same
present_exact : (one other : Present) → Decides (present.ghosts.eq one other) (one ≡ other)
present_exact one other = let leaf = leaf_exact one.leaf other.leaf in search (comparing, hashing, rules, leaf)

module _ (count other_count : ℕ) (kept other_kept : List Present)
    (held : kept ≡ present_in 0 (spread count 0 kept))
    (other_held : other_kept ≡ present_in 0 (spread other_count 0 other_kept)) where
  -- two keys of as many leaves are equal where what is kept of them is
  pub keys_alike : count ≡ other_count
      → pointwise present.ghosts.eq kept other_kept
      ≡ pointwise leaf.ghosts.eq (spread count 0 kept) (spread other_count 0 other_kept)
  keys_alike size = decided_alike (pointwise present.ghosts.eq kept other_kept)
      (pointwise leaf.ghosts.eq (spread count 0 kept) (spread other_count 0 other_kept))
      (pointwise_decides present_exact kept other_kept)
      (pointwise_decides leaf_exact (spread count 0 kept) (spread other_count 0 other_kept))
      (λ same. ap (λ n. spread n 0 kept) size ∙ ap (spread other_count 0) same)
      (λ same. held ∙ ap (present_in 0) same ∙ sym other_held)

  -- two keys that don't have as many leaves aren't
  pub keys_apart : count ≢ other_count
      → (count == other_count) ≡ pointwise leaf.ghosts.eq (spread count 0 kept) (spread other_count 0 other_kept)
  keys_apart differ = apart count other_count differ
      ∙ sym (false_unless (pointwise leaf.ghosts.eq (spread count 0 kept) (spread other_count 0 other_kept))
      (λ is. differ (sym (spread_length count 0 kept)
      ∙ ap length ((pointwise_decides leaf_exact (spread count 0 kept) (spread other_count 0 other_kept)).0 is)
      ∙ spread_length other_count 0 other_kept)))

-- the first of some leaves, where the first that is kept comes later
module _ (left at : ℕ) (kept : List Present) (held : kept ≡ present_in at (spread (suc left) at kept)) where
  pub missing_comes : ((one : Present) (rest : List Present) → kept ≡ one ∷ rest → one.place ≢ at)
      → spread (suc left) at kept ≡ Missing ∷ spread left (suc at) kept
  missing_comes later = of_these kept later
    where
      of_these : (these : List Present) → ((one : Present) (rest : List Present) → these ≡ one ∷ rest → one.place ≢ at)
          → spread (suc left) at these ≡ Missing ∷ spread left (suc at) these
      of_these [] later = refl
      of_these (one ∷ rest) later = ap (λ b. if b then one.leaf ∷ spread left (suc at) rest
          else Missing ∷ spread left (suc at) (one ∷ rest)) (apart one.place at (later one rest refl))

  pub missing_goes : ((one : Present) (rest : List Present) → kept ≡ one ∷ rest → one.place ≢ at)
      → kept ≡ present_in (suc at) (spread left (suc at) kept)
  missing_goes later = held ∙ ap (present_in at) (missing_comes later)

-- the first of some leaves, where it is kept
module _ (left at : ℕ) (one : Present) (rest : List Present) (here : one.place ≡ at)
    (held : one ∷ rest ≡ present_in at (spread (suc left) at (one ∷ rest))) where
  pub kept_comes : spread (suc left) at (one ∷ rest) ≡ one.leaf ∷ spread left (suc at) rest
  kept_comes = ap (λ b. if b then one.leaf ∷ spread left (suc at) rest
      else Missing ∷ spread left (suc at) (one ∷ rest)) ((Decides-eqb one.place at).1 here)

  pub kept_goes : rest ≡ present_in (suc at) (spread left (suc at) rest)
  kept_goes = rest_of one.leaf (spread left (suc at) rest) (held ∙ ap (present_in at) kept_comes)
    where
      rest_of : (leaf : Leaf) (leaves : List Leaf) → one ∷ rest ≡ present_in at (leaf ∷ leaves)
          → rest ≡ present_in (suc at) leaves
      rest_of Missing leaves is =
          let later = place_from (suc at) leaves 0 one (ap (λ l. slice_get l 0) (sym is)) in absurd
          (omega (arith, here))
      rest_of (One value) leaves is = cc
      rest_of (Many values) leaves is = cc

-- what comes next of a rest, before what comes after it, is that rest
pub next_kept : (next : Option Present) (rest after : List Present) (size left : ℕ) → size ≡ length rest
    → MatchOption next ((size ≡ 0) × (left ≡ 0)) (λ one. (rest ≡ one ∷ after) × (left + 1 ≡ size))
    → kept_from next after ≡ rest
next_kept None [] after size left counted steps = refl
next_kept None (one ∷ rest) after size left counted steps = absurd (omega (arith, counted, steps.0))
next_kept (Some one) rest after size left counted steps = sym steps.0

-- and what comes after it has been counted
pub next_counted : (next : Option Present) (rest after : List Present) (size left : ℕ) → size ≡ length rest
    → rest ≡ option_to_list next ++ after
    → MatchOption next ((size ≡ 0) × (left ≡ 0)) (λ one. (rest ≡ one ∷ after) × (left + 1 ≡ size))
    → left ≡ length after
next_counted None rest after size left counted is steps =
    let same : length rest ≡ length after = ap length is in omega (arith, counted, steps.0, steps.1)
next_counted (Some one) rest after size left counted is steps =
    let more : length rest ≡ suc (length after) = ap length (steps.0) in omega (arith, counted, steps.1)

-- the leaf that has its turn, of so many
module _ (count at : ℕ) (kept : List Present) (below : at < count)
    (held : kept ≡ present_in at (spread (count - at) at kept)) where
  size : count - at ≡ suc (count - (at + 1))
  size = omega (arith, below)

  turn : suc at ≡ at + 1
  turn = omega arith

  held_again : kept ≡ present_in at (spread (suc (count - (at + 1))) at kept)
  held_again = held ∙ ap (λ n. present_in at (spread n at kept)) size

  -- it is missing where what is kept next comes later
  module _ (later : (one : Present) (rest : List Present) → kept ≡ one ∷ rest → one.place ≢ at) where
    pub missing_turn : spread (count - at) at kept ≡ Missing ∷ spread (count - (at + 1)) (at + 1) kept
    missing_turn = ap (λ n. spread n at kept) size
        ∙ missing_comes (count - (at + 1)) at kept held_again later
        ∙ ap (λ n. Missing ∷ spread (count - (at + 1)) n kept) turn

    pub missing_turn_held : kept ≡ present_in (at + 1) (spread (count - (at + 1)) (at + 1) kept)
    missing_turn_held = missing_goes (count - (at + 1)) at kept held_again later
        ∙ ap (λ n. present_in n (spread (count - (at + 1)) n kept)) turn

  -- it is what is kept next where that has the place
  module _ (one : Present) (rest : List Present) (is : kept ≡ one ∷ rest) (here : one.place ≡ at) where
    held_first : one ∷ rest ≡ present_in at (spread (suc (count - (at + 1))) at (one ∷ rest))
    held_first = sym is ∙ held_again ∙ ap (λ l. present_in at (spread (suc (count - (at + 1))) at l)) is

    pub kept_turn : spread (count - at) at kept ≡ one.leaf ∷ spread (count - (at + 1)) (at + 1) rest
    kept_turn = ap (λ n. spread n at kept) size
        ∙ ap (spread (suc (count - (at + 1))) at) is
        ∙ kept_comes (count - (at + 1)) at one rest here held_first
        ∙ ap (λ n. one.leaf ∷ spread (count - (at + 1)) n rest) turn

    pub kept_turn_held : rest ≡ present_in (at + 1) (spread (count - (at + 1)) (at + 1) rest)
    kept_turn_held = kept_goes (count - (at + 1)) at one rest here held_first
        ∙ ap (λ n. present_in n (spread (count - (at + 1)) n rest)) turn
