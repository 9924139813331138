-- What is told of inner keys, one key after the other: lemmas on `specs/DurationCalls.antt`.
use Rattle.std.proofs.Common.{◌≡◌, ◌⊎◌, inl, inr, ℕ, ◌+◌, ◌<◌, ◌≤◌, Bool, true, false, not, ◌&&◌, ◌||◌, ◌==◌, cond, if◌then◌else◌, nat_lt, List, [], ◌∷◌, ◌++◌, map, filter, length, position, Option, Some, None, refl, sym, ap, subst, ◌∙◌, arith, ⊎_elim, append-nil}
use Rattle.std.specs.List.{last_or, list_all, position_or_len}
use Rattle.std.specs.Option.{option_map_or}
use Rattle.std.proofs.lemmas.Bool.{cases_Bool, lt-ltb, false≢true, true≢false}
use Rattle.std.proofs.lemmas.List.Elements.{filter-append}
use Rattle.std.proofs.lemmas.Option.{none-some}
use Rattle.atom_record.specs.Equal.{metric_key_exact}
use Rattle.atom_record.specs.declared.value.MetricKey.{MetricKey}
use Rattle.bucket_meaning.specs.Guard.{is_among}
use Rattle.predicate_state.specs.declared.truth.Truth.{Truth}
use Rattle.predicate_state.specs.declared.truth.Truth.TheVariants.{False, Unknown, True}
use Rattle.predicate_state.specs.contracts.truth.TruthPartialEq.TheImpl as truth_test
use Rattle.predicate_state.specs.PredicateTable.{LeafKey, same_leaves}
use Rattle.config_types.specs.declared.parameters.PredSpec.{PredSpec}
use Rattle.metric_kinds.specs.Keys.{is_same_key}
use Rattle.duration_metric.specs.declared.change.InnerChange.{InnerChange}
use Rattle.duration_metric.specs.declared.inner.Known.{Known}
use Rattle.duration_metric.specs.InnerKeys.{known_by, known_at, says, changes_place, are_places_apart}
use Rattle.duration_metric.proofs.KnownLemmas.{leaves_exact}
use Rattle.metric_calls.specs.DurationCalls.{change_at, changes_from}

-- both of two
both_true : (one other : Bool) → (one && other) ≡ true → (one ≡ true) × (other ≡ true)
both_true true other e = (refl, e)
both_true false other e = absurd (false≢true e)

-- truths that are the same by the test are the same
truth_is : (one other : Truth) → truth_test.ghosts.eq one other ≡ true → one ≡ other
truth_is False False e = refl
truth_is False Unknown e = absurd (false≢true e)
truth_is False True e = absurd (false≢true e)
truth_is Unknown False e = absurd (false≢true e)
truth_is Unknown Unknown e = refl
truth_is Unknown True e = absurd (false≢true e)
truth_is True False e = absurd (false≢true e)
truth_is True Unknown e = absurd (false≢true e)
truth_is True True e = refl

-- a truth is the same as itself
truth_itself : (truth : Truth) → truth_test.ghosts.eq truth truth ≡ true
truth_itself False = refl
truth_itself Unknown = refl
truth_itself True = refl

-- what was told says just what it is
pub says-is : (was : Option Known) (now : Known) → says was now ≡ true → was ≡ Some now
says-is None now e = absurd (false≢true e)
says-is (Some was) now e =
    let both = both_true (truth_test.ghosts.eq was.truth now.truth) (is_same_key was.out now.out) e in
    ap (λ (truth : Truth). let known : Known = record { truth = truth; out = was.out } in Some known)
    (truth_is was.truth now.truth both.0)
    ∙ ap (λ (out : MetricKey). let known : Known = record { truth = now.truth; out = out } in Some known)
    ((metric_key_exact was.out now.out).0 both.1)

-- and says it
pub says-itself : (now : Known) → says (Some now) now ≡ true
says-itself now =
    ap (λ b. b && is_same_key now.out now.out) (truth_itself now.truth) ∙ (metric_key_exact now.out now.out).1 refl

-- a key is the same as itself
key_itself : (key : LeafKey) → same_leaves key key ≡ true
key_itself key = (leaves_exact key key).1 refl

-- the first of two, or the second
pub or_cases : (one other : Bool) → (one || other) ≡ true → (one ≡ true) ⊎ (other ≡ true)
or_cases true other e = inl refl
or_cases false other e = inr e

-- a key that is among others stands among all of them
pub among_later : (first key : LeafKey) (keys : List LeafKey) → is_among same_leaves key keys ≡ true
    → is_among same_leaves key (first ∷ keys) ≡ true
among_later first key keys e = or_later (same_leaves first key) (is_among same_leaves key keys) e where
  or_later : (one other : Bool) → other ≡ true → (one || other) ≡ true
  or_later true other e = refl
  or_later false other e = e

-- a key is among those that it stands before
pub among_first : (key : LeafKey) (keys : List LeafKey) → is_among same_leaves key (key ∷ keys) ≡ true
among_first key keys = ap (λ b. b || is_among same_leaves key keys) (key_itself key)

-- where the first key isn't it, a key that is among all is among the others
among_rest : (first key : LeafKey) (keys : List LeafKey) → same_leaves key first ≡ false
    → is_among same_leaves key (first ∷ keys) ≡ true → is_among same_leaves key keys ≡ true
among_rest first key keys differs e = ⊎_elim
    (λ (same : same_leaves first key ≡ true).
    absurd (true≢false (sym (key_itself key)
    ∙ ap (same_leaves key) (sym ((leaves_exact first key).0 same)) ∙ differs)))
    (λ (other : is_among same_leaves key keys ≡ true). other)
    (or_cases (same_leaves first key) (is_among same_leaves key keys) e)

-- the place of a key that is among these is one of theirs
place_within : (key : LeafKey) (keys : List LeafKey) → is_among same_leaves key keys ≡ true
    → position_or_len (same_leaves key) keys < length keys
place_within key [] e = absurd (false≢true e)
place_within key (first ∷ keys) e = ⊎_elim
    (λ (here : same_leaves key first ≡ true).
    subst (λ b. cond (not b) (1 + position_or_len (same_leaves key) keys) 0 < length (first ∷ keys)) (sym here)
    (omega arith))
    (λ (there : same_leaves key first ≡ false).
    let rest = place_within key keys (among_rest first key keys there e) in
    subst (λ b. cond (not b) (1 + position_or_len (same_leaves key) keys) 0 < length (first ∷ keys)) (sym there)
    (omega (arith, rest)))
    (cases_Bool (same_leaves key first))

-- so it has a position
pub position_is : (key : LeafKey) (keys : List LeafKey) → is_among same_leaves key keys ≡ true
    → position (same_leaves key) keys ≡ Some (position_or_len (same_leaves key) keys)
position_is key keys e =
    let first = position_or_len (same_leaves key) keys in
    ap (λ b. cond b (Some first) None) (lt-ltb first (length keys) (place_within key keys e))

module _ (spec : PredSpec) (was : LeafKey → Option Known) (now : LeafKey → Known) where
  -- one change, or none
  abbrev changed : ℕ → Known → Bool → List InnerChange
  changed place known said = if said then [] else record { place = place; truth = known.truth; out = known.out } ∷ []

  -- a change stands at its place
  here_alone : (place : ℕ) (known : Known) (said : Bool)
      → filter (λ (change : InnerChange). change.place == place) (changed place known said) ≡ changed place known said
  here_alone place known true = refl
  here_alone place known false =
      let itself : (place == place) ≡ true = grind arith in
      ap (λ b. cond b (record { place = place; truth = known.truth; out = known.out } ∷ []) []) itself

  -- and at no other
  not_elsewhere : (place other : ℕ) (known : Known) (said : Bool) → (place == other) ≡ false
      → filter (λ (change : InnerChange). change.place == other) (changed place known said) ≡ []
  not_elsewhere place other known true differs = refl
  not_elsewhere place other known false differs =
      ap (λ b. cond b (record { place = place; truth = known.truth; out = known.out } ∷ []) []) differs

  -- before the first key's place there is no change
  none_before : (from place : ℕ) (keys : List LeafKey) → place < from
      → filter (λ (change : InnerChange). change.place == place) (changes_from was now from keys) ≡ []
  none_before from place [] before = refl
  none_before from place (key ∷ keys) before =
      let test : InnerChange → Bool = λ (change : InnerChange). change.place == place in
      filter-append test (change_at (was key) from (now key)) (changes_from was now (from + 1) keys)
      ∙ ap (λ l. l ++ filter test (changes_from was now (from + 1) keys))
      (not_elsewhere from place (now key) (says (was key) (now key)) (grind (arith, before)))
      ∙ none_before (from + 1) place keys (omega (arith, before))

  -- the last of what was told of a key and what is told now is what is so now
  told_now : (key : LeafKey) (place : ℕ) (said : Bool) → says (was key) (now key) ≡ said
      → last_or (was key) (map known_by (changed place (now key) said)) ≡ Some (now key)
  told_now key place true e = says-is (was key) (now key) e
  told_now key place false e = refl

  -- the same among other keys, from a place on
  told_from : (from : ℕ) (key : LeafKey) (keys : List LeafKey) → is_among same_leaves key keys ≡ true
      → last_or (was key) (map known_by (filter
      (λ (change : InnerChange). change.place == (from + position_or_len (same_leaves key) keys))
      (changes_from was now from keys))) ≡ Some (now key)
  told_from from key [] e = absurd (false≢true e)
  told_from from key (first ∷ keys) e =
      let rest = changes_from was now (from + 1) keys in
      let at : ℕ → InnerChange → Bool = λ place (change : InnerChange). change.place == place in
      let own : List InnerChange = change_at (was first) from (now first) in
      let behind = position_or_len (same_leaves key) keys in
      ⊎_elim
      (λ (here : same_leaves key first ≡ true).
      let same : key ≡ first = (leaves_exact key first).0 here in
      let place : from + position_or_len (same_leaves key) (first ∷ keys) ≡ from =
      ap (λ b. from + cond (not b) (1 + behind) 0) here ∙ omega arith in
      ap (λ p. last_or (was key) (map known_by (filter (at p) (own ++ rest)))) place
      ∙ ap (λ l. last_or (was key) (map known_by l))
      (filter-append (at from) own rest
      ∙ ap (λ l. filter (at from) own ++ l) (none_before (from + 1) from keys (omega arith))
      ∙ append-nil (filter (at from) own)
      ∙ here_alone from (now first) (says (was first) (now first)))
      ∙ ap (λ k. last_or (was k) (map known_by own)) same
      ∙ told_now first from (says (was first) (now first)) refl ∙ ap (λ k. Some (now k)) (sym same))
      (λ (there : same_leaves key first ≡ false).
      let place : from + position_or_len (same_leaves key) (first ∷ keys) ≡ (from + 1) + behind =
      ap (λ b. from + cond (not b) (1 + behind) 0) there ∙ omega arith in
      ap (λ p. last_or (was key) (map known_by (filter (at p) (own ++ rest)))) place
      ∙ ap (λ l. last_or (was key) (map known_by l))
      (filter-append (at ((from + 1) + behind)) own rest
      ∙ ap (λ l. l ++ filter (at ((from + 1) + behind)) rest)
      (not_elsewhere from ((from + 1) + behind) (now first) (says (was first) (now first)) (grind arith)))
      ∙ told_from (from + 1) key keys (among_rest first key keys there e))
      (cases_Bool (same_leaves key first))

  -- what is told of a key that is among these, and what was told before, is what is so now
  pub told_once : (key : LeafKey) (keys : List LeafKey) → is_among same_leaves key keys ≡ true
      → last_or (was key) (known_at (changes_from was now 0 keys) (position (same_leaves key) keys)) ≡ Some (now key)
  told_once key keys e =
      let first = position_or_len (same_leaves key) keys in
      let is : first ≡ 0 + first = omega arith in
      ap (λ place. last_or (was key) (known_at (changes_from was now 0 keys) place)) (position_is key keys e)
      ∙ ap (λ place. last_or (was key) (known_at (changes_from was now 0 keys) (Some place))) is
      ∙ told_from 0 key keys e

  -- where all were told what is so, nothing is told
  pub nothing_told : (from : ℕ) (keys : List LeafKey)
      → ((key : LeafKey) → is_among same_leaves key keys ≡ true → was key ≡ Some (now key))
      → changes_from was now from keys ≡ []
  nothing_told from [] told = refl
  nothing_told from (key ∷ keys) told =
      ap (λ (o : Option Known). change_at o from (now key) ++ changes_from was now (from + 1) keys)
      (told key (among_first key keys))
      ∙ ap (λ said. changed from (now key) said ++ changes_from was now (from + 1) keys) (says-itself (now key))
      ∙ nothing_told (from + 1) keys (λ k among. told k (among_later key k keys among))

  -- what is told is told of these keys
  places_within : (from most : ℕ) (keys : List LeafKey) → from + length keys ≤ most
      → list_all (λ (change : InnerChange). nat_lt change.place most) (changes_from was now from keys) ≡ true
  places_within from most [] fits = refl
  places_within from most (key ∷ keys) fits =
      by_said (says (was key) (now key)) (lt-ltb from most (omega (arith, fits)))
      (places_within (from + 1) most keys (omega (arith, fits)))
    where
      by_said : (said : Bool) → nat_lt from most ≡ true
          → list_all (λ (change : InnerChange). nat_lt change.place most) (changes_from was now (from + 1) keys) ≡ true
          → list_all (λ (change : InnerChange). nat_lt change.place most)
          (changed from (now key) said ++ changes_from was now (from + 1) keys) ≡ true
      by_said true one rest = rest
      by_said false one rest =
          ap (λ b. b && list_all (λ (change : InnerChange). nat_lt change.place most)
          (changes_from was now (from + 1) keys)) one ∙ rest

  pub all_within : (keys : List LeafKey)
      → list_all (λ (change : InnerChange). nat_lt change.place (length keys)) (changes_from was now 0 keys) ≡ true
  all_within keys = places_within 0 (length keys) keys (omega arith)

  -- no change stands before the first key
  none_changes : (from place : ℕ) (keys : List LeafKey) → place < from
      → changes_place spec (changes_from was now from keys) place ≡ false
  none_changes from place [] before = refl
  none_changes from place (key ∷ keys) before =
      by_said (says (was key) (now key)) (grind (arith, before))
      (none_changes (from + 1) place keys (omega (arith, before)))
    where
      by_said : (said : Bool) → (from == place) ≡ false
          → changes_place spec (changes_from was now (from + 1) keys) place ≡ false
          → changes_place spec (changed from (now key) said ++ changes_from was now (from + 1) keys) place ≡ false
      by_said true differs rest = rest
      by_said false differs rest =
          ap (λ b. b || changes_place spec (changes_from was now (from + 1) keys) place) differs ∙ rest

  -- of no key is told twice
  pub all_apart : (from : ℕ) (keys : List LeafKey) → are_places_apart spec (changes_from was now from keys) ≡ true
  all_apart from [] = refl
  all_apart from (key ∷ keys) =
      by_said (says (was key) (now key)) (none_changes (from + 1) from keys (omega arith)) (all_apart (from + 1) keys)
    where
      by_said : (said : Bool) → changes_place spec (changes_from was now (from + 1) keys) from ≡ false
          → are_places_apart spec (changes_from was now (from + 1) keys) ≡ true
          → are_places_apart spec (changed from (now key) said ++ changes_from was now (from + 1) keys) ≡ true
      by_said true none rest = rest
      by_said false none rest =
          ap (λ b. not b && are_places_apart spec (changes_from was now (from + 1) keys)) none ∙ rest

  -- where nothing was told before, something is told now
  some_changes : (changes : List InnerChange) (place : ℕ) (known : Known)
      → last_or None (map known_by (filter (λ (change : InnerChange). change.place == place) changes)) ≡ Some known
      → changes_place spec changes place ≡ true
  some_changes [] place known e = absurd (none-some known e)
  some_changes (change ∷ changes) place known e = ⊎_elim
      (λ (here : (change.place == place) ≡ true). ap (λ b. b || changes_place spec changes place) here)
      (λ (there : (change.place == place) ≡ false).
      ap (λ b. b || changes_place spec changes place) there
      ∙ some_changes changes place known
      (sym (ap (λ b. last_or None (map known_by (cond b
      (change ∷ filter (λ (c : InnerChange). c.place == place) changes)
      (filter (λ (c : InnerChange). c.place == place) changes)))) there) ∙ e))
      (cases_Bool (change.place == place))

  -- of each of these keys something was told, or is told now
  told_or_now : (keys : List LeafKey) (key : LeafKey) (told : Option Known) → was key ≡ told
      → is_among same_leaves key keys ≡ true
      → (option_map_or (λ known. true) told false
      || option_map_or (changes_place spec (changes_from was now 0 keys)) (position (same_leaves key) keys) false)
      ≡ true
  told_or_now keys key (Some known) is among = refl
  told_or_now keys key None is among =
      let first = position_or_len (same_leaves key) keys in
      ap (λ place. option_map_or (changes_place spec (changes_from was now 0 keys)) place false)
      (position_is key keys among)
      ∙ some_changes (changes_from was now 0 keys) first (now key)
      (ap (λ (o : Option Known). last_or o (known_at (changes_from was now 0 keys) (Some first))) (sym is)
      ∙ sym (ap (λ place. last_or (was key) (known_at (changes_from was now 0 keys) place))
      (position_is key keys among))
      ∙ told_once key keys among)

  pub each_told : (keys some : List LeafKey)
      → ((key : LeafKey) → is_among same_leaves key some ≡ true → is_among same_leaves key keys ≡ true)
      → list_all (λ key. option_map_or (λ known. true) (was key) false
      || option_map_or (changes_place spec (changes_from was now 0 keys)) (position (same_leaves key) keys) false) some
      ≡ true
  each_told keys [] within = refl
  each_told keys (key ∷ some) within =
      let test : LeafKey → Bool = λ k. option_map_or (λ known. true) (was k) false
      || option_map_or (changes_place spec (changes_from was now 0 keys)) (position (same_leaves k) keys) false in
      ap (λ b. b && list_all test some)
      (told_or_now keys key (was key) refl (within key (among_first key some)))
      ∙ each_told keys some (λ k among. within k (among_later key k some among))

-- what is told of the same keys is the same, where the same was told of them and is so
pub changes_alike : (was other : LeafKey → Option Known) (now : LeafKey → Known) (from : ℕ) (keys : List LeafKey)
    → ((key : LeafKey) → is_among same_leaves key keys ≡ true → was key ≡ other key)
    → changes_from was now from keys ≡ changes_from other now from keys
changes_alike was other now from [] alike = refl
changes_alike was other now from (key ∷ keys) alike =
    ap (λ (o : Option Known). change_at o from (now key) ++ changes_from was now (from + 1) keys)
    (alike key (among_first key keys))
    ∙ ap (λ l. change_at (other key) from (now key) ++ l)
    (changes_alike was other now (from + 1) keys (λ k among. alike k (among_later key k keys among)))
