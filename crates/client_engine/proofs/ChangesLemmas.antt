-- What is told of inner keys, one place after the other.
use Rattle.std.proofs.Common.{◌≡◌, ℕ, zero, suc, ◌+◌, ◌<◌, ◌≤◌, Bool, true, false, List, [], ◌∷◌, ◌++◌, drop, length, slice_get, Option, Some, None, if◌then◌else◌, refl, sym, ap, ◌∙◌, arith, append-nil, append_assoc}
use Rattle.std.specs.Option.{option_map, option_map_or, option_and_then}
use Rattle.std.proofs.lemmas.List.{drop_all}
use Rattle.std.proofs.lemmas.Bool.{false≢true}
use Rattle.std.proofs.lemmas.Option.{none-some, same_Some}
use Rattle.atom_record.specs.declared.value.MetricKey.{MetricKey}
use Rattle.field_select.specs.declared.leaf.FieldSet.{FieldSet}
use Rattle.config_links.specs.declared.linked.LMetric.{LMetric}
use Rattle.predicate_state.specs.declared.truth.Truth.{Truth}
use Rattle.predicate_state.specs.PredicateTable.{LeafKey}
use Rattle.duration_metric.specs.declared.change.InnerChange.{InnerChange}
use Rattle.duration_metric.specs.declared.inner.Known.{Known}
use Rattle.duration_metric.specs.InnerKeys.{says}
use Rattle.metric_meaning.specs.Arrivals.{metric_key, holds_in}
use Rattle.metric_meaning.specs.DurationSteps.{inner_fields}
use Rattle.metric_meaning.specs.MetricConditions.{is_condition_true}
use Rattle.metric_meaning.specs.Readings.{key_reading}
use Rattle.metric_meaning.specs.Scenes.{Scene}
use Rattle.metric_calls.specs.DurationCalls.{told_as, known_in, change_at, changes_from}
use Rattle.metric_calls.proofs.InnerChangesLemmas.{says-itself}
use Rattle.client_engine.specs.declared.stays.Stays.{Stays}
use Rattle.client_engine.specs.declared.stays.Stays.TheVariants.{Keys, Others, OtherStates, Truths, Nothing}
use Rattle.client_engine.specs.Staying.{KeepsThose, KeepsTruths, KeepsWhatStays, truth_kept, first_asked, is_kept}
use Rattle.client_engine.specs.Handed.{Handed, IsOfScene}
use Rattle.client_engine.specs.InnerTold.{told_of_place}
use Rattle.known_conditions.specs.Known.{reading_in}
use Rattle.client_engine.proofs.ArrivingLemmas.{condition_there}

-- the truth of the condition, by what is handed, is the truth in the scene
pub truth_there : (given : Handed) (scene : Scene) (metric : LMetric) (key : LeafKey) (truth : Truth)
    → IsOfScene given scene
    → truth ≡ told_as (is_condition_true given.known.predicates given.known.tables metric
    (reading_in given.known metric key))
    → truth ≡ (known_in scene metric key).truth
truth_there given scene metric key truth found truth_is =
    truth_is
    ∙ ap told_as (condition_there given scene metric (reading_in given.known metric key) found)
    ∙ ap (λ ps. told_as (holds_in scene metric (key_reading (inner_fields (slice_get ps metric.what)) key)))
    found.predicates

-- a truth that was told, and stays, is the truth now
told_stays : (was : LeafKey → Option Known) (now : LeafKey → Known) (keys : List LeafKey) (place : ℕ) (key : LeafKey)
    (truth : Truth) → KeepsTruths was now keys → Some key ≡ slice_get keys place
    → Some truth ≡ option_and_then (λ key. option_map (λ (known : Known). known.truth) (was key)) (slice_get keys place)
    → truth ≡ (now key).truth
told_stays was now keys place key truth keeps is kept =
    by (was key) refl (kept ∙ ap (λ found. option_and_then
    (λ key. option_map (λ (known : Known). known.truth) (was key)) found) (sym is)) where
      by : (told : Option Known) → was key ≡ told → Some truth ≡ option_map (λ (known : Known). known.truth) told
          → truth ≡ (now key).truth
      by None told kept = absurd (none-some truth (sym kept))
      by (Some known) told kept = same_Some truth known.truth kept ∙ keeps place key known (sym is) told

-- a truth that stays is the truth now
pub kept_there : (fields : FieldSet) (stays : Stays) (was : LeafKey → Option Known) (now : LeafKey → Known)
    (keys : List LeafKey) (place : ℕ) (key : LeafKey) (truth : Truth) → KeepsWhatStays fields stays was now keys
    → Some key ≡ slice_get keys place
    → Some truth ≡ truth_kept stays (option_and_then (λ key. option_map (λ (known : Known). known.truth) (was key))
    (slice_get keys place))
    → truth ≡ (now key).truth
kept_there fields (Keys listed) was now keys place key truth keeps is kept = absurd (none-some truth (sym kept))
kept_there fields (Others turn listed) was now keys place key truth keeps is kept =
    absurd (none-some truth (sym kept))
kept_there fields Nothing was now keys place key truth keeps is kept = absurd (none-some truth (sym kept))
kept_there fields Truths was now keys place key truth keeps is kept =
    told_stays was now keys place key truth keeps is kept
kept_there fields (OtherStates told listed) was now keys place key truth keeps is kept =
    told_stays was now keys place key truth keeps.1 is kept

-- what is handed has what is so of an inner key
pub known_there : (given : Handed) (scene : Scene) (metric : LMetric) (fields : FieldSet)
    (key : LeafKey) (truth : Truth)
    (out : MetricKey) → IsOfScene given scene
    → fields ≡ inner_fields (slice_get given.known.predicates metric.what)
    → truth ≡ (known_in scene metric key).truth
    → out ≡ metric_key scene metric (key_reading fields key)
    → let known : Known = record { truth = truth; out = out } in known ≡ known_in scene metric key
known_there given scene metric fields key truth out found fields_are truth_is out_is =
    let there : fields ≡ inner_fields (slice_get scene.linked.predicates metric.what) =
    fields_are ∙ ap (λ ps. inner_fields (slice_get ps metric.what)) found.predicates in
    ap (λ (t : Truth). let known : Known = record { truth = t; out = out } in known) truth_is
    ∙ ap (λ (o : MetricKey). let known : Known = record {
      truth = (known_in scene metric key).truth;
      out = o;
    } in known) (out_is ∙ ap (λ (f : FieldSet). metric_key scene metric (key_reading f key)) there)

module _ (was : LeafKey → Option Known) (now : LeafKey → Known) where
  -- nothing is told where no key is
  pub none_there : (changes : List InnerChange) (place : ℕ) (found : Option LeafKey) → None ≡ found
      → changes ≡ changes ++ told_of_place was now place found
  none_there changes place found is =
      sym (append-nil changes) ∙ ap (λ o. changes ++ told_of_place was now place o) is

  -- nor of one of which this was told
  pub told_there : (changes : List InnerChange) (place : ℕ) (found : Option LeafKey) (key : LeafKey) (known : Known)
      (told : Bool) → Some key ≡ found → known ≡ now key
      → told ≡ option_map_or (λ k. says (was k) known) found false → told ≡ true
      → changes ≡ changes ++ told_of_place was now place found
  told_there changes place found key known told is known_is told_is on =
      let said : says (was key) (now key) ≡ true =
      ap (says (was key)) (sym known_is) ∙ ap (λ o. option_map_or (λ k. says (was k) known) o false) is ∙ sym told_is
      ∙ on in
      sym (append-nil changes)
      ∙ sym (ap (λ (b : Bool). changes ++ ((if b then []
      else record { place = place; truth = (now key).truth; out = (now key).out } ∷ []) ++ [])) said)
      ∙ ap (λ o. changes ++ told_of_place was now place o) is

  -- nor of one that is kept
  kept_unsaid : (fields : FieldSet) (stays : Stays) (keys : List LeafKey) (changes : List InnerChange) (place : ℕ)
      (key : LeafKey) → KeepsThose fields stays was now keys → Some key ≡ slice_get keys place
      → is_kept stays place fields key ≡ true → changes ≡ changes ++ told_of_place was now place (slice_get keys place)
  kept_unsaid fields stays keys changes place key keeps there kept =
      told_there changes place (slice_get keys place) key (now key) true there refl
      (sym (sym (ap (λ o. option_map_or (λ k. says (was k) (now key)) o false) there)
      ∙ ap (λ o. says o (now key)) (keeps place key kept (sym there)) ∙ says-itself (now key))) refl

  -- nor of one of which all stays
  pub kept_told : (fields : FieldSet) (stays : Stays) (keys : List LeafKey) (changes : List InnerChange) (place : ℕ)
      (key : LeafKey) → KeepsWhatStays fields stays was now keys → Some key ≡ slice_get keys place
      → is_kept stays place fields key ≡ true → changes ≡ changes ++ told_of_place was now place (slice_get keys place)
  kept_told fields (Keys listed) keys changes place key keeps there kept = absurd (false≢true kept)
  kept_told fields Truths keys changes place key keeps there kept = absurd (false≢true kept)
  kept_told fields Nothing keys changes place key keeps there kept = absurd (false≢true kept)
  kept_told fields (Others turn listed) keys changes place key keeps there kept =
      kept_unsaid fields (Others turn listed) keys changes place key keeps there kept
  kept_told fields (OtherStates told listed) keys changes place key keeps there kept =
      kept_unsaid fields (OtherStates told listed) keys changes place key keeps.0 there kept

  -- of any other, what is so of it
  pub new_there : (changes more : List InnerChange) (place : ℕ) (found : Option LeafKey) (key : LeafKey) (known : Known)
      (told : Bool) → Some key ≡ found → known ≡ now key
      → told ≡ option_map_or (λ k. says (was k) known) found false → told ≡ false
      → more ≡ changes ++ record { place = place; truth = known.truth; out = known.out } ∷ []
      → more ≡ changes ++ told_of_place was now place found
  new_there changes more place found key known told is known_is told_is off more_is =
      let said : says (was key) (now key) ≡ false =
      ap (says (was key)) (sym known_is) ∙ ap (λ o. option_map_or (λ k. says (was k) known) o false) is ∙ sym told_is
      ∙ off in
      more_is
      ∙ ap (λ (k : Known). changes ++ record { place = place; truth = k.truth; out = k.out } ∷ []) known_is
      ∙ sym (ap (λ (b : Bool). changes ++ ((if b then []
      else record { place = place; truth = (now key).truth; out = (now key).out } ∷ []) ++ [])) said)
      ∙ ap (λ o. changes ++ told_of_place was now place o) is

  -- nothing is told of the first of these keys, where of each what is so was told
  skipped : (most at : ℕ) (keys : List LeafKey)
      → ((place : ℕ) (key : LeafKey) → place < most → slice_get keys place ≡ Some key → was key ≡ Some (now key))
      → changes_from was now at keys ≡ changes_from was now (at + most) (drop most keys)
  skipped zero at keys told = ap (λ n. changes_from was now n keys) (omega arith)
  skipped (suc most) at [] told = refl
  skipped (suc most) at (key ∷ keys) told =
      let on : (at + 1) + most ≡ at + suc most = omega arith in
      ap (λ (o : Option Known). change_at o at (now key) ++ changes_from was now (at + 1) keys)
      (told zero key (omega arith) refl)
      ∙ ap (λ (b : Bool). (if b then [] else record { place = at; truth = (now key).truth; out = (now key).out } ∷ [])
      ++ changes_from was now (at + 1) keys) (says-itself (now key))
      ∙ skipped most (at + 1) keys (λ place k within is. told (suc place) k (omega (arith, within)) is)
      ∙ ap (λ n. changes_from was now n (drop most keys)) on

  -- so nothing is told of the keys that aren't asked
  pub first_skipped : (fields : FieldSet) (stays : Stays) (keys : List LeafKey)
      → KeepsWhatStays fields stays was now keys
      → changes_from was now 0 keys ≡ changes_from was now (first_asked stays) (drop (first_asked stays) keys)
  first_skipped fields Nothing keys keeps = refl
  first_skipped fields Truths keys keeps = refl
  first_skipped fields (Others turn listed) keys keeps = refl
  first_skipped fields (OtherStates told listed) keys keeps = refl
  first_skipped fields (Keys listed) keys keeps =
      let all : 0 + listed ≡ listed = omega arith in
      skipped listed 0 keys keeps ∙ ap (λ n. changes_from was now n (drop listed keys)) all

  -- nor of any where there are no more
  pub all_skipped : (fields : FieldSet) (stays : Stays) (keys : List LeafKey) → length keys ≤ first_asked stays
      → KeepsWhatStays fields stays was now keys → [] ≡ changes_from was now 0 keys
  all_skipped fields stays keys past keeps =
      sym (first_skipped fields stays keys keeps
      ∙ ap (λ l. changes_from was now (first_asked stays) l) (drop_all (first_asked stays) keys past))

  -- what is told from a place on: what is told of the key there, and then of the others
  place_splits : (keys : List LeafKey) (at place : ℕ)
      → changes_from was now place (drop at keys)
      ≡ told_of_place was now place (slice_get keys at) ++ changes_from was now (place + 1) (drop (suc at) keys)
  place_splits [] zero place = refl
  place_splits [] (suc at) place = refl
  place_splits (key ∷ keys) zero place =
      ap (λ l. l ++ changes_from was now (place + 1) keys) (sym (append-nil (change_at (was key) place (now key))))
  place_splits (key ∷ keys) (suc at) place = place_splits keys at place

  -- one place more
  pub places_on : (keys : List LeafKey) (place : ℕ) (changes more all : List InnerChange)
      → changes ++ changes_from was now place (drop place keys) ≡ all
      → more ≡ changes ++ told_of_place was now place (slice_get keys place)
      → more ++ changes_from was now (place + 1) (drop (place + 1) keys) ≡ all
  places_on keys place changes more all before more_is =
      let next : place + 1 ≡ suc place = omega arith in
      let rest = changes_from was now (place + 1) (drop (suc place) keys) in
      ap (λ n. more ++ changes_from was now (place + 1) (drop n keys)) next
      ∙ ap (λ l. l ++ rest) more_is
      ∙ append_assoc changes (told_of_place was now place (slice_get keys place)) rest
      ∙ ap (λ l. changes ++ l) (sym (place_splits keys place place)) ∙ before

  -- all places
  pub places_all : (keys : List LeafKey) (place : ℕ) (changes all : List InnerChange) → length keys ≤ place
      → changes ++ changes_from was now place (drop place keys) ≡ all → changes ≡ all
  places_all keys place changes all past before =
      sym (append-nil changes)
      ∙ ap (λ l. changes ++ changes_from was now place l) (sym (drop_all place keys past)) ∙ before
