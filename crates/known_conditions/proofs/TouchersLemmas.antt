-- The matchers that touch a predicate say whether an atom acts below it: lemmas on `specs/Touchers.antt`.
use Rattle.std.proofs.Common.{◌≡◌, inl, inr, ℕ, zero, suc, ◌+◌, ◌-◌, ◌<◌, ◌≤◌, ◌==◌, Bool, true, false, ◌&&◌, ◌||◌, List, [], ◌∷◌, ◌++◌, map, length, get_or, slice_get, Option, Some, None, if◌then◌else◌, refl, sym, ap, subst, ◌∙◌, append_assoc, append-nil, arith}
use Rattle.std.specs.List.{flat_map, list_any, range_with_len}
use Rattle.std.specs.Option.{option_map_or}
use Rattle.std.proofs.lemmas.Bool.{cases_Bool, cases_lt, false≢true}
use Rattle.std.proofs.lemmas.Bool.Decides.{Decides-eqb}
use Rattle.std.proofs.lemmas.List.{length-map, get_or_past}
use Rattle.std.proofs.lemmas.List.Folds.{list_any-append}
use Rattle.std.proofs.lemmas.List.FromFn.{length-map-range_with_len, get_or-map-range_with_len}
use Rattle.std.proofs.lemmas.Option.{slice_get_past, slice_get_read}
use Rattle.link_graph.specs.Links.{children_at, MarksReached}
use Rattle.link_graph.specs.Within.{leads_within}
use Rattle.link_graph.proofs.CallerLemmas.{marks_within}
use Rattle.config_links.specs.declared.linked.LPredicate.{LPredicate}
use Rattle.config_links.specs.declared.linked.LPredBody.{LPredBody}
use Rattle.config_links.specs.declared.linked.LPredBody.TheVariants.{Simple, Combo}
use Rattle.config_links.specs.LinkScopes.{named_predicates}
use Rattle.config_links.specs.MetricLinks.{is_reached}
use Rattle.config_links.specs.OwnMatchers.{place_named, predicate_matchers}
use Rattle.metric_meaning.specs.Histories.{truth_at}
use Rattle.metric_meaning.specs.PredicateSteps.{named_truth}
use Rattle.metric_meaning.specs.Touched.{acts_on, acts_at, acts_below}
use Rattle.known_conditions.specs.Touchers.{matchers_found, matchers_below, touchers, all_touchers, one_holds}

-- a matcher that is named holds
pub named_holds : (place : Option ℕ) (truths : List Bool)
    → one_holds truths (place_named place) ≡ named_truth place truths
named_holds None truths = refl
named_holds (Some place) truths = or_false (truth_at place truths) where
  or_false : (b : Bool) → (b || false) ≡ b
  or_false true = refl
  or_false false = refl

-- one of the matchers of a predicate holds exactly where the atom acts on it
pub own_holds : (predicate : LPredicate) (truths : List Bool)
    → one_holds truths (predicate_matchers predicate.body) ≡ acts_on truths predicate
own_holds predicate truths = of_body predicate.body where
  of_body : (body : LPredBody)
      → one_holds truths (predicate_matchers body) ≡ acts_on truths (record predicate { body = body })
  of_body (Combo op children) = refl
  of_body (Simple start stop stop_all dims spec) =
      let holds = λ (matcher : ℕ). truth_at matcher truths in
      list_any-append holds (place_named stop_all) (place_named stop ++ place_named start)
      ∙ ap (λ b. one_holds truths (place_named stop_all) || b)
      (list_any-append holds (place_named stop) (place_named start))
      ∙ ap (λ b. b || (one_holds truths (place_named stop) || one_holds truths (place_named start)))
      (named_holds stop_all truths)
      ∙ ap (λ b. named_truth stop_all truths || (b || one_holds truths (place_named start))) (named_holds stop truths)
      ∙ ap (λ b. named_truth stop_all truths || (named_truth stop truths || b)) (named_holds start truths)

found_holds : (found : Option LPredicate) (truths : List Bool)
    → one_holds truths (matchers_found found) ≡ option_map_or (acts_on truths) found false
found_holds None truths = refl
found_holds (Some predicate) truths = own_holds predicate truths

-- so it is of one place below a root
below_holds : (reached : Bool) (found : Option LPredicate) (truths : List Bool)
    → one_holds truths (if reached then matchers_found found else [])
    ≡ (reached && option_map_or (acts_on truths) found false)
below_holds true found truths = found_holds found truths
below_holds false found truths = refl

-- and of all these places
places_hold : (predicates : List LPredicate) (root : ℕ) (truths : List Bool) (places : List ℕ)
    → one_holds truths (flat_map (matchers_below predicates root) places)
    ≡ list_any (λ place. is_reached predicates (Some root) place && acts_at predicates truths place) places
places_hold predicates root truths [] = refl
places_hold predicates root truths (place ∷ places) =
    let holds = λ (matcher : ℕ). truth_at matcher truths in
    let here = λ (place : ℕ). is_reached predicates (Some root) place && acts_at predicates truths place in
    list_any-append holds (matchers_below predicates root place) (flat_map (matchers_below predicates root) places)
    ∙ ap (λ b. b || one_holds truths (flat_map (matchers_below predicates root) places))
    (below_holds (is_reached predicates (Some root) place) (slice_get predicates place) truths)
    ∙ ap (λ b. here place || b) (places_hold predicates root truths places)

-- one of the touchers holds exactly where the atom acts below the root
pub touchers_hold : (predicates : List LPredicate) (root : ℕ) (truths : List Bool)
    → one_holds truths (touchers predicates root) ≡ acts_below predicates truths (Some root)
touchers_hold predicates root truths = places_hold predicates root truths (range_with_len 0 (length predicates))

-- none of these passes
pub none_any : (test : ℕ → Bool) (places : List ℕ) → ((place : ℕ) → test place ≡ false) → list_any test places ≡ false
none_any test [] none = refl
none_any test (place ∷ places) none =
    ap (λ b. b || list_any test places) (none place) ∙ none_any test places none

-- nothing is below nothing
pub none_below : (predicates : List LPredicate) (truths : List Bool) → acts_below predicates truths None ≡ false
none_below predicates truths =
    none_any (λ place. is_reached predicates None place && acts_at predicates truths place)
    (range_with_len 0 (length predicates)) (λ place. refl)

-- where nothing is named, no reference leads anywhere
leads_nowhere : (links : List (List ℕ)) (from most to : ℕ) → children_at links from ≡ []
    → leads_within most links from to ≡ false
leads_nowhere links from zero to none = refl
leads_nowhere links from (suc most) to none = rw none refl

-- where the first isn't so, or the second isn't, both aren't
first_not : (first second : Bool) → first ≡ false → (first && second) ≡ false
first_not true second off = absurd (false≢true (sym off))
first_not false second off = refl

pub second_not : (first second : Bool) → second ≡ false → (first && second) ≡ false
second_not true second off = off
second_not false second off = refl

-- nothing is below a root past the end
pub past_below : (predicates : List LPredicate) (truths : List Bool) (root : ℕ) → length predicates ≤ root
    → acts_below predicates truths (Some root) ≡ false
past_below predicates truths root past =
    none_any (λ place. is_reached predicates (Some root) place && acts_at predicates truths place)
    (range_with_len 0 (length predicates)) here where
      links : List (List ℕ)
      links = map named_predicates predicates

      apart : (place : ℕ) → place < length predicates → (root == place) ≡ false
      apart place within = elim (cases_Bool (root == place)) [
        | inl same ↦
            let is : root ≡ place = (Decides-eqb root place).0 same in
            absurd (omega (arith, is, past, within))
        | inr differ ↦ differ
      ]

      here : (place : ℕ) → (is_reached predicates (Some root) place && acts_at predicates truths place) ≡ false
      here place = elim (cases_lt place (length predicates)) [
        | inl within ↦
            let beyond : children_at links root ≡ [] =
            get_or_past links root [] (omega (arith, past, length-map predicates named_predicates)) in
            let nowhere : leads_within (length predicates) links root place ≡ false =
            leads_nowhere links root (length predicates) place beyond in
            first_not (is_reached predicates (Some root) place) (acts_at predicates truths place)
            (ap (λ b. b || leads_within (length predicates) links root place) (apart place within) ∙ nowhere)
        | inr out ↦
            second_not (is_reached predicates (Some root) place) (acts_at predicates truths place)
            (ap (λ found. option_map_or (acts_on truths) found false) (slice_get_past predicates place out))
      ]

-- a truth is what stands at its place
mark_there : (marks : List Bool) (place : ℕ) → truth_at place marks ≡ get_or marks place false
mark_there [] place = sym (get_or_past [] place false (omega arith))
mark_there (mark ∷ marks) zero = refl
mark_there (mark ∷ marks) (suc place) = mark_there marks place

-- a place is below the root exactly where it is the root or has a mark
pub marked_below : (predicates : List LPredicate) (root place : ℕ) (marks : List Bool)
    → MarksReached (map named_predicates predicates) root marks → place < length predicates
    → ((root == place) || truth_at place marks) ≡ is_reached predicates (Some root) place
marked_below predicates root place marks are within =
    let links = map named_predicates predicates in
    let many = length-map predicates named_predicates in
    let there : place < length links = omega (arith, within, many) in
    ap (λ b. (root == place) || b)
    (mark_there marks place
    ∙ subst (λ (most : ℕ). get_or marks place false ≡ leads_within most links root place) many
    (marks_within links root marks are place there))

-- no place yet
pub places_first : {A : Type 0} (gives : ℕ → List A) (end : ℕ) (none : List A) → none ≡ []
    → none ++ flat_map gives (range_with_len 0 (end - 0)) ≡ flat_map gives (range_with_len 0 end)
places_first gives end none is =
    let all : end - 0 ≡ end = omega arith in
    ap (λ l. l ++ flat_map gives (range_with_len 0 (end - 0))) is
    ∙ ap (λ n. flat_map gives (range_with_len 0 n)) all

-- one place more
pub places_on : {A : Type 0} (gives : ℕ → List A) (place end : ℕ) (so_far all more : List A) → place < end
    → so_far ++ flat_map gives (range_with_len place (end - place)) ≡ all → more ≡ so_far ++ gives place
    → more ++ flat_map gives (range_with_len (place + 1) (end - (place + 1))) ≡ all
places_on gives place end so_far all more within before is =
    let rest = range_with_len (place + 1) (end - (place + 1)) in
    let next : end - place ≡ suc (end - (place + 1)) = omega arith in
    ap (λ l. l ++ flat_map gives rest) is
    ∙ append_assoc so_far (gives place) (flat_map gives rest)
    ∙ ap (λ n. so_far ++ flat_map gives (range_with_len place n)) (sym next)
    ∙ before

-- all places
pub places_all : {A : Type 0} (gives : ℕ → List A) (place end : ℕ) (so_far all : List A) → end ≤ place
    → so_far ++ flat_map gives (range_with_len place (end - place)) ≡ all → so_far ≡ all
places_all gives place end so_far all ends before =
    let none : end - place ≡ 0 = omega arith in
    sym (append-nil so_far)
    ∙ ap (λ n. so_far ++ flat_map gives (range_with_len place n)) (sym none)
    ∙ before

-- the same of what each place gives one of
pub maps_first : {A : Type 0} (gives : ℕ → A) (end : ℕ) (none : List A) → none ≡ []
    → none ++ map gives (range_with_len 0 (end - 0)) ≡ map gives (range_with_len 0 end)
maps_first gives end none is =
    let all : end - 0 ≡ end = omega arith in
    ap (λ l. l ++ map gives (range_with_len 0 (end - 0))) is ∙ ap (λ n. map gives (range_with_len 0 n)) all

pub maps_on : {A : Type 0} (gives : ℕ → A) (place end : ℕ) (so_far all more : List A) → place < end
    → so_far ++ map gives (range_with_len place (end - place)) ≡ all → more ≡ so_far ++ gives place ∷ []
    → more ++ map gives (range_with_len (place + 1) (end - (place + 1))) ≡ all
maps_on gives place end so_far all more within before is =
    let rest = range_with_len (place + 1) (end - (place + 1)) in
    let next : end - place ≡ suc (end - (place + 1)) = omega arith in
    ap (λ l. l ++ map gives rest) is
    ∙ append_assoc so_far (gives place ∷ []) (map gives rest)
    ∙ ap (λ n. so_far ++ map gives (range_with_len place n)) (sym next)
    ∙ before

pub maps_all : {A : Type 0} (gives : ℕ → A) (place end : ℕ) (so_far all : List A) → end ≤ place
    → so_far ++ map gives (range_with_len place (end - place)) ≡ all → so_far ≡ all
maps_all gives place end so_far all ends before =
    let none : end - place ≡ 0 = omega arith in
    sym (append-nil so_far)
    ∙ ap (λ n. so_far ++ map gives (range_with_len place n)) (sym none)
    ∙ before

-- the touchers of the predicate at a place
pub list_there : (predicates : List LPredicate) (root : ℕ) → root < length predicates
    → slice_get (all_touchers predicates) root ≡ Some (touchers predicates root)
list_there predicates root within =
    slice_get_read (all_touchers predicates) (length (all_touchers predicates)) root (touchers predicates root) refl
    (omega (arith, length-map-range_with_len (touchers predicates) 0 (length predicates), within))
    (sym (get_or-map-range_with_len (touchers predicates) 0 (length predicates) root root
    (touchers predicates root) within
    (omega arith)))

-- what is found for a root says whether the atom acts below it
pub found_hold : (predicates : List LPredicate) (root : ℕ) (truths : List Bool) (found : Option (List ℕ))
    → found ≡ slice_get (all_touchers predicates) root
    → option_map_or (one_holds truths) found false ≡ acts_below predicates truths (Some root)
found_hold predicates root truths found is =
    let says : Option (List ℕ) → Bool = λ found. option_map_or (one_holds truths) found false in
    let many = length-map-range_with_len (touchers predicates) 0 (length predicates) in
    elim (cases_lt root (length predicates)) [
      | inl within ↦ ap says (is ∙ list_there predicates root within) ∙ touchers_hold predicates root truths
      | inr past ↦
          ap says (is ∙ slice_get_past (all_touchers predicates) root (omega (arith, many, past)))
          ∙ sym (past_below predicates truths root past)
    ]
