-- What links ask of each predicate, one link after another.
use Rattle.std.proofs.Common.{◌≡◌, ℕ, zero, suc, ◌+◌, ◌<◌, ◌≤◌, Bool, List, [], ◌∷◌, map, replicate, get_or, set, drop, length, refl, sym, ap, ◌∙◌, cond, ◌==◌, ◌-◌, arith}
use Rattle.std.specs.Prelude.{Some}
use Rattle.std.specs.List.{find, range_with_len}
use Rattle.std.proofs.lemmas.Bool.{ne_eqb, eq-eqb}
use Rattle.std.proofs.lemmas.List.{drop_more, drop_all}
use Rattle.config_links.specs.declared.linked.LLink.{LLink}
use Rattle.predicate_state.specs.declared.bind.Bind.{Bind}
use Rattle.metric_meaning.specs.Readings.{LeafReading}
use Rattle.metric_meaning.specs.MetricConditions.{link_binds, binds_at}

-- without links nothing is asked
none_asked : (reading : LeafReading) (from count : ℕ)
    → replicate count [] ≡ map (binds_at [] reading) (range_with_len from count)
none_asked reading from zero = refl
none_asked reading from (suc count) = ap (λ l. [] ∷ l) (none_asked reading (from + 1) count)

module _ (link : LLink) (links : List LLink) (reading : LeafReading) where
  -- by the first link, where the test says so
  abbrev by_first : ℕ → Bool → List Bind
  by_first place is_its =
      link_binds reading (cond is_its (Some link) (find (λ (other : LLink). other.predicate == place) links))

  -- the first link to a predicate is asked
  first_asks : (place : ℕ) → place ≡ link.predicate
      → binds_at (link ∷ links) reading place ≡ link_binds reading (Some link)
  first_asks place its = ap (by_first place) (eq-eqb link.predicate place (sym its))

  -- a link to another predicate isn't
  other_asks : (place : ℕ) → (link.predicate ≡ place → ⊥)
      → binds_at (link ∷ links) reading place ≡ binds_at links reading place
  other_asks place other = ap (by_first place) (ne_eqb link.predicate place other)

  -- nor by any of these predicates, where the link's isn't among them
  pub others_ask : (from count : ℕ)
      → ((place : ℕ) → from ≤ place → place < from + count → link.predicate ≡ place → ⊥)
      → map (binds_at (link ∷ links) reading) (range_with_len from count)
      ≡ map (binds_at links reading) (range_with_len from count)
  others_ask from zero others = refl
  others_ask from (suc count) others =
      ap (λ binds. binds ∷ map (binds_at (link ∷ links) reading) (range_with_len (from + 1) count))
      (other_asks from (others from (omega arith) (omega arith)))
      ∙ ap (λ l. binds_at links reading from ∷ l)
      (others_ask (from + 1) count
      (λ place after before. others place (omega (arith, after)) (omega (arith, before))))

  -- one more link sets what its predicate is asked
  pub one_set : (from place count : ℕ) → from + place ≡ link.predicate → place < count
      → set (map (binds_at links reading) (range_with_len from count)) place (link_binds reading (Some link))
      ≡ map (binds_at (link ∷ links) reading) (range_with_len from count)
  one_set from place zero its within = absurd (omega (arith, within))
  one_set from zero (suc count) its within =
      ap (λ binds. binds ∷ map (binds_at links reading) (range_with_len (from + 1) count))
      (sym (first_asks from (omega (arith, its))))
      ∙ ap (λ l. binds_at (link ∷ links) reading from ∷ l)
      (sym (others_ask (from + 1) count (λ place after before same. omega (arith, its, after, same))))
  one_set from (suc place) (suc count) its within =
      let later = map (binds_at links reading) (range_with_len (from + 1) count) in
      ap (λ binds. binds ∷ set later place (link_binds reading (Some link)))
      (sym (other_asks from (λ same. omega (arith, its, same))))
      ∙ ap (λ l. binds_at (link ∷ links) reading from ∷ l)
      (one_set (from + 1) place count (omega (arith, its)) (omega (arith, within)))

-- at first none of the links is asked
pub asked_first : (links : List LLink) (reading : LeafReading) (count : ℕ)
    → replicate count [] ≡ map (binds_at (drop (length links) links) reading) (range_with_len 0 count)
asked_first links reading count =
    none_asked reading 0 count
    ∙ ap (λ l. map (binds_at l reading) (range_with_len 0 count)) (sym (drop_all (length links) links (omega arith)))

-- the links from the one at a place on
from_one : (links : List LLink) (at : ℕ) (link : LLink) → 0 < at → at ≤ length links
    → link ≡ get_or links (at - 1) link → link ∷ drop at links ≡ drop (at - 1) links
from_one links at link above within is =
    ap (λ l. l ∷ drop at links) is
    ∙ ap (λ next. get_or links (at - 1) link ∷ drop next links) (omega (arith, above))
    ∙ sym (drop_more links (at - 1) link (omega (arith, above, within)))

-- the link at a place asks its predicate
pub asked_one_more : (links : List LLink) (reading : LeafReading) (at count : ℕ) (link : LLink) (old : List (List Bind))
    (binds : List Bind) → 0 < at → at ≤ length links → link ≡ get_or links (at - 1) link
    → old ≡ map (binds_at (drop at links) reading) (range_with_len 0 count)
    → link.predicate < count → binds ≡ link_binds reading (Some link)
    → set old link.predicate binds ≡ map (binds_at (drop (at - 1) links) reading) (range_with_len 0 count)
asked_one_more links reading at count link old binds above within is were there asked =
    ap (λ l. set l link.predicate binds) were
    ∙ ap (set (map (binds_at (drop at links) reading) (range_with_len 0 count)) link.predicate) asked
    ∙ one_set link (drop at links) reading 0 link.predicate count (omega arith) there
    ∙ ap (λ l. map (binds_at l reading) (range_with_len 0 count)) (from_one links at link above within is)

-- a link to none of the predicates asks nothing
pub asked_no_more : (links : List LLink) (reading : LeafReading) (at count : ℕ) (link : LLink) (old : List (List Bind))
    → 0 < at → at ≤ length links → link ≡ get_or links (at - 1) link
    → old ≡ map (binds_at (drop at links) reading) (range_with_len 0 count)
    → count ≤ link.predicate → old ≡ map (binds_at (drop (at - 1) links) reading) (range_with_len 0 count)
asked_no_more links reading at count link old above within is were past =
    were
    ∙ sym (others_ask link (drop at links) reading 0 count
    (λ place after before same. omega (arith, past, before, same)))
    ∙ ap (λ l. map (binds_at l reading) (range_with_len 0 count)) (from_one links at link above within is)
