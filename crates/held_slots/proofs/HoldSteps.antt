-- One step of interning a configuration.
use Rattle.std.proofs.Common.{◌≡◌, ◌≢◌, ℕ, ◌+◌, ◌<◌, ◌≤◌, Bool, true, false, cond, List, [], ◌∷◌, length, map, get_or, set, take, Some, None, refl, sym, ap, subst, ◌∙◌, arith, inl, inr}
use Rattle.std.specs.Prelude.{◌==◌, nat_lt}
use Rattle.std.specs.List.{slice_get, All, sum_by}
use Rattle.std.proofs.lemmas.Bool.{cases_eq}
use Rattle.std.proofs.lemmas.Bool.Decides.{nat_tests}
use Rattle.std.proofs.lemmas.List.{get_or-set_same, get_or-set_other, get_or-take, get_or_default, get_or-map, length-map, take_all, take-take, length-take-le}
use Rattle.std.proofs.lemmas.List.Elements.{All-weaker}
use Rattle.std.proofs.lemmas.List.Sums.{sum_by-take-le, sum_by_more}
use Rattle.config_links.specs.declared.linked.LMatcher.{LMatcher}
use Rattle.config_links.specs.declared.linked.LMatcher.TheVariants.{Simple, Combo}
use Rattle.config_links.specs.declared.linked.Linked.{Linked}
use Rattle.config_links.specs.SoundConfig.{named_matchers, IsSoundMatcher, IsSoundConfig}
use Rattle.matcher_truths.specs.MatcherTruths.{MayBeAsked}
use Rattle.matcher_table.specs.declared.shared.SharedMatcher.{SharedMatcher}
use Rattle.matcher_table.specs.declared.shared.SharedMatcher.TheVariants.{Combination}
use Rattle.matcher_table.specs.declared.table.Slot.{Slot}
use Rattle.matcher_table.specs.Slots.{matcher_at, times_among}
use Rattle.matcher_table.specs.Tables.{SlotTable, outside_uses}
use Rattle.matcher_table.specs.Steps.{Interns}
use Rattle.matcher_table.proofs.Counting.{one_if, one_if_same, one_if_other, places_more, place_of, counted_at, sum_along}
use Rattle.matcher_table.proofs.HeldLaws.{some_live}
use Rattle.matcher_table.proofs.TreeLaws.{map_along}
use Rattle.held_slots.specs.Holdings.{in_slots, IsHeldAt}
use Rattle.held_slots.specs.HoldingSteps.{KeepsLive}
use Rattle.held_slots.proofs.HoldingLaws.{there, intern_keeps_live}
use Rattle.held_slots.proofs.PlanLaws.{IsPlan}

-- how often a slot is held by the places of a list
abbrev pub uses_along : List ℕ → ℕ → List ℕ → ℕ
uses_along slots s places = sum_by (λ p. one_if s (get_or slots p 0)) places

-- a write at a place that isn't named changes nothing of what is named
same_in_slots : (slots : List ℕ) (p x : ℕ) (m : LMatcher)
    → ((c : ℕ) → 0 < times_among c (named_matchers m) → c ≢ p) → in_slots (set slots p x) m ≡ in_slots slots m
same_in_slots slots p x (Simple simple) apart = refl
same_in_slots slots p x (Combo op children) apart =
    ap (λ (cs : List ℕ). Combination op cs)
    (map_along (λ c. get_or (set slots p x) c 0) (λ c. get_or slots c 0) children
    (λ c named. get_or-set_other slots p c x 0 (apart c named)))

below : (p n : ℕ) → 0 < cond (nat_lt p n) 1 0 → p < n
below p n h = grind (arith, nat_tests)

is_below : (p n : ℕ) → p < n → 0 < cond (nat_lt p n) 1 0
is_below p n h = grind (arith, nat_tests)

at_most : (b : Bool) → cond b 1 0 ≤ 1
at_most true = omega arith
at_most false = omega arith

module _ (matchers : List LMatcher) (order : List ℕ) (plan : IsPlan matchers order) where
  -- what stands in the order is a place
  pub is_place : (i : ℕ) → i < length order → get_or order i 0 < length matchers
  is_place i h =
      below (get_or order i 0) (length matchers)
      (subst (λ (n : ℕ). 0 < n) (plan.once (get_or order i 0)) (counted_at order i h))

  -- a place stands in the order once
  pub unseen : (i : ℕ) → i < length order → times_among (get_or order i 0) (take i order) ≡ 0
  unseen i h =
      omega (
        arith,
        places_more (get_or order i 0) order i h,
        one_if_same (get_or order i 0) (get_or order i 0) refl,
        sum_by-take-le (λ z. cond (z == get_or order i 0) 1 0) order (i + 1),
        plan.once (get_or order i 0),
        at_most (nat_lt (get_or order i 0) (length matchers)),
      )

  -- a front of a front has no more
  front_less : (c k i : ℕ) → k ≤ i → times_among c (take k order) ≤ times_among c (take i order)
  front_less c k i h =
      subst (λ (xs : List ℕ). times_among c xs ≤ times_among c (take i order)) (take-take k i order h)
      (sum_by-take-le (λ z. cond (z == c) 1 0) (take i order) k)

  -- what it names is held
  pub children_held : (i : ℕ) (m : LMatcher) → i < length order → slice_get matchers (get_or order i 0) ≡ Some m
      → (slots : List ℕ) (table : SlotTable) → length slots ≡ length matchers
      → ((p : ℕ) (m' : LMatcher) → 0 < times_among p (take i order) → slice_get matchers p ≡ Some m'
      → matcher_at table.slots (get_or slots p 0) ≡ Some (in_slots slots m')) → (c : ℕ)
      → 0 < times_among c (named_matchers m) → IsHeldAt table slots c
  children_held i m h e slots table long held c named =
      let seen : 0 < times_among c (take i order) = plan.after i c m h e named in
      let counted : 0 < times_among c order = omega (arith, sum_by-take-le (λ z. cond (z == c) 1 0) order i) in
      let within : c < length matchers =
      below c (length matchers) (subst (λ (n : ℕ). 0 < n) (plan.once c) counted) in
      let m' = there matchers c within in
      (omega arith, some_live (matcher_at table.slots (get_or slots c 0)) (in_slots slots m'.0) (held c m'.0 seen m'.1))

  module _ (i x : ℕ) (h : i < length order) (slots : List ℕ) (long : length slots ≡ length matchers) (m₀ : LMatcher)
      (is_m : slice_get matchers (get_or order i 0) ≡ Some m₀) (first old new : SlotTable)
      (interns : Interns old (in_slots slots m₀) x new)
      (held : (p : ℕ) (m : LMatcher) → 0 < times_among p (take i order) → slice_get matchers p ≡ Some m
      → matcher_at old.slots (get_or slots p 0) ≡ Some (in_slots slots m)) where
    apart_here : (c : ℕ) → 0 < times_among c (take i order) → c ≢ get_or order i 0
    apart_here c seen e =
        let none : times_among c (take i order) ≡ 0 = ap (λ (k : ℕ). times_among k (take i order)) e ∙ unseen i h in
        omega arith

    -- what an earlier matcher names isn't this place
    named_apart : (p : ℕ) (m : LMatcher) → 0 < times_among p (take i order) → slice_get matchers p ≡ Some m → (c : ℕ)
        → 0 < times_among c (named_matchers m) → c ≢ get_or order i 0
    named_apart p m seen e c named =
        let at = place_of p (take i order) seen in
        let short : length (take i order) ≡ i = length-take-le i order (omega arith) in
        let k = at.0 in
        let lower : k < i = omega (arith, at.1) in
        let is_p : get_or order k 0 ≡ p = sym (get_or-take i order k 0 lower) ∙ at.2 in
        let e_k : slice_get matchers (get_or order k 0) ≡ Some m =
        subst (λ (y : ℕ). slice_get matchers y ≡ Some m) (sym is_p) e in
        let before : 0 < times_among c (take k order) = plan.after k c m (omega arith) e_k named in
        apart_here c (omega (arith, front_less c k i (omega arith)))

    pub held_more : (p : ℕ) (m : LMatcher) → 0 < times_among p (take (i + 1) order) → slice_get matchers p ≡ Some m
        → matcher_at new.slots (get_or (set slots (get_or order i 0) x) p 0)
        ≡ Some (in_slots (set slots (get_or order i 0) x) m)
    held_more p m seen e =
        elim (cases_eq p (get_or order i 0)) [
          | inl same ↦
              let there : get_or (set slots (get_or order i 0) x) (get_or order i 0) 0 ≡ x =
              get_or-set_same slots (get_or order i 0) x 0 (omega (arith, is_place i h)) in
              let both : Some m ≡ Some m₀ = sym e ∙ ap (slice_get matchers) same ∙ is_m in
              let is : m ≡ m₀ = cc in
              ap (λ (k : ℕ). matcher_at new.slots (get_or (set slots (get_or order i 0) x) k 0)) same
              ∙ ap (matcher_at new.slots) there ∙ interns.here
              ∙ ap (λ (k : SharedMatcher). Some k) (sym (same_in_slots slots (get_or order i 0) x m₀
              (λ c named. apart_here c (plan.after i c m₀ h is_m named))))
              ∙ ap (λ (k : LMatcher). Some (in_slots (set slots (get_or order i 0) x) k)) (sym is)
          | inr other ↦
              let seen_before : 0 < times_among p (take i order) =
              omega (arith, places_more p order i h, one_if_other p (get_or order i 0) (λ e'. other (sym e'))) in
              let was = held p m seen_before e in
              ap (matcher_at new.slots) (get_or-set_other slots (get_or order i 0) p x 0 other)
              ∙ intern_keeps_live old new (in_slots slots m₀) x interns (get_or slots p 0)
              (some_live (matcher_at old.slots (get_or slots p 0)) (in_slots slots m) was)
              ∙ was
              ∙ ap (λ (k : SharedMatcher). Some k)
              (sym (same_in_slots slots (get_or order i 0) x m (named_apart p m seen_before e)))
        ]

    pub uses_more : ((s : ℕ) → outside_uses old s ≡ outside_uses first s + uses_along slots s (take i order)) → (s : ℕ)
        → outside_uses new s ≡ outside_uses first s
        + uses_along (set slots (get_or order i 0) x) s (take (i + 1) order)
    uses_more uses s =
        let slots' = set slots (get_or order i 0) x in
        let there : get_or slots' (get_or order i 0) 0 ≡ x =
        get_or-set_same slots (get_or order i 0) x 0 (omega (arith, is_place i h)) in
        let more : uses_along slots' s (take (i + 1) order)
        ≡ uses_along slots' s (take i order) + one_if s (get_or slots' (get_or order i 0) 0) =
        sum_by_more (λ p. one_if s (get_or slots' p 0)) order i 0 h in
        let as_before : uses_along slots' s (take i order) ≡ uses_along slots s (take i order) =
        sum_along (λ p. one_if s (get_or slots' p 0)) (λ p. one_if s (get_or slots p 0)) (take i order)
        (λ p seen. ap (λ (k : ℕ). one_if s k)
        (get_or-set_other slots (get_or order i 0) p x 0 (apart_here p seen))) in
        let one : one_if s (get_or slots' (get_or order i 0) 0) ≡ one_if s x = ap (one_if s) there in
        elim (cases_eq s x) [
          | inl same ↦
              let it : outside_uses new s ≡ outside_uses old s + 1 =
              subst (λ (k : ℕ). outside_uses new k ≡ outside_uses old k + 1) (sym same) interns.outside in
              omega (arith, one_if_same s x (sym same), uses s)
          | inr other ↦
              omega (arith, one_if_other s x (λ e. other (sym e)), uses s, interns.others.outside s other)
        ]

    pub others_more : KeepsLive first old → KeepsLive first new
    others_more keeps s live =
        intern_keeps_live old new (in_slots slots m₀) x interns s (λ gone. live (sym (keeps s live) ∙ gone))
        ∙ keeps s live

-- what holds of all that is counted holds at all places
pub all_counted : (P : ℕ → Type 0) (xs : List ℕ) → ((x : ℕ) → 0 < times_among x xs → P x) → All P xs
all_counted P xs f k d h = subst P (get_or_default xs k 0 d h) (f (get_or xs k 0) (counted_at xs k h))

-- the slots of held children are live, and have the numbers that are held
pub slots_live : (table : SlotTable) (slots children : List ℕ) → All (λ c. IsHeldAt table slots c) children
    → All (λ (slot : Slot). matcher_at table.slots slot.number ≢ None)
    (map (λ (c : ℕ). let one : Slot = record { number = get_or slots c 0 } in one) children)
slots_live table slots children all k d h =
    let f : ℕ → Slot = λ c. record { number = get_or slots c 0 } in
    let within : k < length children = omega (arith, length-map children f) in
    subst (λ (slot : Slot). matcher_at table.slots slot.number ≢ None) (sym (get_or-map f children k 0 d within))
    (all k 0 within).1

pub numbers_held : (slots children : List ℕ)
    → map (λ (slot : Slot). slot.number)
    (map (λ (c : ℕ). let one : Slot = record { number = get_or slots c 0 } in one) children)
    ≡ map (λ c. get_or slots c 0) children
numbers_held slots [] = refl
numbers_held slots (c ∷ children) = ap (λ (ns : List ℕ). get_or slots c 0 ∷ ns) (numbers_held slots children)

-- at the end each place was seen
pub seen_at_end : (matchers : List LMatcher) (order : List ℕ) → IsPlan matchers order → (i p : ℕ) → length order ≤ i
    → p < length matchers → 0 < times_among p (take i order)
seen_at_end matchers order plan i p past h =
    subst (λ (xs : List ℕ). 0 < times_among p xs) (sym (take_all i order past))
    (omega (arith, plan.once p, is_below p (length matchers) h))

-- a sound simple matcher may be asked
sound_askable : (count : ℕ) (matcher : LMatcher) → IsSoundMatcher count matcher → MayBeAsked matcher
sound_askable count (Simple simple) sound = sound
sound_askable count (Combo op children) sound = tt

-- the matchers of a sound configuration may be
pub all_askable : (linked : Linked) → IsSoundConfig linked → All MayBeAsked linked.matchers
all_askable linked sound =
    All-weaker (IsSoundMatcher (length linked.matchers)) MayBeAsked
    (sound_askable (length linked.matchers)) linked.matchers sound.matchers
