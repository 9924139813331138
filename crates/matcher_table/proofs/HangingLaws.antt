-- Lists that a slot joins and leaves.
use Rattle.std.proofs.Common.{◌≡◌, ◌≢◌, ◌⊎◌, ℕ, ◌+◌, ◌-◌, ◌<◌, ◌≤◌, Bool, List, [], ◌∷◌, ◌++◌, length, get_or, set, take, false, refl, sym, ap, subst, ◌∙◌, arith, inl, inr}
use Rattle.std.specs.List.{remove}
use Rattle.std.proofs.lemmas.Bool.{cases_eq, cases_lt}
use Rattle.std.proofs.lemmas.List.{get_or_append_left, get_or-set_same, get_or-set_other, length_push}
use Rattle.std.proofs.lemmas.List.Edits.{remove-append_right}
use Rattle.std.proofs.lemmas.List.Sums.{sum_by-take-le}
use Rattle.matcher_table.specs.Slots.{times_among}
use Rattle.matcher_table.specs.declared.hanging.AtomSlots.{AtomSlots}
use Rattle.matcher_table.specs.Hanging.{slots_at, high_slots, slots_under, atom_ids, LeavesList}
use Rattle.matcher_table.proofs.Counting.{one_if_same, one_if_other, places_push, places_more, places-remove, counted_at}
use Rattle.matcher_table.proofs.RowLaws.{same_under}

-- how often a number stands in a front of a list is at most how often it stands in it
pub front_less : (s n : ℕ) (xs : List ℕ) → times_among s (take n xs) ≤ times_among s xs
front_less s n xs = sum_by-take-le _ xs n

-- maps that are the same have the same lists
pub lists_same : (old new : AtomSlots) → new.low ≡ old.low → new.by_id ≡ old.by_id → (id : ℕ)
    → slots_under new id ≡ slots_under old id
lists_same old new low same id =
    let high : high_slots new id ≡ high_slots old id = rw same refl in
    same_under old new id (ap (λ row. slots_at row.items id) low) high

pub ids_same : (old new : AtomSlots) → new.ids.entries ≡ old.ids.entries → (s : ℕ) → atom_ids new s ≡ atom_ids old s
ids_same old new same s = rw same refl

append_none : (xs : List ℕ) → xs ++ [] ≡ xs
append_none [] = refl
append_none (x ∷ xs) = ap (λ (ys : List ℕ). x ∷ ys) (append_none xs)

-- a list that a slot joins at the end and leaves again is as it was
pub joined_and_left : (slot : ℕ) (xs ys : List ℕ) → times_among slot xs ≡ 0 → LeavesList slot (xs ++ slot ∷ []) ys
    → ys ≡ xs
joined_and_left slot xs ys none leaves =
    elim leaves [
      | inl apart ↦ absurd (omega (arith, apart.0, places_push slot slot xs, one_if_same slot slot refl))
      | inr taken ↦
          let at = taken.0 in
          elim (cases_lt at (length xs)) [
            | inl lower ↦
                let here : get_or xs at 0 ≡ slot = sym (get_or_append_left xs (slot ∷ []) 0 at lower) ∙ taken.2 in
                let some : 0 < times_among slot xs =
                subst (λ (x : ℕ). 0 < times_among x xs) here (counted_at xs at lower) in
                absurd (omega arith)
            | inr past ↦
                let is_last : at ≡ length xs = omega (arith, taken.1, length_push xs slot) in
                taken.3 ∙ last_out is_last
          ]
    ]
  where
    last_out : {at : ℕ} → at ≡ length xs → remove (xs ++ slot ∷ []) at ≡ xs
    last_out {at} is_last =
        let first : length xs - length xs ≡ 0 = omega arith in
        ap (remove (xs ++ slot ∷ [])) is_last
        ∙ remove-append_right xs (slot ∷ []) (length xs) (length xs) refl (omega arith)
        ∙ ap (λ (k : ℕ). xs ++ remove (slot ∷ []) k) first ∙ append_none xs

-- a list that doesn't have the slot stays as it is
pub not_left : (slot : ℕ) (xs ys : List ℕ) → times_among slot xs ≡ 0 → LeavesList slot xs ys → ys ≡ xs
not_left slot xs ys none leaves =
    elim leaves [
      | inl apart ↦ apart.1
      | inr taken ↦
          let some : 0 < times_among slot xs =
          subst (λ (x : ℕ). 0 < times_among x xs) taken.2 (counted_at xs taken.0 taken.1) in
          absurd (omega arith)
    ]

-- what has left a list where it stood once isn't there
pub has_left : (slot : ℕ) (xs ys : List ℕ) → times_among slot xs ≤ 1 → LeavesList slot xs ys → times_among slot ys ≡ 0
has_left slot xs ys once leaves =
    elim leaves [
      | inl apart ↦ ap (times_among slot) apart.1 ∙ apart.0
      | inr taken ↦
          omega (
            arith,
            ap (times_among slot) taken.3,
            places-remove slot xs taken.0 taken.1,
            one_if_same slot (get_or xs taken.0 0) taken.2,
          )
    ]

-- the lists by id: as they were, as they are after some ids of a list, and after one more
module _ (slot : ℕ) (old now new : ℕ → List ℕ) (ids : List ℕ) (i : ℕ) (within : i < length ids)
    (others : (other : ℕ) → other ≢ get_or ids i 0 → new other ≡ now other)
    (apart : (id : ℕ) → times_among id (take i ids) ≡ 0 → now id ≡ old id) where
  pub apart_more : (id : ℕ) → times_among id (take (i + 1) ids) ≡ 0 → new id ≡ old id
  apart_more id none =
      elim (cases_eq id (get_or ids i 0)) [
        | inl same ↦
            absurd (omega (arith, places_more id ids i within, one_if_same id (get_or ids i 0) (sym same)))
        | inr other ↦ others id other ∙ apart id (omega (arith, places_more id ids i within))
      ]

  pub joined_more : ((id : ℕ) → times_among id ids ≤ 1)
      → ((id : ℕ) → 0 < times_among id (take i ids) → now id ≡ old id ++ slot ∷ [])
      → new (get_or ids i 0) ≡ now (get_or ids i 0) ++ slot ∷ []
      → (id : ℕ) → 0 < times_among id (take (i + 1) ids) → new id ≡ old id ++ slot ∷ []
  joined_more once joined own id among =
      elim (cases_eq id (get_or ids i 0)) [
        | inl same ↦
            let first : times_among id (take i ids) ≡ 0 =
            omega (
              arith,
              places_more id ids i within,
              one_if_same id (get_or ids i 0) (sym same),
              front_less id (i + 1) ids,
              once id,
            ) in
            ap new same ∙ own ∙ ap (λ (k : ℕ). now k ++ slot ∷ []) (sym same)
            ∙ ap (λ (xs : List ℕ). xs ++ slot ∷ []) (apart id first)
        | inr other ↦
            others id other
            ∙ joined id (omega (
              arith,
              places_more id ids i within,
              one_if_other id (get_or ids i 0) (λ e. other (sym e)),
            ))
      ]

  pub left_more : ((id : ℕ) → times_among slot (old id) ≤ 1)
      → ((id : ℕ) → 0 < times_among id (take i ids) → LeavesList slot (old id) (now id))
      → LeavesList slot (now (get_or ids i 0)) (new (get_or ids i 0))
      → (id : ℕ) → 0 < times_among id (take (i + 1) ids) → LeavesList slot (old id) (new id)
  left_more once left own id among =
      elim (cases_eq id (get_or ids i 0)) [
        | inl same ↦
            let here : LeavesList slot (now id) (new id) =
            subst (λ (k : ℕ). LeavesList slot (now k) (new k)) (sym same) own in
            elim (cases_eq (times_among id (take i ids)) 0) [
              | inl first ↦ subst (λ (xs : List ℕ). LeavesList slot xs (new id)) (apart id first) here
              | inr again ↦
                  let before : LeavesList slot (old id) (now id) = left id (omega arith) in
                  subst (LeavesList slot (old id))
                  (sym (not_left slot (now id) (new id) (has_left slot (old id) (now id) (once id) before) here)) before
            ]
        | inr other ↦
            subst (LeavesList slot (old id)) (sym (others id other))
            (left id (omega (
              arith,
              places_more id ids i within,
              one_if_other id (get_or ids i 0) (λ e. other (sym e)),
            )))
      ]

-- ids that stand once each, with one more that isn't there
pub once_pushed : (id : ℕ) (ids : List ℕ) → ((other : ℕ) → times_among other ids ≤ 1) → times_among id ids ≡ 0
    → (other : ℕ) → times_among other (ids ++ id ∷ []) ≤ 1
once_pushed id ids once none other =
    elim (cases_eq other id) [
      | inl same ↦
          let first : times_among other ids ≡ 0 = ap (λ (k : ℕ). times_among k ids) same ∙ none in
          omega (arith, places_push other id ids, one_if_same other id (sym same))
      | inr differs ↦
          omega (arith, places_push other id ids, one_if_other other id (λ e. differs (sym e)), once other)
    ]

-- what holds of a front of a list, and of the next place, holds of the front with it
pub front_more : (P : ℕ → Type 0) (xs : List ℕ) (i : ℕ) → i < length xs
    → ((x : ℕ) → 0 < times_among x (take i xs) → P x) → P (get_or xs i 0)
    → (x : ℕ) → 0 < times_among x (take (i + 1) xs) → P x
front_more P xs i within before here x among =
    elim (cases_eq x (get_or xs i 0)) [
      | inl same ↦ subst P (sym same) here
      | inr other ↦
          before x (omega (arith, places_more x xs i within, one_if_other x (get_or xs i 0) (λ e. other (sym e))))
    ]

-- truths of which those of some slots are put back, and then that of the next
module _ (before results idle : List Bool) (slots : List ℕ) (from i : ℕ) (within : i < length slots)
    (room : get_or slots i 0 < length results) where
  pub put_more : ((s : ℕ) → times_among s (take from slots) < times_among s (take i slots)
      → get_or results s false ≡ get_or idle s false)
      → (s : ℕ) → times_among s (take from slots) < times_among s (take (i + 1) slots)
      → get_or (set results (get_or slots i 0) (get_or idle (get_or slots i 0) false)) s false ≡ get_or idle s false
  put_more done s more =
      let x = get_or slots i 0 in
      let b = get_or idle x false in
      elim (cases_eq s x) [
        | inl same ↦ ap (λ (k : ℕ). get_or (set results x b) k false) same ∙ get_or-set_same results x b false room
            ∙ ap (λ (k : ℕ). get_or idle k false) (sym same)
        | inr other ↦
            get_or-set_other results x s b false other
            ∙ done s (omega (arith, places_more s slots i within, one_if_other s x (λ e. other (sym e))))
      ]

  pub put_either : ((s : ℕ) → (get_or results s false ≡ get_or before s false)
      ⊎ (get_or results s false ≡ get_or idle s false))
      → (s : ℕ) → (get_or (set results (get_or slots i 0) (get_or idle (get_or slots i 0) false)) s false
      ≡ get_or before s false)
      ⊎ (get_or (set results (get_or slots i 0) (get_or idle (get_or slots i 0) false)) s false ≡ get_or idle s false)
  put_either either s =
      let x = get_or slots i 0 in
      let b = get_or idle x false in
      elim (cases_eq s x) [
        | inl same ↦ inr (ap (λ (k : ℕ). get_or (set results x b) k false) same ∙ get_or-set_same results x b false room
            ∙ ap (λ (k : ℕ). get_or idle k false) (sym same))
        | inr other ↦
            elim (either s) [
              | inl old ↦ inl (get_or-set_other results x s b false other ∙ old)
              | inr put ↦ inr (get_or-set_other results x s b false other ∙ put)
            ]
      ]
