-- Lists in a row, and lists in a map.
use Rattle.std.proofs.Common.{◌≡◌, ◌≢◌, ℕ, ◌<◌, ◌≤◌, ltb, cond, List, [], ◌∷◌, ◌++◌, length, map, get_or, set, refl, sym, ap, ◌∙◌, arith, inl, inr}
use Rattle.std.specs.Global.{Vec}
use Rattle.std.proofs.lemmas.Bool.{cases_lt, cases_eq, cond_below, cond_above}
use Rattle.std.proofs.lemmas.List.{get_or_append_left, get_or_past, get_or-map, get_or-set_same, get_or-set_other, get_or_push, length_push, length-map, length-set}
use Rattle.matcher_table.specs.declared.hanging.AtomSlots.{AtomSlots}
use Rattle.matcher_table.specs.Hanging.{low_ids, slots_at, high_slots, slots_under}

-- where the slots under an id are read
pub is_low : (lists : AtomSlots) (id : ℕ) → id < low_ids → slots_under lists id ≡ slots_at lists.low.items id
is_low lists id low = sym (cond_below id low_ids (slots_at lists.low.items id) (high_slots lists id) low)

pub is_high : (lists : AtomSlots) (id : ℕ) → low_ids ≤ id → slots_under lists id ≡ high_slots lists id
is_high lists id high =
    sym (cond_above id low_ids (slots_at lists.low.items id) (high_slots lists id) (high_slots lists id) high refl)

-- what is the same in the row and in the map is the same
pub same_under : (old new : AtomSlots) (id : ℕ) → slots_at new.low.items id ≡ slots_at old.low.items id
    → high_slots new id ≡ high_slots old id → slots_under new id ≡ slots_under old id
same_under old new id low high =
    ap (λ (xs : List ℕ). cond (ltb id low_ids) xs (high_slots new id)) low
    ∙ ap (λ (xs : List ℕ). cond (ltb id low_ids) (slots_at old.low.items id) xs) high

module _ (lists : List (Vec ℕ)) where
  -- a list of the row
  pub in_row : (at : ℕ) (none : Vec ℕ) → at < length lists → slots_at lists at ≡ (get_or lists at none).items
  in_row at none within = get_or-map (λ (list : Vec ℕ). list.items) lists at none [] within

  pub past_row : (at : ℕ) → length lists ≤ at → slots_at lists at ≡ []
  past_row at past =
      get_or_past (map (λ (list : Vec ℕ). list.items) lists) at []
      (omega (arith, past, length-map lists (λ (list : Vec ℕ). list.items)))

  -- one list is another
  pub set_in_row : (at : ℕ) (list : Vec ℕ) → at < length lists → slots_at (set lists at list) at ≡ list.items
  set_in_row at list within =
      get_or-map (λ (l : Vec ℕ). l.items) (set lists at list) at list []
      (omega (arith, within, length-set lists at list))
      ∙ ap (λ (l : Vec ℕ). l.items) (get_or-set_same lists at list list within)

  pub others_in_row : (at : ℕ) (list : Vec ℕ) (other : ℕ) → other ≢ at
      → slots_at (set lists at list) other ≡ slots_at lists other
  others_in_row at list other apart = elim (cases_lt other (length lists)) [
    | inl within ↦
        get_or-map (λ (l : Vec ℕ). l.items) (set lists at list) other list []
        (omega (arith, within, length-set lists at list))
        ∙ ap (λ (l : Vec ℕ). l.items) (get_or-set_other lists at other list list apart)
        ∙ sym (in_row other list within)
    | inr past ↦
        get_or_past (map (λ (l : Vec ℕ). l.items) (set lists at list)) other []
        (omega (arith, past, length-set lists at list, length-map (set lists at list) (λ (l : Vec ℕ). l.items)))
        ∙ sym (past_row other past)
  ]

  -- an empty list more changes none
  pub empty_pushed : (empty : Vec ℕ) → empty.items ≡ [] → (other : ℕ)
      → slots_at (lists ++ empty ∷ []) other ≡ slots_at lists other
  empty_pushed empty none other = elim (cases_lt other (length lists)) [
    | inl within ↦
        get_or-map (λ (l : Vec ℕ). l.items) (lists ++ empty ∷ []) other empty []
        (omega (arith, within, length_push lists empty))
        ∙ ap (λ (l : Vec ℕ). l.items) (get_or_append_left lists (empty ∷ []) empty other within)
        ∙ sym (in_row other empty within)
    | inr past ↦ elim (cases_eq other (length lists)) [
      | inl last ↦
          get_or-map (λ (l : Vec ℕ). l.items) (lists ++ empty ∷ []) other empty []
          (omega (arith, last, length_push lists empty))
          ∙ ap (λ (l : Vec ℕ). l.items) (get_or_push lists empty empty other (sym last)) ∙ none
          ∙ sym (past_row other past)
      | inr beyond ↦
          get_or_past (map (λ (l : Vec ℕ). l.items) (lists ++ empty ∷ [])) other []
          (omega (
            arith,
            past,
            beyond,
            length_push lists empty,
            length-map (lists ++ empty ∷ []) (λ (l : Vec ℕ). l.items),
          ))
          ∙ sym (past_row other past)
    ]
  ]
