-- Releasing the slots of a list, one after another.
use Rattle.std.proofs.Common.{◌≡◌, ℕ, ◌+◌, ◌<◌, ◌≤◌, List, [], length, get_or, take, refl, sym, subst, ◌∙◌, arith, inl, inr}
use Rattle.std.specs.Prelude.{◌==◌, cond}
use Rattle.std.proofs.lemmas.Bool.{cases_eq}
use Rattle.std.proofs.lemmas.List.Sums.{sum_by-take-le}
use Rattle.matcher_table.specs.Slots.{times_among}
use Rattle.matcher_table.specs.Tables.{SlotTable, outside_uses}
use Rattle.matcher_table.specs.Steps.{Releases}
use Rattle.matcher_table.proofs.Counting.{one_if_same, one_if_other, places_more}
use Rattle.held_slots.specs.HoldingSteps.{ReleasesAll}

module _ (slots : List ℕ) (i : ℕ) (h : i < length slots) (first old : SlotTable)
    (enough : (s : ℕ) → times_among s slots ≤ outside_uses first s)
    (before : ReleasesAll first (take i slots) old) where
  -- the next slot of the list has an outside use
  pub still_used : 0 < outside_uses old (get_or slots i 0)
  still_used =
      let s = get_or slots i 0 in
      omega (
        arith,
        places_more s slots i h,
        one_if_same s s refl,
        sum_by-take-le (λ z. cond (z == s) 1 0) slots (i + 1),
        enough s,
        before.outside s,
      )

  -- it is released too
  pub releases_more : (new : SlotTable) → Releases old (get_or slots i 0) new
      → ReleasesAll first (take (i + 1) slots) new
  releases_more new releases = record {
    outside = λ s. elim (cases_eq s (get_or slots i 0)) [
      | inl same ↦
          let one : outside_uses new s + 1 ≡ outside_uses old s =
          subst (λ (k : ℕ). outside_uses new k + 1 ≡ outside_uses old k) (sym same) releases.outside in
          omega (arith, places_more s slots i h, one_if_same s (get_or slots i 0) (sym same), before.outside s)
      | inr other ↦
          omega (
            arith,
            places_more s slots i h,
            one_if_other s (get_or slots i 0) (λ e. other (sym e)),
            before.outside s,
            releases.others s other,
          )
    ];
    stays = λ s used. releases.stays s used ∙ before.stays s (elim (cases_eq s (get_or slots i 0)) [
      | inl same ↦
          let one : outside_uses new s + 1 ≡ outside_uses old s =
          subst (λ (k : ℕ). outside_uses new k + 1 ≡ outside_uses old k) (sym same) releases.outside in
          omega arith
      | inr other ↦ omega (arith, releases.others s other)
    ]);
  }

-- nothing is released
pub releases_none : (table : SlotTable) → ReleasesAll table [] table
releases_none table = record { outside = λ s. omega arith; stays = λ s used. refl }
