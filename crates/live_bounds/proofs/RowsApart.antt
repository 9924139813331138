-- The rows of a hub: names apart, so that each row is what is found under its name.
use Rattle.std.proofs.Common.{◌≡◌, ℤ, Bool, true, false, ◌&&◌, cond, List, [], ◌∷◌, Some, refl, sym, ap, ◌∙◌, true≢false}
use Rattle.std.specs.List.{AllByRecursion, IsDistinct}
use Rattle.std.specs.Map.{keys_of}
use Rattle.std.specs.Ordering.{int_eq}
use Rattle.std.proofs.lemmas.Cmp.{int_eq_equiv}
use Rattle.saved_weight.proofs.LivesWithin.{same_name, name_exact}
use Rattle.client_engine.specs.declared.live_id.LiveId.{LiveId}
use Rattle.hub_core.specs.declared.live_instance.LiveInstance.{LiveInstance}
use Rattle.hub_core.specs.Slots.{same_id, slot_at}

-- the rows of what is live
abbrev pub Rows : Type 0
Rows = List (LiveId × LiveInstance)

-- a name as its two numbers
abbrev pub pair_of : LiveId → ℤ × ℤ
pair_of name = (name.uid, name.id)

-- a name is compared with itself, and either way
same_refl : (name : LiveId) → same_id name name ≡ true
same_refl name = ap (λ b. b && int_eq name.id name.id) (int_eq_equiv.refl name.uid) ∙ int_eq_equiv.refl name.id

same_symm : (name other : LiveId) → same_id name other ≡ same_id other name
same_symm name other =
    ap (λ b. b && int_eq name.id other.id) (int_eq_equiv.symm name.uid other.uid)
    ∙ ap (λ b. int_eq other.uid name.uid && b) (int_eq_equiv.symm name.id other.id)

-- names apart are so by their numbers
pub pairs_apart : (name other : LiveId) → same_id name other ≡ false → same_name (pair_of name) (pair_of other) ≡ false
pairs_apart name other apart = by (same_name (pair_of name) (pair_of other)) refl where
  by : (same : Bool) → same_name (pair_of name) (pair_of other) ≡ same → same ≡ false
  by false is = refl
  by true is =
      let pairs = name_exact (pair_of name) (pair_of other) is in
      let names : name ≡ other =
      ap (λ (pair : ℤ × ℤ). let name : LiveId = record { uid = pair.0; id = pair.1 } in name) pairs in
      absurd (true≢false (sym (same_refl name) ∙ ap (same_id name) names ∙ apart))

-- each of these rows is what is found under its name in a list
abbrev pub AreFound : Rows → Rows → Type 0
AreFound all rows = AllByRecursion (λ (row : LiveId × LiveInstance). slot_at row.0 all ≡ Some row.1) rows

-- a row of another name before all changes nothing
found_after : (first : LiveId × LiveInstance) (all rows : Rows)
    → AllByRecursion (λ other. same_id first.0 other ≡ false) (keys_of rows) → AreFound all rows
    → AreFound (first ∷ all) rows
found_after first all [] apart found = tt
found_after first all (row ∷ rows) apart found =
    let other : same_id row.0 first.0 ≡ false = same_symm row.0 first.0 ∙ apart.0 in
    (ap (λ b. cond b (Some first.1) (slot_at row.0 all)) other ∙ found.0, found_after first all rows apart.1 found.1)

-- where no two names are the same, each row is found
pub all_found : (rows : Rows) → IsDistinct same_id (keys_of rows) → AreFound rows rows
unfolding IsDistinct
all_found [] apart = tt
all_found (row ∷ rows) apart = (
  ap (λ b. cond b (Some row.1) (slot_at row.0 rows)) (same_refl row.0),
  found_after row rows rows apart.0 (all_found rows apart.1),
)
