-- One id more is noted.
use Rattle.std.proofs.Common.{◌≡◌, ℕ, ◌+◌, ◌<◌, ◌==◌, ◌||◌, Bool, true, false, List, drop, length, get_or, refl, sym, ap, ◌∙◌}
use Rattle.std.specs.Prelude.{◌&&◌}
use Rattle.std.specs.List.{list_any}
use Rattle.std.proofs.lemmas.List.{at_drop_more}

-- what is noted for one and then for others is noted for both
both_noted : (was same one rest : Bool) → ((was || (same && one)) || (same && rest)) ≡ (was || (same && (one || rest)))
both_noted true same one rest = refl
both_noted false true one rest = refl
both_noted false false one rest = refl

pub added_step : (items : List ℕ) (place id : ℕ) (was now same whole : Bool) → place < length items
    → now ≡ (was || (same && (get_or items place 0 == id)))
    → (was || (same && list_any (λ heard. heard == id) (drop place items))) ≡ whole
    → (now || (same && list_any (λ heard. heard == id) (drop (place + 1) items))) ≡ whole
added_step items place id was now same whole within is before =
    let test : ℕ → Bool = λ heard. heard == id in
    let rest = list_any test (drop (place + 1) items) in
    ap (λ b. b || (same && rest)) is ∙ both_noted was same (get_or items place 0 == id) rest
    ∙ ap (λ b. was || (same && b)) (sym (at_drop_more (list_any test) items place 0 within)) ∙ before
