-- Marks at places.
use Rattle.std.proofs.Common.{◌≡◌, ℕ, zero, suc, ◌<◌, ◌≤◌, Bool, true, false, List, [], ◌∷◌, length, set, get_or, take, ◌+◌, sym, subst, refl, ◌∙◌, arith, inl, inr}
use Rattle.std.proofs.lemmas.Bool.{cases_eq, cases_lt, true≢false, false≢true}
use Rattle.std.proofs.lemmas.List.{length-set, get_or-set_same, get_or-set_other, get_or_past, take_all}
use Rattle.known_conditions.specs.Marks.{IsMarked, KeepsMarks, AreAllMarked}
use Rattle.known_conditions.proofs.ListsLemmas.{in_one_more}

-- what stands in a list is the same, whatever stands past its end
pub get_or_any : {X : Type 0} (xs : List X) (place : ℕ) (none other : X) → place < length xs
    → get_or xs place none ≡ get_or xs place other
get_or_any [] place none other within = absurd (omega (arith, within))
get_or_any (x ∷ xs) zero none other within = refl
get_or_any (x ∷ xs) (suc place) none other within = get_or_any xs place none other (omega (arith, within))

-- a place that isn't marked is inside
pub marked_within : (marks : List Bool) (place : ℕ) → get_or marks place true ≡ false → place < length marks
marked_within marks place off = elim (cases_lt place (length marks)) [
  | inl within ↦ within
  | inr past ↦ absurd (true≢false (sym (get_or_past marks place true past) ∙ off))
]

-- marks stay where one is added
pub stay_marked : (marks : List Bool) (place : ℕ) → KeepsMarks marks (set marks place true)
stay_marked marks place other on = elim (cases_eq other place) [
  | inl same_place ↦ elim (cases_lt place (length marks)) [
    | inl within ↦
        subst (IsMarked (set marks place true)) (sym same_place) (get_or-set_same marks place true true within)
    | inr past ↦
        get_or_past (set marks place true) other true
        (omega (arith, length-set marks place true, past, same_place))
  ]
  | inr differ ↦ get_or-set_other marks place other true true differ ∙ on
]

-- it is the one that is marked
pub here_marked : (marks : List Bool) (place : ℕ) → place < length marks → IsMarked (set marks place true) place
here_marked marks place within = get_or-set_same marks place true true within

-- none of these is marked yet
pub none_to_mark : (places : List ℕ) (marks : List Bool) → AreAllMarked (take 0 places) marks
none_to_mark places marks place among = absurd (false≢true among)

-- one more of these places is marked
pub one_more_marked : (places : List ℕ) (turn here none : ℕ) (old new : List Bool) → turn < length places
    → here ≡ get_or places turn none → AreAllMarked (take turn places) old → KeepsMarks old new → IsMarked new here
    → AreAllMarked (take (turn + 1) places) new
one_more_marked places turn here none old new within is before stay marked other among =
    elim (in_one_more places turn other none within among) [
      | inl there ↦ stay other (before other there)
      | inr last ↦ subst (IsMarked new) (is ∙ last) marked
    ]

-- all of them
pub all_are_marked : (places : List ℕ) (turn : ℕ) (marks : List Bool) → length places ≤ turn
    → AreAllMarked (take turn places) marks → AreAllMarked places marks
all_are_marked places turn marks ends marked = subst (λ l. AreAllMarked l marks) (take_all turn places ends) marked

-- there is but one of these places, and it is marked
pub only_marked : (places : List ℕ) (marks : List Bool) → length places ≡ 1 → IsMarked marks (get_or places 0 0)
    → AreAllMarked places marks
only_marked places marks one marked =
    all_are_marked places 1 marks (omega (arith, one))
    (one_more_marked places 0 (get_or places 0 0) 0 marks marks (omega (arith, one)) refl (none_to_mark places marks)
    (λ place on. on) marked)
