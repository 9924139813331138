-- Worked lists of ids, by computing.
use Rattle.std.proofs.Common.{◌≡◌, pos, negsuc, eqb, [], ◌∷◌, Some, None, refl}
use Rattle.std.specs.Ordering.{int_eq}
use Rattle.distinct.specs.Places.{first_place}
use Rattle.distinct.specs.Repeats.{repeat_in}

-- of the ids a, b, b, a the second b is the first that stood earlier
first_to_come_again : repeat_in eqb (7 ∷ 8 ∷ 8 ∷ 7 ∷ []) ≡ Some 8
first_to_come_again = refl

no_repeat : repeat_in eqb (7 ∷ 8 ∷ 9 ∷ []) ≡ None
no_repeat = refl

-- negative ids differ from positive ones
signs : repeat_in int_eq (pos 1 ∷ negsuc 0 ∷ pos 0 ∷ negsuc 0 ∷ []) ≡ Some (negsuc 0)
signs = refl

-- the first of two places
first_of_two : first_place (eqb 8) (7 ∷ 8 ∷ 8 ∷ []) ≡ Some 1
unfolding first_place
first_of_two = refl

nowhere : first_place (eqb 9) (7 ∷ 8 ∷ 8 ∷ []) ≡ None
unfolding first_place
nowhere = refl
