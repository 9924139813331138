-- Lemmas on specs/FieldEnds.antt: what the walk to an end finds, and that tables of ends say which entries are picked.
use Rattle.std.proofs.Common.{◌≡◌, ◌≢◌, ℕ, zero, suc, ◌≤◌, min, List, [], ◌∷◌, refl, sym, ap, ◌∙◌, arith}
use Rattle.field_select.specs.declared.ends.End.{End}
use Rattle.field_select.specs.declared.ends.End.TheVariants.{First, Last}
use Rattle.field_select.specs.LeafValues.{lesser_index}
use Rattle.field_select.specs.FieldEnds.{nearer_index, end_index}

-- 0 is none, on either side
lesser_zero : (x : ℕ) → lesser_index x 0 ≡ x
lesser_zero x = grind arith

-- two indexes from 1 on have the lesser of them
lesser_both : (x y : ℕ) → 1 ≤ x → 1 ≤ y → lesser_index x y ≡ min x y
lesser_both x y one_le other_le = grind arith

-- the nearest of three
pub nearer_assoc : (end : End) (x y z : ℕ)
    → nearer_index end x (nearer_index end y z) ≡ nearer_index end (nearer_index end x y) z
nearer_assoc First zero y z = refl
nearer_assoc First (suc x) zero z = ap (λ w. lesser_index w z) (sym (lesser_zero (suc x)))
nearer_assoc First (suc x) (suc y) zero =
    ap (lesser_index (suc x)) (lesser_zero (suc y)) ∙ sym (lesser_zero (lesser_index (suc x) (suc y)))
nearer_assoc First (suc x) (suc y) (suc z) =
    let least : min (suc x) (min (suc y) (suc z)) ≡ min (min (suc x) (suc y)) (suc z) = omega arith in
    ap (lesser_index (suc x)) (lesser_both (suc y) (suc z) (omega arith) (omega arith))
    ∙ lesser_both (suc x) (min (suc y) (suc z)) (omega arith) (omega arith)
    ∙ least
    ∙ sym (lesser_both (min (suc x) (suc y)) (suc z) (omega arith) (omega arith))
    ∙ ap (λ w. lesser_index w (suc z)) (sym (lesser_both (suc x) (suc y) (omega arith) (omega arith)))
nearer_assoc Last x y z = omega arith

-- the nearer of two, in either order
pub nearer_comm : (end : End) (x y : ℕ) → nearer_index end x y ≡ nearer_index end y x
nearer_comm First zero y = sym (lesser_zero y)
nearer_comm First (suc x) zero = lesser_zero (suc x)
nearer_comm First (suc x) (suc y) =
    let least : min (suc x) (suc y) ≡ min (suc y) (suc x) = omega arith in
    lesser_both (suc x) (suc y) (omega arith) (omega arith) ∙ least
    ∙ sym (lesser_both (suc y) (suc x) (omega arith) (omega arith))
nearer_comm Last x y = omega arith

-- an index is as near as itself
pub nearer_same : (end : End) (x : ℕ) → nearer_index end x x ≡ x
nearer_same First zero = refl
nearer_same First (suc x) =
    let least : min (suc x) (suc x) ≡ suc x = omega arith in
    lesser_both (suc x) (suc x) (omega arith) (omega arith) ∙ least
nearer_same Last x = omega arith

-- 0 is none
pub nearer_none : (end : End) (x : ℕ) → nearer_index end x 0 ≡ x
nearer_none First x = lesser_zero x
nearer_none Last x = omega arith

pub none_nearer : (end : End) (x : ℕ) → nearer_index end 0 x ≡ x
none_nearer end x = nearer_comm end 0 x ∙ nearer_none end x

-- the nearer of two is one of them
pub nearer_moves : (end : End) (x y : ℕ) → nearer_index end x y ≢ x → nearer_index end x y ≡ y
nearer_moves First zero y moves = refl
nearer_moves First (suc x) zero moves = absurd (moves (lesser_zero (suc x)))
nearer_moves First (suc x) (suc y) moves =
    let is = lesser_both (suc x) (suc y) (omega arith) (omega arith) in
    let less : min (suc x) (suc y) ≢ suc x = λ e. moves (is ∙ e) in
    let least : min (suc x) (suc y) ≡ suc y = omega arith in
    is ∙ least
nearer_moves Last x y moves = omega arith

-- where y is the nearest after all, and isn't nearer than x, x is
pub nearer_stays : (end : End) (x y z : ℕ) → nearer_index end x y ≡ x → nearer_index end x z ≡ y
    → nearer_index end x z ≡ x
nearer_stays end x y z stays is =
    ap (λ w. nearer_index end w z) (sym (nearer_same end x)) ∙ sym (nearer_assoc end x x z) ∙ ap (nearer_index end x) is
    ∙ stays

-- after a nearer index came, the old one is never the nearest again
pub nearer_leaves : (end : End) (x y z : ℕ) → nearer_index end x y ≢ x → nearer_index end y z ≢ x
nearer_leaves end x y z moves back =
    moves (
    nearer_comm end x y ∙ ap (nearer_index end y) (sym back) ∙ nearer_assoc end y y z
    ∙ ap (λ w. nearer_index end w z) (nearer_same end y) ∙ back
    )

-- the end of no indexes, and of one more
pub end_of_none : (end : End) → end_index end [] ≡ 0
end_of_none First = refl
end_of_none Last = refl

pub end_of_more : (end : End) (x : ℕ) (more : List ℕ)
    → end_index end (x ∷ more) ≡ nearer_index end x (end_index end more)
end_of_more First x more = refl
end_of_more Last x more = refl

-- the nearest index so far and those to come, with one index more among them
pub end_moves_on : (end : End) (index i : ℕ) (more : List ℕ)
    → nearer_index end index (end_index end (i ∷ more)) ≡ nearer_index end (nearer_index end index i)
    (end_index end more)
end_moves_on end index i more = ap (nearer_index end index) (end_of_more end i more)
    ∙ nearer_assoc end index i (end_index end more)
