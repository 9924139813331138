-- Lemmas on `specs/Causes.antt`, for `StdSink`: a put that is made in several steps.
use Rattle.std.proofs.Common.{◌≡◌, ℕ, List, [], ◌++◌, Option, take, drop, refl, sym, ap, ◌∙◌, subst, append_assoc, append-nil, take-append-drop}
use Rattle.sd_io.specs.Causes.{Appends, AppendsFront, Keeps}
use Rattle.sd_io.proofs.CausesLemmas.{Appends-nil, Appends-trans, Appends-kept}

-- a front of the piece was written, and this is left of it
pub record IsUnderWay (old new : Option (List ℕ)) (piece left : List ℕ) : Type 0 where
  pub front : List ℕ
  pub parts : piece ≡ front ++ left
  pub appended : Appends old new front

pub IsUnderWay-start : (old : Option (List ℕ)) (piece : List ℕ) → IsUnderWay old old piece piece
IsUnderWay-start old piece = record { front = []; parts = refl; appended = Appends-nil old }

module _ (old mid new : Option (List ℕ)) (piece left : List ℕ) (h : IsUnderWay old mid piece left) where
  -- some bytes more
  pub IsUnderWay-more : (count : ℕ) → Appends mid new (take count left) → IsUnderWay old new piece (drop count left)
  IsUnderWay-more count more = record {
    front = h.front ++ take count left;
    parts = h.parts
        ∙ ap (λ l. h.front ++ l) (sym (take-append-drop count left))
        ∙ sym (append_assoc h.front (take count left) (drop count left));
    appended = Appends-trans old mid new h.front (take count left) h.appended more;
  }

  -- it broke off
  pub AppendsFront-under_way : Keeps mid new → AppendsFront old new piece
  AppendsFront-under_way kept = (h.front, (left, h.parts), Appends-kept old mid new h.front h.appended kept)

-- nothing is left
pub Appends-under_way : (old new : Option (List ℕ)) (piece : List ℕ)
    → IsUnderWay old new piece []
    → Appends old new piece
Appends-under_way old new piece h =
    subst (Appends old new) (sym (h.parts ∙ append-nil h.front)) h.appended
