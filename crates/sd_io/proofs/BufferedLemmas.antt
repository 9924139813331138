-- On specs/Causes.antt, for readers that read ahead: what is consumed of their buffer is taken from the front.
use Rattle.std.proofs.Common.{◌≡◌, ℕ, ◌≤◌, Bool, true, false, if◌then◌else◌, List, ◌++◌, length, take, drop, Option, None, Some, sym, ap, ◌∙◌, subst}
use Rattle.std.proofs.lemmas.List.{take-append-le, take-append-drop, length-take-le}
use Rattle.std.specs.Io.KnownBytes.{prepend_known}
use Rattle.std.specs.Io.BufRead.{DropsConsumable}
use Rattle.sd_io.specs.Causes.{Consumes, TakesCount}

-- a front of a list, and what comes after it with more behind
parts_with : (front more : List ℕ) (count : ℕ)
    → count ≤ length front
    → front ++ more ≡ take count front ++ drop count (front ++ more)
parts_with front more count within =
    sym (take-append-drop count (front ++ more))
    ∙ ap (λ l. l ++ drop count (front ++ more)) (take-append-le count front more within)

-- so many bytes of a buffer, that stand in front of what its reader has left, were taken
pub buffered_taken : (none : Bool) (buffer : List ℕ) (inner new : Option (List ℕ)) (count : ℕ)
    → count ≤ length buffer
    → DropsConsumable (if none then None else prepend_known buffer inner) new (Some (length buffer)) count
    → TakesCount (if none then None else prepend_known buffer inner) new count
buffered_taken true buffer inner new count within drops = (take count buffer, tt, length-take-le count buffer within)
buffered_taken false buffer None new count within drops = (take count buffer, tt, length-take-le count buffer within)
buffered_taken false buffer (Some more) new count within drops = (
  take count buffer,
  subst (λ left. Consumes (Some (buffer ++ more)) left (take count buffer)) (sym (drops within))
      (parts_with buffer more count within),
  length-take-le count buffer within,
)
