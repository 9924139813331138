-- The intervals of a part of a pulled metric's time, read ahead from where each begins, and followed to where it ends.
use Rattle.std.specs.Prelude.{Bool, false, not, ◌&&◌, List, [], ◌∷◌, ◌++◌, Option, Some, None, if◌then◌else◌}

-- An interval, by what the metric found in the last snapshot at its beginning and at its end.
pub record Interval (S : Type 0) : Type 0 where
  pub begun : S
  pub ended : S

-- What is seen at a moment: whether the condition is true, and what the metric finds in the last snapshot. The moments
-- of a part are its start, and each of its steps once it has acted.
pub record Seen (S : Type 0) : Type 0 where
  pub holds : Bool
  pub found : S

module _ {S : Type 0} where
  -- what is found where an interval ends that goes on: at the next moment at which the condition isn't true, or at the
  -- end of the part, which finds what the last moment found
  abbrev pub found_at_end : S → List (Seen S) → S
  found_at_end last [] = last
  found_at_end last (now ∷ later) = if now.holds then found_at_end now.found later else now.found

  -- the intervals that begin at these moments, where the condition was true or not at the moment before: one begins
  -- where it is true and wasn't
  abbrev pub intervals_ahead : Bool → List (Seen S) → List (Interval S)
  intervals_ahead held [] = []
  intervals_ahead held (now ∷ later) =
      (if now.holds && not held then record { begun = now.found; ended = found_at_end now.found later } ∷ [] else [])
      ++ intervals_ahead now.holds later

  -- the intervals of a part with these moments: at its start one begins wherever the condition is true
  abbrev pub intervals_of : List (Seen S) → List (Interval S)
  intervals_of moments = intervals_ahead false moments

  -- the interval that is open after a moment, by what was found at its beginning
  abbrev pub open_after : Option S → Seen S → Option S
  open_after None now = if now.holds then Some now.found else None
  open_after (Some begun) now = if now.holds then Some begun else None

  -- the open interval, if there is one, ends with what is found now
  abbrev pub ended_with : Option S → S → List (Interval S)
  ended_with None now = []
  ended_with (Some begun) now = record { begun = begun; ended = now } ∷ []

  -- the open interval ends at a moment at which the condition isn't true
  abbrev pub ended_at_moment : Option S → Seen S → List (Interval S)
  ended_at_moment going now = if now.holds then [] else ended_with going now.found

  -- the intervals that end at these moments, and at the end of the part, which finds what the last moment found
  abbrev pub intervals_followed : Option S → S → List (Seen S) → List (Interval S)
  intervals_followed going last [] = ended_with going last
  intervals_followed going last (now ∷ later) =
      ended_at_moment going now ++ intervals_followed (open_after going now) now.found later
