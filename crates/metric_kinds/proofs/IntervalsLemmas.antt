-- The intervals of a part are the same ones read ahead and followed.
use Rattle.std.proofs.Common.{◌≡◌, Bool, true, false, List, [], ◌∷◌, Some, None, refl, ap}
use Rattle.metric_kinds.specs.Intervals.{Interval, Seen, found_at_end, intervals_ahead, intervals_of, open_after, intervals_followed}

module _ {S : Type 0} where
  -- What is followed over some moments, while an interval is open and while none is.
  record AreFollowed (moments : List (Seen S)) : Type 0 where
    under_way : (begun last : S)
        → intervals_followed (Some begun) last moments
        ≡ record { begun = begun; ended = found_at_end last moments } ∷ intervals_ahead true moments
    at_rest : (last : S) → intervals_followed None last moments ≡ intervals_ahead false moments

  -- one moment before these, while an interval is open
  under_way_at : (holds : Bool) (found : S) (later : List (Seen S)) → AreFollowed later → (begun last : S)
      → let moment : Seen S = record { holds = holds; found = found } in
      intervals_followed (Some begun) last (moment ∷ later)
      ≡ record { begun = begun; ended = found_at_end last (moment ∷ later) } ∷ intervals_ahead true (moment ∷ later)
  under_way_at true found later follows begun last = follows.under_way begun found
  under_way_at false found later follows begun last =
      let ended : Interval S = record { begun = begun; ended = found } in
      ap (λ l. ended ∷ l) (follows.at_rest found)

  -- one moment before these, while none is
  at_rest_at : (holds : Bool) (found : S) (later : List (Seen S)) → AreFollowed later → (last : S)
      → let moment : Seen S = record { holds = holds; found = found } in
      intervals_followed None last (moment ∷ later) ≡ intervals_ahead false (moment ∷ later)
  at_rest_at true found later follows last = follows.under_way found found
  at_rest_at false found later follows last = follows.at_rest found

  are_followed : (moments : List (Seen S)) → AreFollowed moments
  are_followed [] = record { under_way = λ begun last. refl; at_rest = λ last. refl }
  are_followed (moment ∷ later) = record {
    under_way = under_way_at moment.holds moment.found later (are_followed later);
    at_rest = at_rest_at moment.holds moment.found later (are_followed later);
  }

  -- by what is seen at the start
  from_start : (holds : Bool) (found : S) (later : List (Seen S))
      → let start : Seen S = record { holds = holds; found = found } in
      intervals_followed (open_after None start) found later ≡ intervals_of (start ∷ later)
  from_start true found later = (are_followed later).under_way found found
  from_start false found later = (are_followed later).at_rest found

  -- the intervals that are followed from a part's start are those that are read ahead
  pub intervals_followed-ahead : (start : Seen S) (later : List (Seen S))
      → intervals_followed (open_after None start) start.found later ≡ intervals_of (start ∷ later)
  intervals_followed-ahead start later = from_start start.holds start.found later
