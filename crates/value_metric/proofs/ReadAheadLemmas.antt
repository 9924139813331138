-- What ends at the calls of a part is read ahead from its start.
use Rattle.std.proofs.Common.{◌≡◌, ℕ, Bool, true, false, List, [], ◌∷◌, ◌++◌, Option, Some, None, is_some, if◌then◌else◌, refl, sym, ap, ◌∙◌, append_assoc, append-nil}
use Rattle.sd_base.specs.Outputs.{outputs_after}
use Rattle.predicate_state.specs.declared.truth.Truth.{Truth}
use Rattle.metric_producer.specs.Calls.{Got, Learned, Crossed, CutAt, Took}
use Rattle.metric_kinds.specs.Diffs.{KeyedInts}
use Rattle.metric_kinds.specs.Intervals.{Interval, Seen, open_after, ended_at_moment, intervals_followed}
use Rattle.metric_kinds.proofs.IntervalsLemmas.{intervals_followed-ahead}
use Rattle.value_metric.specs.PulledValues.{PulledValueCall, snapshot_told, truth_told, told_last, is_truth, last_found, is_told_true, seen_after_calls}
use Rattle.value_metric.specs.CallIntervals.{starts_at, open_by_calls, ended_at_boundary}
use Rattle.value_metric.specs.ReadAhead.{ended_by_call, ended_in, seen_at_calls, StartNone, IsReadAhead, AreReadAhead}
use Rattle.value_metric.proofs.CallIntervalsLemmas.{last_truth, last_found-push, is_told_true-push, open_while_held, open-same, open-learned, open-begins}

module _ {S : Type 0} where
  -- where the condition stays, nothing ends
  none_ends : (open_now : Option S) (held : Bool) (found : S) → is_some open_now ≡ held
      → [] ≡ ended_at_moment open_now (record { holds = held; found = found })
  none_ends open_now true found is = refl
  none_ends None false found is = refl
  none_ends (Some begun) false found is = absurd cc

  -- and what is open goes on
  goes_on : (open_now : Option S) (held : Bool) (found : S) → is_some open_now ≡ held
      → open_now ≡ open_after open_now (record { holds = held; found = found })
  goes_on None true found is = absurd cc
  goes_on None false found is = refl
  goes_on (Some begun) true found is = refl
  goes_on (Some begun) false found is = absurd cc

-- What a call makes of the intervals is what its moment makes of them.
record IsMoment (before : List PulledValueCall) (call : PulledValueCall) : Type 0 where
  ended : ended_by_call before call
      ≡ ended_at_moment (open_by_calls before) (seen_after_calls (before ++ call ∷ []))
  opens : open_by_calls (before ++ call ∷ [])
      ≡ open_after (open_by_calls before) (seen_after_calls (before ++ call ∷ []))

-- a call that tells no condition and begins no part
quiet : (before : List PulledValueCall) (call : PulledValueCall) → starts_at call ≡ [] → truth_told call ≡ []
    → ended_by_call before call ≡ [] → IsMoment before call
quiet before call starts told none =
    let after = before ++ call ∷ [] in
    let held : is_some (open_by_calls before) ≡ is_told_true after =
    ap is_some (sym (open-same before call starts told)) ∙ open_while_held after in
    record {
      ended = none ∙ none_ends (open_by_calls before) (is_told_true after) (last_found after) held;
      opens = open-same before call starts told
          ∙ goes_on (open_by_calls before) (is_told_true after) (last_found after) held;
    }

-- a call that tells a condition
told : (before : List PulledValueCall) (at : ℕ) (now : Truth) → IsMoment before (Learned at now)
told before at now =
    let after = before ++ Learned at now ∷ [] in
    let seen : Seen (Option KeyedInts) = record { holds = is_truth now; found = last_found before } in
    let is : seen ≡ seen_after_calls after =
    ap (λ b. (let s : Seen (Option KeyedInts) = record { holds = b; found = last_found before } in s))
    (sym (is_told_true-push before (Learned at now)))
    ∙ ap (λ f. (let s : Seen (Option KeyedInts) = record { holds = is_told_true after; found = f } in s))
    (sym (last_found-push before (Learned at now))) in
    record {
      ended = ap (ended_at_moment (open_by_calls before)) is;
      opens = open-learned before at now ∙ ap (open_after (open_by_calls before)) is;
    }

is_moment : (before : List PulledValueCall) (call : PulledValueCall) → starts_at call ≡ [] → IsMoment before call
is_moment before (Got at event) none = quiet before (Got at event) refl refl refl
is_moment before (Learned at now) none = told before at now
is_moment before (Crossed crossings) none = absurd cc
is_moment before (CutAt at) none = absurd cc
is_moment before Took none = quiet before Took refl refl refl

-- what ends inside a part is followed from what is open
followed : (before calls : List PulledValueCall) → StartNone calls
    → ended_in before calls
    ≡ intervals_followed (open_by_calls before) (last_found before) (seen_at_calls before calls)
followed before [] inside = ap ended_at_boundary (append-nil before)
followed before (call ∷ later) inside =
    let after = before ++ call ∷ [] in
    let moment = is_moment before call inside.0 in
    let here = ended_by_call before call in
    let others = outputs_after ended_by_call after later in
    let now = seen_after_calls after in
    let rest : Option (Option KeyedInts) → List (Interval (Option KeyedInts)) =
    λ open_now. intervals_followed open_now now.found (seen_at_calls after later) in
    append_assoc here others (ended_at_boundary (before ++ call ∷ later))
    ∙ ap (λ calls. here ++ (others ++ ended_at_boundary calls)) (sym (append_assoc before (call ∷ []) later))
    ∙ ap (λ l. here ++ l) (followed after later inside.1)
    ∙ ap (λ open_now. here ++ rest open_now) moment.opens
    ∙ ap (λ l. l ++ rest (open_after (open_by_calls before) now)) moment.ended

-- from a part's start
from_start : (begun calls : List PulledValueCall) → open_by_calls begun ≡ open_after None (seen_after_calls begun)
    → StartNone calls → IsReadAhead begun calls
from_start begun calls opens inside =
    followed begun calls inside
    ∙ ap (λ open_now. intervals_followed open_now (last_found begun) (seen_at_calls begun calls)) opens
    ∙ intervals_followed-ahead (seen_after_calls begun) (seen_at_calls begun calls)

-- at a boundary an interval begins if the condition is true
at_boundary : (before : List PulledValueCall) (call : PulledValueCall) (start : ℕ) (starts : List ℕ)
    → starts_at call ≡ start ∷ starts → truth_told call ≡ [] → snapshot_told call ≡ []
    → open_by_calls (before ++ call ∷ []) ≡ open_after None (seen_after_calls (before ++ call ∷ []))
at_boundary before call start starts is told found =
    let held : is_told_true (before ++ call ∷ []) ≡ is_told_true before =
    is_told_true-push before call ∙ ap (λ l. is_truth (told_last (last_truth before) l)) told in
    let last : last_found (before ++ call ∷ []) ≡ last_found before =
    last_found-push before call ∙ ap (told_last (last_found before)) found in
    open-begins before call start starts is told
    ∙ ap (λ b. if b then Some (last_found before) else None) (sym held)
    ∙ ap (λ f. if is_told_true (before ++ call ∷ []) then Some f else None) (sym last)

begins : (before : List PulledValueCall) (boundary : PulledValueCall) (start : ℕ) (starts : List ℕ)
    → starts_at boundary ≡ start ∷ starts
    → let begun = before ++ boundary ∷ [] in open_by_calls begun ≡ open_after None (seen_after_calls begun)
begins before (Got at event) start starts is = absurd cc
begins before (Learned at now) start starts is = absurd cc
begins before (Crossed crossings) start starts is = at_boundary before (Crossed crossings) start starts is refl refl
begins before (CutAt at) start starts is = at_boundary before (CutAt at) start starts is refl refl
begins before Took start starts is = absurd cc

-- the law of each part
pub are_read_ahead : AreReadAhead
are_read_ahead = record {
  first_part = λ calls inside. from_start [] calls refl inside;
  later_part = λ before calls boundary start starts is inside.
      from_start (before ++ boundary ∷ []) calls (begins before boundary start starts is) inside;
  empty_part = λ before. intervals_followed-ahead (seen_after_calls before) [];
}
