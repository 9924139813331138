-- What is sampled in a part by following its calls is what its intervals say, read ahead: for the laws of callers.
use Rattle.std.proofs.Common.{◌≡◌, Bool, true, false, not, ◌&&◌, if◌then◌else◌, List, [], ◌∷◌, ◌++◌, Option, Some, refl, sym, ap, ◌∙◌, append-nil}
use Rattle.std.proofs.lemmas.Bool.{true≢false}
use Rattle.std.proofs.lemmas.Grind.{flat_map-append}
use Rattle.sd_base.specs.Outputs.{outputs_after}
use Rattle.config_types.specs.declared.parameters.Sampling.{Sampling}
use Rattle.config_types.specs.declared.parameters.Sampling.TheVariants.{AtStart}
use Rattle.metric_producer.specs.Calls.{Got, Learned, Crossed, CutAt, Took}
use Rattle.metric_producer.specs.Collecting.{call_marks}
use Rattle.metric_kinds.specs.Intervals.{Interval, Seen, found_at_end, intervals_ahead, intervals_of}
use Rattle.gauge_metric.specs.declared.gauge.KeyedAtom.{KeyedAtom}
use Rattle.gauge_metric.specs.declared.snapshot.SnapAtoms.TheVariants.{Snapshot, Trigger}
use Rattle.gauge_metric.specs.PulledSampling.{PulledGaugeParams, PulledGaugeCall, last_snapshot, last_condition, is_told_held, is_start_moment, moment_marks, marks_if, pulled_collecting}
use Rattle.gauge_metric.specs.PulledMoments.{sampled_after, seen_in_part, begun_marks, AreInPart, part_marks}
use Rattle.gauge_metric.proofs.PulledCallsLemmas.{snapshot_push, truth_push}

-- the samples where an interval begins, or none
begun_if : (begins : Bool) (found ended : Option (List KeyedAtom))
    → let interval : Interval (Option (List KeyedAtom)) = record { begun = found; ended = ended } in
    begun_marks (if begins then interval ∷ [] else []) ≡ marks_if begins found
begun_if true found ended = append-nil (moment_marks found)
begun_if false found ended = refl

-- one more moment, read ahead
begun_cons : (held : Bool) (now : Seen (Option (List KeyedAtom))) (later : List (Seen (Option (List KeyedAtom))))
    → begun_marks (intervals_ahead held (now ∷ later))
    ≡ marks_if (now.holds && not held) now.found ++ begun_marks (intervals_ahead now.holds later)
begun_cons held now later =
    let ended = found_at_end now.found later in
    let interval : Interval (Option (List KeyedAtom)) = record { begun = now.found; ended = ended } in
    flat_map-append (λ (i : Interval (Option (List KeyedAtom))). moment_marks i.begun)
    (if now.holds && not held then interval ∷ [] else []) (intervals_ahead now.holds later)
    ∙ ap (λ marks. marks ++ begun_marks (intervals_ahead now.holds later))
    (begun_if (now.holds && not held) now.found ended)

-- a condition that stays begins nothing
stays : (held : Bool) → (held && not held) ≡ false
stays true = refl
stays false = refl

-- what is seen at a call that leaves the condition
seen_by_event : (held now : Bool) (found : Option (List KeyedAtom)) (later : List (Seen (Option (List KeyedAtom))))
    → now ≡ held
    → begun_marks (intervals_ahead held (record { holds = now; found = found } ∷ later))
    ≡ begun_marks (intervals_ahead held later)
seen_by_event held now found later same =
    begun_cons held (record { holds = now; found = found }) later
    ∙ ap (λ h. marks_if (h && not held) found ++ begun_marks (intervals_ahead h later)) same
    ∙ ap (λ b. marks_if b found ++ begun_marks (intervals_ahead held later)) (stays held)

-- with another mode
abbrev with_mode : PulledGaugeParams → Sampling → PulledGaugeParams
with_mode params mode = record params { spec = record params.spec { mode = mode } }

-- a truth, and one that holds
and_true : (b : Bool) → b ≡ (b && true)
and_true true = refl
and_true false = refl

module _ (params : PulledGaugeParams) (is_start : params.spec.mode ≡ AtStart) where
  -- what is sampled at these calls is what the intervals that begin at them say
  pub begun_within : (before calls : List PulledGaugeCall) → AreInPart calls
      → outputs_after (call_marks pulled_collecting params) before calls
      ≡ begun_marks (intervals_ahead (is_told_held (last_condition before)) (seen_in_part before calls))
  begun_within before [] within = refl
  begun_within before (Got at (Snapshot found) ∷ calls) within =
      let call : PulledGaugeCall = Got at (Snapshot found) in
      let next = before ++ call ∷ [] in
      let same : is_told_held (last_condition next) ≡ is_told_held (last_condition before) =
      ap is_told_held (truth_push before call) in
      begun_within next calls within.1
      ∙ ap (λ held. begun_marks (intervals_ahead held (seen_in_part next calls))) same
      ∙ sym (seen_by_event (is_told_held (last_condition before)) (is_told_held (last_condition next))
      (last_snapshot next)
      (seen_in_part next calls) same)
  begun_within before (Got at Trigger ∷ calls) within =
      let call : PulledGaugeCall = Got at Trigger in
      let next = before ++ call ∷ [] in
      let same : is_told_held (last_condition next) ≡ is_told_held (last_condition before) =
      ap is_told_held (truth_push before call) in
      let none : call_marks pulled_collecting params before call ≡ [] =
      ap (λ mode. call_marks pulled_collecting (with_mode params mode) before call) is_start in
      ap (λ marks. marks ++ outputs_after (call_marks pulled_collecting params) next calls) none
      ∙ begun_within next calls within.1
      ∙ ap (λ held. begun_marks (intervals_ahead held (seen_in_part next calls))) same
      ∙ sym (seen_by_event (is_told_held (last_condition before)) (is_told_held (last_condition next))
      (last_snapshot next)
      (seen_in_part next calls) same)
  begun_within before (Learned at now ∷ calls) within =
      let call : PulledGaugeCall = Learned at now in
      let next = before ++ call ∷ [] in
      let held = is_told_held (last_condition before) in
      let later = seen_in_part next calls in
      let told : last_condition next ≡ Some now = truth_push before call in
      let found : last_snapshot next ≡ last_snapshot before = snapshot_push before call in
      let marks : call_marks pulled_collecting params before call
      ≡ marks_if (is_told_held (Some now) && not held) (last_snapshot before) =
      ap (λ mode. call_marks pulled_collecting (with_mode params mode) before call) is_start in
      ap (λ l. l ++ outputs_after (call_marks pulled_collecting params) next calls)
      (marks ∙ ap (λ t. marks_if (is_told_held t && not held) (last_snapshot before)) (sym told)
      ∙ ap (marks_if (is_told_held (last_condition next) && not held)) (sym found))
      ∙ ap (λ l. marks_if (is_told_held (last_condition next) && not held) (last_snapshot next) ++ l)
      (begun_within next calls within.1)
      ∙ sym (begun_cons held (sampled_after next) later)
  begun_within before (Crossed crossings ∷ calls) within = absurd (true≢false (sym within.0))
  begun_within before (CutAt at ∷ calls) within = absurd (true≢false (sym within.0))
  begun_within before (Took ∷ calls) within = absurd (true≢false (sym within.0))

  -- What is sampled in a part, from its beginning on, is what its intervals say, read ahead.
  pub part_marks-ahead : (before calls : List PulledGaugeCall) → AreInPart calls
      → part_marks params before calls ≡ begun_marks (intervals_of (sampled_after before ∷ seen_in_part before calls))
  part_marks-ahead before calls within =
      let held = is_told_held (last_condition before) in
      let rest = outputs_after (call_marks pulled_collecting params) before calls in
      ap (λ mode. marks_if (is_start_moment mode (last_condition before)) (last_snapshot before) ++ rest) is_start
      ∙ ap (λ b. marks_if b (last_snapshot before) ++ rest) (and_true held)
      ∙ ap (λ l. marks_if (held && true) (last_snapshot before) ++ l) (begun_within before calls within)
      ∙ sym (begun_cons false (sampled_after before) (seen_in_part before calls))
