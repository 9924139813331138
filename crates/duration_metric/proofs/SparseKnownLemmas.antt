-- What is known of an inner key and for how long it has been on, once one more call has come: lemmas on
-- `specs/InnerKeys.antt` and `specs/SparseCalls.antt`.
use Rattle.std.proofs.Common.{◌≡◌, ℕ, ◌+◌, ◌-◌, Bool, true, false, not, if◌then◌else◌, cond, List, [], ◌∷◌, ◌++◌, map, reverse, length, drop, Option, None, refl, ap, ◌∙◌, append-nil, arith}
use Rattle.std.specs.List.{after_last, flat_map, last_or, prefix_len, suffix_len}
use Rattle.std.proofs.lemmas.Grind.{flat_map-append}
use Rattle.std.proofs.lemmas.List.{length-append, reverse-append, drop_all, drop-append-le}
use Rattle.sd_base.specs.Outputs.{outputs}
use Rattle.sd_base.proofs.OutputsLemmas.{outputs-push}
use Rattle.bucket_meaning.specs.Guard.{is_among}
use Rattle.config_types.specs.declared.parameters.PredSpec.{PredSpec}
use Rattle.predicate_state.specs.PredicateStates.{initial_state, state_from, state_after}
use Rattle.predicate_state.specs.PredicateTable.{LeafKey, same_leaves}
use Rattle.predicate_state.proofs.PredicateStateLemmas.{state_from-push}
use Rattle.metric_producer.specs.Calls.{Got}
use Rattle.metric_kinds.specs.Durations.{time_since_off}
use Rattle.metric_kinds.proofs.DurationsLemmas.{since_off-off, since_off-on}
use Rattle.duration_metric.specs.declared.change.InnerEvent.{InnerEvent}
use Rattle.duration_metric.specs.InnerKeys.{DurationCall, KeySeen, key_events, inner_state, inner_keys, told_to, key_seen, last_known}
use Rattle.duration_metric.specs.SparseCalls.{turn_times, is_told_timed, is_on, inner_moment, running_time}

-- the elements at the end that pass no test, one more
no_suffix : {X : Type 0} (test : X → Bool) (xs : List X) (last : X) (passes : Bool) → test last ≡ passes
    → suffix_len (λ x. not (test x)) (xs ++ last ∷ [])
    ≡ (if passes then 0 else 1 + suffix_len (λ x. not (test x)) xs)
no_suffix {X} test xs last passes is =
    let other : X → Bool = λ x. not (test x) in
    ap (prefix_len other) (reverse-append xs (last ∷ []))
    ∙ ap (λ b. cond (not b) (1 + prefix_len other (reverse xs)) 0) is ∙ by_case passes (suffix_len other xs) where
      by_case : (passes : Bool) (n : ℕ) → cond (not passes) (1 + n) 0 ≡ (if passes then 0 else 1 + n)
      by_case true n = refl
      by_case false n = refl

-- nothing stands after the last that passes a test, if that is the last of all
after_last-passes : {X : Type 0} (test : X → Bool) (xs : List X) (last : X) → test last ≡ true
    → after_last test (xs ++ last ∷ []) ≡ []
after_last-passes test xs last is =
    drop_all (length (xs ++ last ∷ []) - suffix_len (λ x. not (test x)) (xs ++ last ∷ [])) (xs ++ last ∷ [])
    (omega (arith, no_suffix test xs last true is))

-- one that passes none stands after it too
after_last-fails : {X : Type 0} (test : X → Bool) (xs : List X) (last : X) → test last ≡ false
    → after_last test (xs ++ last ∷ []) ≡ after_last test xs ++ last ∷ []
after_last-fails {X} test xs last is =
    let other : X → Bool = λ x. not (test x) in
    let behind = suffix_len other xs in
    let starts : length (xs ++ last ∷ []) - suffix_len other (xs ++ last ∷ []) ≡ length xs - behind =
    omega (arith, no_suffix test xs last false is, length-append xs (last ∷ [])) in
    ap (λ n. drop n (xs ++ last ∷ [])) starts
    ∙ drop-append-le (length xs - behind) xs (last ∷ []) (omega arith)

-- the last of two lists
pub last_or-append : {X : Type 0} (first : Option X) (xs ys : List X)
    → last_or first (xs ++ ys) ≡ last_or (last_or first xs) ys
last_or-append first [] ys = refl
last_or-append first (x ∷ xs) ys = last_or-append _ xs ys

module _ (spec : PredSpec) (calls : List DurationCall) where
  -- an event acts on what the calls before left
  pub state_got : (at : ℕ) (event : InnerEvent)
      → inner_state spec (calls ++ Got at event ∷ [])
      ≡ state_after same_leaves spec (inner_state spec calls) event.event event.key
  state_got at event =
      ap (state_from same_leaves spec (initial_state spec)) (flat_map-append key_events calls (Got at event ∷ []))
      ∙ state_from-push same_leaves spec (initial_state spec) (flat_map key_events calls)
      (record { event = event.event; key = event.key })

  -- all other calls leave it
  pub state_idle : (call : DurationCall) → key_events call ≡ []
      → inner_state spec (calls ++ call ∷ []) ≡ inner_state spec calls
  state_idle call idle =
      ap (state_from same_leaves spec (initial_state spec))
      (flat_map-append key_events calls (call ∷ [])
      ∙ ap (λ l. flat_map key_events calls ++ l) (append-nil (key_events call) ∙ idle)
      ∙ append-nil (flat_map key_events calls))

  module _ (call : DurationCall) (key : LeafKey) where
    -- the key, once the call has come
    abbrev now : KeySeen
    now = record {
      is_listed = is_among same_leaves key (inner_keys spec (calls ++ call ∷ []));
      told = told_to spec key calls call;
    }

    -- nothing is known of a key that isn't listed
    pub known-unlisted : is_among same_leaves key (inner_keys spec (calls ++ call ∷ [])) ≡ false
        → last_known spec (calls ++ call ∷ []) key ≡ None
    known-unlisted off =
        ap (λ l. last_or None (flat_map (λ (seen : KeySeen). seen.told)
        (after_last (λ (seen : KeySeen). not seen.is_listed) l))) (outputs-push (key_seen spec key) calls call)
        ∙ ap (λ l. last_or None (flat_map (λ (seen : KeySeen). seen.told) l))
        (after_last-passes (λ (seen : KeySeen). not seen.is_listed) (outputs (key_seen spec key) calls)
        now (ap not off))

    -- of one that is listed, what was told of it last
    pub known-listed : is_among same_leaves key (inner_keys spec (calls ++ call ∷ [])) ≡ true
        → last_known spec (calls ++ call ∷ []) key ≡ last_or (last_known spec calls key) (told_to spec key calls call)
    known-listed on =
        let before = after_last (λ (seen : KeySeen). not seen.is_listed) (outputs (key_seen spec key) calls) in
        ap (λ l. last_or None (flat_map (λ (seen : KeySeen). seen.told)
        (after_last (λ (seen : KeySeen). not seen.is_listed) l))) (outputs-push (key_seen spec key) calls call)
        ∙ ap (λ l. last_or None (flat_map (λ (seen : KeySeen). seen.told) l))
        (after_last-fails (λ (seen : KeySeen). not seen.is_listed) (outputs (key_seen spec key) calls) now (ap not on))
        ∙ ap (last_or None) (flat_map-append (λ (seen : KeySeen). seen.told) before (now ∷ [])
        ∙ ap (λ l. flat_map (λ (seen : KeySeen). seen.told) before ++ l) (append-nil (told_to spec key calls call)))
        ∙ last_or-append None (flat_map (λ (seen : KeySeen). seen.told) before) (told_to spec key calls call)

    -- the key's moments, with those of the call
    moments : (end : ℕ) (times : List ℕ) → turn_times call ≡ times
        → running_time spec (calls ++ call ∷ []) end key
        ≡ time_since_off (outputs (inner_moment spec key) calls ++ map (λ at. record {
          at = at;
          is_on = is_on spec (calls ++ call ∷ []) key;
          holds = is_told_timed (last_known spec (calls ++ call ∷ []) key);
        }) times) end
    moments end times is =
        ap (λ l. time_since_off l end) (outputs-push (inner_moment spec key) calls call)
        ∙ ap (λ ts. time_since_off (outputs (inner_moment spec key) calls ++ map (λ at. record {
          at = at;
          is_on = is_on spec (calls ++ call ∷ []) key;
          holds = is_told_timed (last_known spec (calls ++ call ∷ []) key);
        }) ts) end) is

    -- a call that is neither an event nor a condition leaves its time
    pub time-idle : (end : ℕ) → turn_times call ≡ []
        → running_time spec (calls ++ call ∷ []) end key ≡ running_time spec calls end key
    time-idle end none =
        moments end [] none ∙ ap (λ l. time_since_off l end) (append-nil (outputs (inner_moment spec key) calls))

    module _ (at end : ℕ) (turns : turn_times call ≡ at ∷ []) where
      -- a key that isn't on then has no time
      pub time-off : is_on spec (calls ++ call ∷ []) key ≡ false → running_time spec (calls ++ call ∷ []) end key ≡ 0
      time-off off = moments end (at ∷ []) turns
          ∙ since_off-off (outputs (inner_moment spec key) calls) (record {
            at = at;
            is_on = is_on spec (calls ++ call ∷ []) key;
            holds = is_told_timed (last_known spec (calls ++ call ∷ []) key);
          }) end off

      -- the time of one that is on goes on from what it was
      pub time-on : is_on spec (calls ++ call ∷ []) key ≡ true
          → running_time spec (calls ++ call ∷ []) end key
          ≡ running_time spec calls at key
          + (if is_told_timed (last_known spec (calls ++ call ∷ []) key) then end - at else 0)
      time-on on = moments end (at ∷ []) turns
          ∙ since_off-on (outputs (inner_moment spec key) calls) (record {
            at = at;
            is_on = is_on spec (calls ++ call ∷ []) key;
            holds = is_told_timed (last_known spec (calls ++ call ∷ []) key);
          }) end on
