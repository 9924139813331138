-- The active keys: as a walk over the inner keys finds them, and as the calls tell of them.
use Rattle.std.proofs.Common.{◌≡◌, ℕ, ◌+◌, ◌≤◌, Bool, true, false, nat_lt, if◌then◌else◌, List, [], ◌∷◌, ◌++◌, map, length, Option, Some, None, refl, ap, ◌∙◌, arith, append-nil}
use Rattle.std.specs.List.{flat_map, last_or, IsDistinct}
use Rattle.std.specs.Option.{unwrap_or}
use Rattle.std.proofs.lemmas.List.{length-append}
use Rattle.sd_base.specs.Outputs.{outputs}
use Rattle.sd_base.proofs.OutputsLemmas.{outputs-push}
use Rattle.atom_record.specs.declared.value.MetricKey.{MetricKey}
use Rattle.bucket_meaning.specs.Guard.{is_among, with_key, firsts}
use Rattle.bucket_meaning.proofs.GuardLemmas.{firsts-distinct}
use Rattle.config_types.specs.declared.parameters.PredSpec.{PredSpec}
use Rattle.predicate_state.specs.declared.truth.Truth.{Truth}
use Rattle.predicate_state.specs.declared.truth.Truth.TheVariants.{False, Unknown, True}
use Rattle.predicate_state.specs.PredicateStates.{PredicateState}
use Rattle.predicate_state.specs.PredicateTable.{LeafKey}
use Rattle.metric_producer.specs.Calls.{Learned}
use Rattle.metric_kinds.specs.Keys.{is_same_key}
use Rattle.duration_metric.specs.declared.change.InnerDelta.{InnerDelta}
use Rattle.duration_metric.specs.declared.inner.Known.{Known}
use Rattle.duration_metric.specs.declared.inner.Inner.{Inner}
use Rattle.duration_metric.specs.declared.inner.InnerTable.{InnerTable}
use Rattle.duration_metric.specs.InnerKeys.{DurationCall, last_known}
use Rattle.duration_metric.specs.InnerStands.{row_count, AreKnown, InnersStandFor}
use Rattle.duration_metric.specs.SumCalls.{while_true, known_out, counted_out, active_after, active_told, active_since}
use Rattle.duration_metric.specs.Tallies.{out_for, row_out}
use Rattle.duration_metric.specs.SumSteps.{active_in}
use Rattle.duration_metric.proofs.KnownLemmas.{last_or-append}

-- the output keys of rows are those of what is known of their keys
outs_are : (known : LeafKey → Option Known) (rows : List (LeafKey × Inner)) → AreKnown known rows
    → flat_map row_out rows ≡ flat_map (counted_out known) (map row_count rows)
outs_are known [] all = refl
outs_are known (row ∷ rows) all =
    ap (λ (o : Option Known). out_for row.1.count o ++ flat_map row_out rows) all.0
    ∙ ap (λ l. counted_out known (row_count row) ++ l) (outs_are known rows all.1)

-- the active keys in a table that stands for calls are those after the calls
pub active_is : (it : InnerTable) (spec : PredSpec) (calls : List DurationCall) → InnersStandFor it spec calls
    → active_in it.keys.rows ≡ active_after spec calls
active_is it spec calls stands =
    ap (firsts is_same_key []) (outs_are (last_known spec calls) it.keys.rows stands.known_are
    ∙ ap (λ (s : PredicateState LeafKey). flat_map (counted_out (last_known spec calls)) s.counts) stands.state_is)

-- the first keys of two lists
pub firsts-append : (seen keys more : List MetricKey)
    → firsts is_same_key seen (keys ++ more) ≡ firsts is_same_key (firsts is_same_key seen keys) more
firsts-append seen [] more = refl
firsts-append seen (key ∷ keys) more = firsts-append (with_key is_same_key seen key) keys more

-- the first keys of the first keys are all of them
pub firsts_stable : (seen keys : List MetricKey) → firsts is_same_key [] seen ≡ seen
    → firsts is_same_key [] (firsts is_same_key seen keys) ≡ firsts is_same_key seen keys
firsts_stable seen [] stable = stable
firsts_stable seen (key ∷ keys) stable =
    firsts_stable (with_key is_same_key seen key) keys (by (is_among is_same_key key seen) refl) where
      by : (b : Bool) → is_among is_same_key key seen ≡ b
          → firsts is_same_key [] (if b then seen else seen ++ key ∷ []) ≡ (if b then seen else seen ++ key ∷ [])
      by true is = stable
      by false is =
          firsts-append [] seen (key ∷ [])
          ∙ ap (λ l. with_key is_same_key l key) stable
          ∙ ap (λ b. if b then seen else seen ++ key ∷ []) is

few_with : (seen : List MetricKey) (key : MetricKey) (known : Bool)
    → length (if known then seen else seen ++ key ∷ []) ≤ length seen + 1
few_with seen key true = omega arith
few_with seen key false = omega (arith, length-append seen (key ∷ []))

few_firsts : (seen keys : List MetricKey) → length (firsts is_same_key seen keys) ≤ length seen + length keys
few_firsts seen [] = omega arith
few_firsts seen (key ∷ keys) =
    let more = few_with seen key (is_among is_same_key key seen) in
    omega (arith, more, few_firsts (with_key is_same_key seen key) keys)

one_while : (truth : Truth) (out : MetricKey) → length (while_true truth out) ≤ 1
one_while True out = omega arith
one_while Unknown out = omega arith
one_while False out = omega arith

one_known : (known : Option Known) → length (known_out known) ≤ 1
one_known None = omega arith
one_known (Some known) = one_while known.truth known.out

one_out : (on : Bool) (known : Option Known) → length (if on then known_out known else []) ≤ 1
one_out true known = one_known known
one_out false known = omega arith

few_outs : (rows : List (LeafKey × Inner)) → length (flat_map row_out rows) ≤ length rows
few_outs [] = omega arith
few_outs (row ∷ rows) =
    let one = one_out (nat_lt 0 row.1.count) row.1.known in
    omega (arith, one, few_outs rows, length-append (row_out row) (flat_map row_out rows))

-- there are no more active keys than inner keys
pub few_active : (rows : List (LeafKey × Inner)) → length (active_in rows) ≤ length rows
few_active rows = omega (arith, few_firsts [] (flat_map row_out rows), few_outs rows)

-- and each of them is there once
pub active_once : (rows : List (LeafKey × Inner)) → IsDistinct is_same_key (active_in rows)
unfolding IsDistinct
active_once rows = firsts-distinct is_same_key [] (flat_map row_out rows) tt

-- a condition tells the active keys
pub since-learned : (spec : PredSpec) (calls : List DurationCall) (at : ℕ) (delta : InnerDelta)
    → active_since spec (calls ++ Learned at delta ∷ []) ≡ active_after spec (calls ++ Learned at delta ∷ [])
since-learned spec calls at delta =
    ap (λ (l : List (List MetricKey)). unwrap_or (last_or None l) [])
    (outputs-push (active_told spec) calls (Learned at delta))
    ∙ ap (λ (o : Option (List MetricKey)). unwrap_or o [])
    (last_or-append None (outputs (active_told spec) calls) (active_told spec calls (Learned at delta)))

-- another call leaves them
pub since-other : (spec : PredSpec) (calls : List DurationCall) (call : DurationCall)
    → active_told spec calls call ≡ [] → active_since spec (calls ++ call ∷ []) ≡ active_since spec calls
since-other spec calls call none =
    ap (λ (l : List (List MetricKey)). unwrap_or (last_or None l) [])
    (outputs-push (active_told spec) calls call
    ∙ ap (λ l. outputs (active_told spec) calls ++ l) none
    ∙ append-nil (outputs (active_told spec) calls))
