-- What a metric has by its kind is sound where none of its reasons holds.
use Rattle.std.proofs.Common.{◌≡◌, ℕ, ◌<◌, ◌≤◌, ◌*◌, ◌⊎◌, inl, inr, Bool, true, false, not, ◌&&◌, ◌||◌, ◌==◌, nat_lt, List, [], ◌∷◌, map, length, Option, Some, None, is_some, slice_get, if◌then◌else◌, All, refl, sym, ap, ◌∙◌, subst, arith}
use Rattle.std.specs.Prelude.{ℤ, pos, negsuc}
use Rattle.std.specs.Ordering.{int_eq}
use Rattle.std.specs.Option.{option_map, unwrap_or}
use Rattle.std.specs.List.{AllByRecursion, list_all, find}
use Rattle.std.proofs.lemmas.Bool.{ltb-false}
use Rattle.std.proofs.lemmas.List.Elements.{All-from_recursion}
use Rattle.config_types.specs.declared.bucket.TimeUnit.{TimeUnit}
use Rattle.config_types.specs.declared.bucket.TimeUnit.TheVariants.{OneMinute, FiveMinutes, TenMinutes, ThirtyMinutes, OneHour, ThreeHours, SixHours, TwelveHours, OneDay, Cts}
use Rattle.config_types.specs.Buckets.{nanos_of, second_nanos, root_uid, shell_uid}
use Rattle.config_types.specs.declared.parameters.PredSpec.{PredSpec}
use Rattle.config_types.specs.declared.metric.SamplingType.{SamplingType}
use Rattle.config_types.specs.declared.metric.SamplingType.TheVariants.{RandomOne, ChangeToTrue, FirstN}
use Rattle.field_select.specs.declared.leaf.FieldSet.{FieldSet}
use Rattle.field_select.specs.declared.leaf.LeafPath.{LeafPath}
use Rattle.field_select.specs.FieldSets.{IsLeaf, is_all}
use Rattle.link_rules.specs.declared.fault.LinkFault.{LinkFault}
use Rattle.link_rules.specs.declared.limits.Limit.TheVariants.{Samples, BucketSamples}
use Rattle.link_rules.specs.EntityLimits.{most_samples, most_bucket_samples, count_limit, number_limit, number_or, default_samples, samples_by}
use Rattle.link_rules.specs.EntityIds.{place_in}
use Rattle.config_links.specs.declared.linked.LPredicate.{LPredicate}
use Rattle.config_links.specs.declared.linked.LSlice.{LSlice}
use Rattle.config_links.specs.declared.linked.LLink.{LLink}
use Rattle.config_links.specs.declared.scope.Scope.{Scope}
use Rattle.config_links.specs.declared.sets.StateLinkSets.{StateLinkSets}
use Rattle.config_links.specs.LinkScopes.{predicate_named, spec_in, dims_in, is_pulled_matcher, names_pulled, state_atom}
use Rattle.config_links.specs.MetricLinks.{is_within}
use Rattle.config_links.specs.MetricSlices.{are_within, slice_fields, linked_slice, is_atom}
use Rattle.config_links.specs.MetricKinds.{is_value_set, first_leaf, may_sample, no_spec, timed_spec, sampling_mode}
use Rattle.config_links.specs.declared.linked.Linked.{Linked}
use Rattle.config_links.specs.declared.linked.LMetric.{LMetric}
use Rattle.config_links.specs.SoundConfig.{IsFromOne, IsSize, IsSoundSet, IsValueField, IsFilter, HasMode, AreFieldsOf, MayBeFieldsOf, IsSoundDuration}
use Rattle.config_links.proofs.SoundParts.{left_holds, right_holds, number_from_one}
use Rattle.config_links.proofs.SoundNames.{Known, led_to, place_below, all_pass, not_zero, nothing_found}

-- the length of a minute's bucket, for whatever client
minute_fits : (short : Bool) → IsSize (second_nanos * (if short then 60 else 300))
minute_fits true = (omega arith, omega arith)
minute_fits false = (omega arith, omega arith)

-- each length of a bucket is from one nanosecond to a day
pub size_fits : (bucket : Option TimeUnit) (uid : ℤ) → IsSize (nanos_of bucket uid)
size_fits None uid = (omega arith, omega arith)
size_fits (Some OneMinute) uid = minute_fits (int_eq uid root_uid || int_eq uid shell_uid)
size_fits (Some FiveMinutes) uid = (omega arith, omega arith)
size_fits (Some TenMinutes) uid = (omega arith, omega arith)
size_fits (Some ThirtyMinutes) uid = (omega arith, omega arith)
size_fits (Some OneHour) uid = (omega arith, omega arith)
size_fits (Some ThreeHours) uid = (omega arith, omega arith)
size_fits (Some SixHours) uid = (omega arith, omega arith)
size_fits (Some TwelveHours) uid = (omega arith, omega arith)
size_fits (Some OneDay) uid = (omega arith, omega arith)
size_fits (Some Cts) uid = (omega arith, omega arith)

not_all : (all : Bool) → not all ≡ true → all ≡ false
not_all true h = absurd (cc)
not_all false h = refl

-- one leaf, which picks one entry
value_leaf : (leaves : List LeafPath) → All IsLeaf leaves → is_value_set leaves ≡ true
    → IsLeaf (first_leaf leaves) × (is_all (first_leaf leaves).position ≡ false)
value_leaf [] each is = absurd (cc)
value_leaf (leaf ∷ []) each is = (each 0 leaf (omega arith), not_all (is_all leaf.position) is)
value_leaf (leaf ∷ other ∷ leaves) each is = absurd (cc)

some_leaf : (leaves : List LeafPath) → is_value_set leaves ≡ true → 1 ≤ length leaves
some_leaf [] is = absurd (cc)
some_leaf (leaf ∷ leaves) is = omega arith

-- a field of an atom, whose leaf picks one entry
pub value_field : (set : FieldSet) → IsSoundSet set → is_value_set set.leaves ≡ true
    → IsValueField set.atom_id (first_leaf set.leaves)
value_field set sound is =
    let leaf = value_leaf set.leaves sound.fields.each is in
    (sound.atom (some_leaf set.leaves is), leaf.0, leaf.1)

filter_by : (all : Bool) (set : FieldSet) → IsSoundSet set → (all || not (length set.leaves == 0)) ≡ true
    → IsFilter (if all then None else Some set)
filter_by true set is some = tt
filter_by false set is some = (is, not_zero (length set.leaves) some)

-- all entries, or some that are named
pub filter_sound : (all : Bool) (set : FieldSet) → IsSoundSet set → (all || not (length set.leaves == 0)) ≡ true
    → IsFilter (if all then None else Some set)
filter_sound all set is some = filter_by all set is some

limit_step : (within : Bool) (found : LinkFault) → (if within then None else Some found) ≡ None → within ≡ true
limit_step true found h = refl
limit_step false found h = absurd (cc)

number_fits : (samples : Option ℤ) → number_limit Samples samples ≡ None
    → IsFromOne 100 (number_or default_samples samples)
number_fits None h = (omega arith, omega arith)
number_fits (Some (pos n)) h = number_from_one most_samples (Some (pos n)) (limit_step _ _ h)
number_fits (Some (negsuc n)) h = absurd (cc)

pub samples_fit : (sampling : SamplingType) (samples : Option ℤ) → number_limit Samples samples ≡ None
    → IsFromOne 100 (samples_by sampling samples)
samples_fit RandomOne samples h = (omega arith, omega arith)
samples_fit ChangeToTrue samples h = number_fits samples h
samples_fit FirstN samples h = number_fits samples h

within_by : (most count : ℕ) (past : Bool) (found : LinkFault) → nat_lt most count ≡ past
    → (if past then Some found else None) ≡ None → count ≤ most
within_by most count false found is h = ltb-false most count is
within_by most count true found is h = absurd (cc)

-- all samples of a bucket
pub product_fits : (count : ℕ) → count_limit BucketSamples count ≡ None → count ≤ 16384
product_fits count h = within_by most_bucket_samples count (nat_lt most_bucket_samples count) _ refl h

module _ {A : Type 0} where
  -- a pulled gauge takes its samples at a trigger exactly if it has one
  pub mode_fits : (sampling : SamplingType) (trigger : Option A) → (place : A → ℕ)
      → (sampling ≡ FirstN) ⊎ (trigger ≡ None)
      → HasMode (sampling_mode sampling (option_map place trigger)) (option_map place trigger)
  mode_fits FirstN None place h = refl
  mode_fits FirstN (Some t) place h = λ e. absurd (cc)
  mode_fits RandomOne None place h = refl
  mode_fits RandomOne (Some t) place h = elim h [ inl e ↦ absurd (cc) | inr e ↦ absurd (cc) ]
  mode_fits ChangeToTrue None place h = refl
  mode_fits ChangeToTrue (Some t) place h = elim h [ inl e ↦ absurd (cc) | inr e ↦ absurd (cc) ]

-- what a pulled gauge may be
pub may_sample_parts : (sampling : SamplingType) (trigger : Option ℤ) → may_sample true sampling trigger ≡ true
    → (sampling ≡ FirstN) ⊎ (trigger ≡ None)
may_sample_parts FirstN trigger h = inl refl
may_sample_parts RandomOne trigger h = inr (nothing_found trigger h)
may_sample_parts ChangeToTrue trigger h = inr (nothing_found trigger h)

-- of two of which one holds and the other doesn't
pub first_or : (one other : Bool) → (one || other) ≡ true → other ≡ false → one ≡ true
first_or true other h k = refl
first_or false other h k = absurd (cc)

-- of two of which one holds and both don't
pub second_fails : (one other : Bool) → (one && not other) ≡ false → one ≡ true → other ≡ true
second_fails true true h k = refl
second_fails true false h k = absurd (cc)
second_fails false other h k = absurd (cc)

module _ (scope : Scope) (what : ℤ) where
  -- whether what a metric counts is pulled is read at its place
  pub pulled_at : Known scope.ids.matchers what
      → is_pulled_matcher (slice_get scope.matchers (place_in scope.ids.matchers what)) ≡ names_pulled scope what
  pulled_at known = ap is_pulled_matcher (sym (led_to scope.matchers scope.ids.matchers what known))

  -- the fields of slices are those of state links
  fields_step : (predicate : Option LPredicate) (is : Bool) (sets : StateLinkSets) (found : Option StateLinkSets)
      → AreFieldsOf predicate sets.in_what
      → MayBeFieldsOf predicate (option_map (λ (sets : StateLinkSets). sets.in_what) found)
      → MayBeFieldsOf predicate (option_map (λ (sets : StateLinkSets). sets.in_what) (if is then Some sets else found))
  fields_step predicate true sets found has others = has
  fields_step predicate false sets found has others = others

  fields_of : (predicate : Option LPredicate) (links : List StateLinkSets) (atom : ℕ)
      → AllByRecursion (λ (sets : StateLinkSets). AreFieldsOf predicate sets.in_what) links
      → MayBeFieldsOf predicate (slice_fields links atom)
  fields_of predicate [] atom all = tt
  fields_of predicate (sets ∷ links) atom all =
      fields_step predicate (is_atom atom sets.atom_id) sets
      (find (λ (sets : StateLinkSets). is_atom atom sets.atom_id) links) all.0 (fields_of predicate links atom all.1)

  slices_within : (predicate : Option LPredicate) (links : List StateLinkSets) (ids : List ℤ)
      → AllByRecursion (λ (sets : StateLinkSets). AreFieldsOf predicate sets.in_what) links
      → AllByRecursion (λ (slice : LSlice). MayBeFieldsOf predicate slice.in_what)
      (map (linked_slice scope links) ids)
  slices_within predicate links [] all = tt
  slices_within predicate links (id ∷ ids) all =
      (fields_of predicate links (state_atom scope id) all, slices_within predicate links ids all)

  some_spec : (found : Option PredSpec) → is_some found ≡ true → (spec : PredSpec) × (found ≡ Some spec)
  some_spec None h = absurd (cc)
  some_spec (Some spec) h = (spec, refl)

  -- what a duration times, and its fields
  pub duration_sound : (linked : Linked) (metric : LMetric) (bound : ℕ) (links : List StateLinkSets) (ids : List ℤ)
      → Known scope.ids.predicates what → length scope.ids.predicates ≤ length linked.predicates
      → linked.predicates ≡ scope.predicates → metric.what ≡ place_in scope.ids.predicates what
      → metric.bound ≡ bound → metric.slices ≡ map (linked_slice scope links) ids
      → is_some (spec_in (predicate_named scope what)) ≡ true
      → are_within (dims_in (predicate_named scope what))
      (record { what = what; dims = metric.dims; links = metric.links; state_links = links }) ≡ true
      → IsSoundDuration linked metric (timed_spec scope what bound)
  duration_sound linked metric bound links ids known many same_predicates same_what same_bound same_slices simple
      within =
      let timed = some_spec (spec_in (predicate_named scope what)) simple in
      let below : place_in scope.ids.predicates what < length scope.ids.predicates = place_below (int_eq what)
      scope.ids.predicates known in
      let at : predicate_named scope what ≡ slice_get linked.predicates metric.what =
      led_to scope.predicates scope.ids.predicates what known
      ∙ ap (λ (predicates : List LPredicate). slice_get predicates (place_in scope.ids.predicates what))
      (sym same_predicates)
      ∙ ap (slice_get linked.predicates) (sym same_what) in
      let dims = dims_in (predicate_named scope what) in
      let here = left_holds (is_within dims metric.dims) _ within in
      let others = right_holds (is_within dims metric.dims) _ within in
      let of_links = left_holds (list_all (λ (link : LLink). is_within dims link.in_what) metric.links) _ others in
      let of_states = right_holds (list_all (λ (link : LLink). is_within dims link.in_what) metric.links) _ others in
      let slices : All (λ (slice : LSlice). MayBeFieldsOf (predicate_named scope what) slice.in_what)
      (map (linked_slice scope links) ids) =
      All-from_recursion (λ (slice : LSlice). MayBeFieldsOf (predicate_named scope what) slice.in_what)
      (map (linked_slice scope links) ids)
      (slices_within (predicate_named scope what) links ids
      (all_pass (λ (sets : StateLinkSets). is_within dims sets.in_what) links of_states)) in
      record {
        within = omega (arith, below, many, same_what);
        timed = timed.0;
        is = ap spec_in (sym at) ∙ timed.1;
        kept = ap (λ (found : Option PredSpec). record (unwrap_or found no_spec) { bound = bound }) timed.1
            ∙ ap (λ (b : ℕ). record timed.0 { bound = b }) (sym same_bound);
        dims = subst (λ (found : Option LPredicate). AreFieldsOf found metric.dims) at here;
        links = subst (λ (found : Option LPredicate). All (λ (link : LLink). AreFieldsOf found link.in_what)
            metric.links) at
            (All-from_recursion (λ (link : LLink). is_within dims link.in_what ≡ true) metric.links
            (all_pass (λ (link : LLink). is_within dims link.in_what) metric.links of_links));
        slices = subst (λ (found : Option LPredicate). All (λ (slice : LSlice). MayBeFieldsOf found slice.in_what)
            metric.slices) at
            (subst (λ (made : List LSlice). All (λ (slice : LSlice). MayBeFieldsOf (predicate_named scope what)
            slice.in_what) made) (sym same_slices) slices);
      }
