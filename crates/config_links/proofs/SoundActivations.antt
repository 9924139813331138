-- The activations of a metric are sound where their names are known, their numbers within their limits, and none of
-- their reasons holds.
use Rattle.std.proofs.Common.{◌≡◌, ℕ, ◌<◌, ◌≤◌, ◌*◌, Bool, true, false, not, ◌&&◌, ◌||◌, ◌==◌, List, [], ◌∷◌, map, length, Option, Some, None, is_none, All, refl, ap, arith}
use Rattle.std.specs.Prelude.{ℤ, pos, negsuc}
use Rattle.std.specs.Ordering.{int_eq}
use Rattle.std.specs.Option.{unwrap_or}
use Rattle.std.specs.List.{AllByRecursion, list_any, flat_map}
use Rattle.std.proofs.lemmas.List.{length-map}
use Rattle.std.proofs.lemmas.List.Elements.{All-from_recursion}
use Rattle.config_types.specs.declared.metric.ActivationDef.{ActivationDef}
use Rattle.config_types.specs.Buckets.{second_nanos}
use Rattle.field_select.specs.WellFormed.{number_or_zero}
use Rattle.link_rules.specs.declared.entities.Kind.{Kind}
use Rattle.link_rules.specs.declared.entities.Kind.TheVariants.{Event, Count, Value, Gauge, Duration}
use Rattle.link_rules.specs.declared.entities.GaugeParts.{GaugeParts}
use Rattle.link_rules.specs.declared.entities.ValueParts.{ValueParts}
use Rattle.link_rules.specs.declared.limits.Limit.TheVariants.{Activations, Lifetime}
use Rattle.link_rules.specs.EntityIds.{place_in}
use Rattle.link_rules.specs.EntityLimits.{most_lifetime, most_activations, number_limit, count_limit, lifetime_limit, activations_limit}
use Rattle.link_rules.specs.EntityNames.{matchers_of_activation}
use Rattle.link_rules.proofs.LimitLemmas.{count_fits}
use Rattle.link_rules.proofs.LinkFaultLemmas.{none_of, none_in}
use Rattle.field_select.specs.declared.leaf.FieldSet.{FieldSet}
use Rattle.config_links.specs.declared.linked.LActivation.{LActivation}
use Rattle.config_links.specs.declared.scope.Scope.{Scope}
use Rattle.config_links.specs.LinkReasons.{set_or_none}
use Rattle.config_links.specs.LinkScopes.{names_pulled}
use Rattle.config_links.specs.MetricSlices.{is_pulled_kind}
use Rattle.config_links.specs.MetricKinds.{linked_kind, value_form, gauge_form, duration_form, timed_spec}
use Rattle.config_links.specs.MetricActivations.{is_half, linked_activation, linked_activations}
use Rattle.config_links.specs.SoundConfig.{IsLifetime, IsSoundActivation, MayBeActive}
use Rattle.config_links.proofs.SoundParts.{limit_step, number_from_one}
use Rattle.config_links.proofs.SoundNames.{MayBeKnown, may_known, may_be_within, place_below, is_zero}
use Rattle.config_links.proofs.SoundKinds.{second_fails}

-- of two tests of which neither holds
pub first_of_neither : (one other : Bool) → (one || other) ≡ false → one ≡ false
first_of_neither true other h = absurd (cc)
first_of_neither false other h = refl

pub second_of_neither : (one other : Bool) → (one || other) ≡ false → other ≡ false
second_of_neither true other h = absurd (cc)
second_of_neither false other h = h

-- a test that none passes
pub none_passes : {A : Type 0} (test : A → Bool) (xs : List A) → list_any test xs ≡ false
    → AllByRecursion (λ x. test x ≡ false) xs
none_passes test [] h = tt
none_passes test (x ∷ xs) h = (
  first_of_neither (test x) (list_any test xs) h,
  none_passes test xs (second_of_neither (test x) (list_any test xs) h),
)

-- the time of an activation that names one
lifetime_fits : (ttl : Option ℤ) → is_none ttl ≡ false → number_limit Lifetime ttl ≡ None
    → IsLifetime (number_or_zero ttl * second_nanos)
lifetime_fits None has h = absurd (cc)
lifetime_fits (Some (negsuc n)) has h = absurd (cc)
lifetime_fits (Some (pos n)) has h =
    let fits = number_from_one most_lifetime (Some (pos n)) (limit_step _ _ h) in
    let least : 1 ≤ n = fits.0 in
    let most : n ≤ 1000000 = fits.1 in
    (omega (arith, least), omega (arith, most))

module _ (known : List ℤ) (count : ℕ) (few : length known ≤ count) where
  activation_sound : (def : ActivationDef) → MayBeKnown known def.start → MayBeKnown known def.cancel
      → is_half def ≡ false → lifetime_limit def ≡ None → IsSoundActivation count (linked_activation known def)
  activation_sound def starts cancels whole lasts =
      let has_start = first_of_neither (is_none def.start) (is_none def.ttl) whole in
      let has_ttl = second_of_neither (is_none def.start) (is_none def.ttl) whole in
      let start = unwrap_or def.start (pos 0) in
      let below : place_in known start < length known =
      place_below (int_eq start) known (may_known known def.start starts has_start) in
      record {
        starts = omega (arith, below, few);
        cancels = may_be_within known count few def.cancel cancels;
        lasts = lifetime_fits def.ttl has_ttl lasts;
      }

  each_sound : (defs : List ActivationDef)
      → AllByRecursion (MayBeKnown known) (flat_map matchers_of_activation defs)
      → AllByRecursion (λ def. is_half def ≡ false) defs
      → AllByRecursion (λ def. lifetime_limit def ≡ None) defs
      → AllByRecursion (IsSoundActivation count) (map (linked_activation known) defs)
  each_sound [] names whole last = tt
  each_sound (def ∷ defs) names whole last =
      (activation_sound def names.0 names.1.0 whole.0 last.0, each_sound defs names.1.1 whole.1 last.1)

  all_sound : (defs : List ActivationDef)
      → AllByRecursion (MayBeKnown known) (flat_map matchers_of_activation defs)
      → list_any is_half defs ≡ false → activations_limit defs ≡ None
      → All (IsSoundActivation count) (map (linked_activation known) defs)
  all_sound defs names whole within =
      let limits = none_of (count_limit Activations (length defs) ∷ _ ∷ []) within in
      All-from_recursion (IsSoundActivation count) (map (linked_activation known) defs)
      (each_sound defs names (none_passes is_half defs whole) (none_in lifetime_limit defs limits.1.0))

  -- activations whose names are known, whose times are within the limit, and none of which lacks a part
  pub activations_sound : (kind : Kind) (defs : List ActivationDef)
      → AllByRecursion (MayBeKnown known) (flat_map matchers_of_activation defs)
      → list_any is_half defs ≡ false → activations_limit defs ≡ None
      → All (IsSoundActivation count) (linked_activations known kind defs)
  unfolding linked_activations
  activations_sound Event defs names whole within = all_sound defs names whole within
  activations_sound (Count overflow) defs names whole within = all_sound defs names whole within
  activations_sound (Value value) defs names whole within = all_sound defs names whole within
  activations_sound (Gauge gauge) defs names whole within = all_sound defs names whole within
  activations_sound (Duration max_sparse) defs names whole within = λ i d within. absurd (omega arith)

module _ (known : List ℤ) (defs : List ActivationDef) where
  few_made : activations_limit defs ≡ None → length (map (linked_activation known) defs) ≤ most_activations
  few_made within =
      let limits = none_of (count_limit Activations (length defs) ∷ _ ∷ []) within in
      let few : length defs ≤ most_activations = count_fits Activations (length defs) limits.0 in
      omega (arith, few, length-map defs (linked_activation known))

  -- there are no more than may be
  pub few_activations : (kind : Kind) → activations_limit defs ≡ None
      → length (linked_activations known kind defs) ≤ most_activations
  unfolding linked_activations
  few_activations Event within = few_made within
  few_activations (Count overflow) within = few_made within
  few_activations (Value value) within = few_made within
  few_activations (Gauge gauge) within = few_made within
  few_activations (Duration max_sparse) within = omega arith

  none_linked : (pulled : Bool) → (pulled && not (length defs == 0)) ≡ false → pulled ≡ true
      → map (linked_activation known) defs ≡ []
  none_linked pulled test is =
      ap (map (linked_activation known)) (is_zero defs (second_fails pulled (length defs == 0) test is))

  value_active : (pulled : Bool) (value : ValueParts) (set : FieldSet) → (made : List LActivation)
      → (pulled ≡ true → made ≡ []) → MayBeActive (value_form pulled value set) made
  value_active true value set made none = none refl
  value_active false value set made none = tt

  gauge_active : (scope : Scope) (pulled : Bool) (gauge : GaugeParts) (set : FieldSet) (made : List LActivation)
      → (pulled ≡ true → made ≡ []) → MayBeActive (gauge_form scope pulled gauge set) made
  gauge_active scope true gauge set made none = none refl
  gauge_active scope false gauge set made none = tt

  duration_active : (max_sparse : Bool) (spec : _) → MayBeActive (duration_form max_sparse spec) []
  duration_active true spec = refl
  duration_active false spec = refl

  -- what is pulled has no activations, and neither has a duration
  pub may_be_active : (scope : Scope) (kind : Kind) (what : ℤ) (bound : ℕ)
      → (is_pulled_kind scope kind what && not (length defs == 0)) ≡ false
      → MayBeActive (linked_kind scope what bound kind) (linked_activations known kind defs)
  unfolding linked_kind linked_activations
  may_be_active scope Event what bound test = tt
  may_be_active scope (Count overflow) what bound test = tt
  may_be_active scope (Value value) what bound test =
      value_active (names_pulled scope what) value (set_or_none value.field) (map (linked_activation known) defs)
      (none_linked (names_pulled scope what) test)
  may_be_active scope (Gauge gauge) what bound test =
      gauge_active scope (names_pulled scope what) gauge (set_or_none gauge.fields)
      (map (linked_activation known) defs) (none_linked (names_pulled scope what) test)
  may_be_active scope (Duration max_sparse) what bound test =
      duration_active max_sparse (timed_spec scope what bound)
