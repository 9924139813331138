-- What a kind of metric can't be, and its linked form.
use Rattle.std.specs.Prelude.{ℕ, ℤ, ◌==◌, Bool, true, false, not, ◌&&◌, ◌||◌, ◌≤◌, List, [], ◌∷◌, length, Option, Some, None, is_none, if◌then◌else◌}
use Rattle.std.specs.Option.{option_map, unwrap_or}
use Rattle.config_types.specs.declared.metric.SamplingType.{SamplingType}
use Rattle.config_types.specs.declared.metric.SamplingType.TheVariants.{RandomOne, ChangeToTrue, FirstN}
use Rattle.config_types.specs.declared.parameters.PredSpec.{PredSpec}
use Rattle.config_types.specs.declared.parameters.Sampling.{Sampling}
use Rattle.config_types.specs.declared.parameters.Sampling.TheVariants.{AtStart, AtChange, AtTrigger}
use Rattle.field_select.specs.declared.leaf.FieldSet.{FieldSet}
use Rattle.field_select.specs.declared.leaf.LeafPath.{LeafPath}
use Rattle.field_select.specs.FieldSets.{is_all}
use Rattle.config_types.specs.declared.metric.Common.{Common}
use Rattle.link_rules.specs.declared.entities.Kind.{Kind}
use Rattle.link_rules.specs.declared.entities.Kind.TheVariants.{Event, Count, Value, Gauge, Duration}
use Rattle.link_rules.specs.declared.entities.GaugeParts.{GaugeParts}
use Rattle.link_rules.specs.declared.entities.ValueParts.{ValueParts}
use Rattle.link_rules.specs.declared.fault.LinkFault.{LinkFault}
use Rattle.link_rules.specs.EntityIds.{place_in}
use Rattle.link_rules.specs.EntityLimits.{samples_of}
use Rattle.config_links.specs.declared.linked.LKind.{LKind}
use Rattle.config_links.specs.declared.linked.LKind.TheVariants as kinds
use Rattle.config_links.specs.declared.scope.Scope.{Scope}
use Rattle.config_links.specs.declared.reasons.Reason.{Reason}
use Rattle.config_links.specs.declared.reasons.Reason.TheVariants.{NoValue, BadDiff, PulledLinks, NoFilter, BadSampling}
use Rattle.config_links.specs.LinkReasons.{least_reason, set_or_none, no_leaf}
use Rattle.config_links.specs.LinkScopes.{predicate_named, spec_in, names_pulled}

-- one leaf, which picks one entry
abbrev pub is_value_set : List LeafPath → Bool
is_value_set (leaf ∷ []) = not (is_all leaf.position)
is_value_set _ = false

-- a value metric names the field of its values, with one leaf, which picks one entry
abbrev pub has_value : Kind → Bool
has_value (Value value) = is_value_set (set_or_none value.field).leaves
has_value _ = true

-- whether differences are counted may be said as it is: of pulled values they are, of others not
abbrev pub may_diff : Bool → Option Bool → Bool
may_diff pulled None = true
may_diff true (Some diff) = diff
may_diff false (Some diff) = not diff

-- a value metric doesn't say the contrary of what it does
abbrev pub fits_diff : Bool → Kind → Bool
fits_diff pulled (Value value) = may_diff pulled value.diff
fits_diff pulled _ = true

-- a gauge has all entries of its atoms, or some
abbrev pub has_filter : Kind → Bool
has_filter (Gauge gauge) = gauge.include_all || not (length (set_or_none gauge.fields).leaves == 0)
has_filter _ = true

-- a trigger stands only with the first samples, and on a gauge that isn't pulled neither it nor samples at a change
abbrev pub may_sample : Bool → SamplingType → Option ℤ → Bool
may_sample true FirstN trigger = true
may_sample true _ trigger = is_none trigger
may_sample false ChangeToTrue trigger = false
may_sample false _ trigger = is_none trigger

-- a gauge takes its samples as it may
abbrev pub fits_samples : Bool → Kind → Bool
fits_samples pulled (Gauge gauge) = may_sample pulled gauge.sampling gauge.trigger
fits_samples pulled _ = true

-- what a kind of metric can't be
abbrev pub kind_reasons : Bool → ℕ → Kind → List (Reason × Bool)
kind_reasons pulled links kind =
    (NoValue, not (has_value kind))
    ∷ (BadDiff, not (fits_diff pulled kind))
    ∷ (PulledLinks, pulled && not (links == 0))
    ∷ (NoFilter, not (has_filter kind))
    ∷ (BadSampling, not (fits_samples pulled kind))
    ∷ []

-- the fault of a kind of metric, which acts on what was pulled or not
unfoldable pub bad_kind : Common → Bool → Kind → Option LinkFault
bad_kind common pulled kind = least_reason common.id (kind_reasons pulled (length common.links) kind)

-- the leaf of a value
abbrev pub first_leaf : List LeafPath → LeafPath
first_leaf (leaf ∷ _) = leaf
first_leaf [] = no_leaf

-- how no table is kept
abbrev pub no_spec : PredSpec
no_spec = record { nesting = false; unknown = false; bound = 0; leaves = 0 }

-- how the table of what a duration times is kept, with the duration's own bound
abbrev pub timed_spec : Scope → ℤ → ℕ → PredSpec
timed_spec scope what bound = record (unwrap_or (spec_in (predicate_named scope what)) no_spec) { bound = bound }

-- the values of a field, as they are or as differences
abbrev pub value_form : Bool → ValueParts → FieldSet → LKind
value_form true value set = kinds.PulledValue set.atom_id (first_leaf set.leaves) (record {
  agg = value.agg;
  direction = value.direction;
  abs_reset = value.abs_reset;
  skip_zero = value.skip_zero;
  zero_base = value.zero_base;
})
value_form false value set = kinds.PushedValue set.atom_id (first_leaf set.leaves) value.agg

-- when a pulled gauge takes its samples
abbrev pub sampling_mode : SamplingType → Option ℕ → Sampling
sampling_mode ChangeToTrue trigger = AtChange
sampling_mode FirstN (Some trigger) = AtTrigger
sampling_mode FirstN None = AtStart
sampling_mode RandomOne trigger = AtStart

-- the entries that a sample has, or none for all
abbrev pub sampled_fields : GaugeParts → FieldSet → Option FieldSet
sampled_fields gauge set = if gauge.include_all then None else Some set

-- the place of a gauge's trigger
abbrev pub trigger_place : Scope → GaugeParts → Option ℕ
trigger_place scope gauge = option_map (place_in scope.ids.matchers) gauge.trigger

-- samples of atoms, or of what was pulled
abbrev pub gauge_form : Scope → Bool → GaugeParts → FieldSet → LKind
gauge_form scope true gauge set = kinds.PulledGauge
    (sampled_fields gauge set)
    (samples_of gauge)
    (sampling_mode gauge.sampling (trigger_place scope gauge))
    (trigger_place scope gauge)
gauge_form scope false gauge set = kinds.PushedGauge (sampled_fields gauge set) (samples_of gauge)

-- the sum of times, or the longest of them
abbrev pub duration_form : Bool → PredSpec → LKind
duration_form true spec = kinds.MaxSparse spec
duration_form false spec = kinds.SumDuration spec

-- a kind of metric
unfoldable pub linked_kind : Scope → ℤ → ℕ → Kind → LKind
linked_kind scope what bound Event = kinds.Event
linked_kind scope what bound (Count overflow) = kinds.Count overflow
linked_kind scope what bound (Value value) = value_form (names_pulled scope what) value (set_or_none value.field)
linked_kind scope what bound (Gauge gauge) = gauge_form scope (names_pulled scope what) gauge (set_or_none gauge.fields)
linked_kind scope what bound (Duration max_sparse) = duration_form max_sparse (timed_spec scope what bound)

-- a gauge takes few samples of a key
abbrev pub TakesFew : Kind → Type 0
TakesFew (Gauge gauge) = samples_of gauge ≤ 100
TakesFew _ = Unit {0}
