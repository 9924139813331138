-- What holds of every linked configuration.
use Rattle.std.specs.Prelude.{◌≡◌, ◌≢◌, ℕ, ◌*◌, ◌<◌, ◌≤◌, Bool, true, false, List, [], map, length, Option, Some, None, slice_get, AllPairs}
use Rattle.std.specs.List.{All}
use Rattle.config_types.specs.AlertSpecs.{IsAlertSpec}
use Rattle.config_types.specs.declared.parameters.PredSpec.{PredSpec}
use Rattle.config_types.specs.declared.parameters.Sampling.{Sampling}
use Rattle.config_types.specs.declared.parameters.Sampling.TheVariants.{AtStart, AtChange, AtTrigger}
use Rattle.config_types.specs.Askable.{greatest_atom_id, IsAskable}
use Rattle.field_select.specs.declared.leaf.FieldSet.{FieldSet}
use Rattle.field_select.specs.declared.leaf.LeafPath.{LeafPath}
use Rattle.field_select.specs.FieldSets.{IsLeaf, IsFieldSet, is_all}
use Rattle.link_graph.specs.Links.{HasNoCycle}
pub use Rattle.link_rules.specs.EntityLimits.{most_matchers, most_predicates, most_states, most_metrics, most_bound, most_samples, most_bucket_samples, most_activations, most_alerts}
use Rattle.config_links.specs.declared.linked.LMatcher.{LMatcher}
use Rattle.config_links.specs.declared.linked.LMatcher.TheVariants as linked_matchers
use Rattle.config_links.specs.declared.linked.LPredicate.{LPredicate}
use Rattle.config_links.specs.declared.linked.LPredBody.{LPredBody}
use Rattle.config_links.specs.declared.linked.LPredBody.TheVariants as linked_bodies
use Rattle.config_links.specs.declared.linked.LState.{LState}
use Rattle.config_links.specs.declared.linked.LSlice.{LSlice}
use Rattle.config_links.specs.declared.linked.LLink.{LLink}
use Rattle.config_links.specs.declared.linked.LActivation.{LActivation}
use Rattle.config_links.specs.declared.linked.LAlert.{LAlert}
use Rattle.config_links.specs.declared.linked.LMetric.{LMetric}
use Rattle.config_links.specs.declared.linked.LKind.{LKind}
use Rattle.config_links.specs.declared.linked.LKind.TheVariants as kinds
use Rattle.config_links.specs.declared.linked.Linked.{Linked}
use Rattle.config_links.specs.LinkReasons.{takes_children}
use Rattle.config_links.specs.LinkScopes.{spec_in, dims_in, named_predicates, is_pulled_matcher, told_atom}
use Rattle.config_links.specs.MetricLinks.{is_reached, is_within}

-- each place is one of so many
abbrev pub AreWithin : ℕ → List ℕ → Type 0
AreWithin count places = All (λ place. place < count) places

-- a place, where there is one, is one of so many
abbrev pub MayBeWithin : ℕ → Option ℕ → Type 0
MayBeWithin count (Some place) = place < count
MayBeWithin count None = Unit {0}

-- a number from 1 to so many
abbrev pub IsFromOne : ℕ → ℕ → Type 0
IsFromOne most number = (1 ≤ number) × (number ≤ most)

-- a bound of a predicate or a metric
abbrev pub IsBound : ℕ → Type 0
IsBound bound = IsFromOne most_bound bound

-- the places that a matcher names
abbrev pub named_matchers : LMatcher → List ℕ
named_matchers (linked_matchers.Simple simple) = []
named_matchers (linked_matchers.Combo op children) = children

-- a matcher among so many: a simple one may be asked, and an operation has its children, which are there
abbrev pub IsSoundMatcher : ℕ → LMatcher → Type 0
IsSoundMatcher count (linked_matchers.Simple simple) = IsAskable simple
IsSoundMatcher count (linked_matchers.Combo op children) =
    (takes_children op (length children) ≡ true) × AreWithin count children

-- a set of fields: each is one, none comes twice, and where there is one they are those of an atom
pub record IsSoundSet (set : FieldSet) : Type 0 where
  pub fields : IsFieldSet set
  pub atom : 1 ≤ length set.leaves → IsFromOne greatest_atom_id set.atom_id

-- a simple predicate, where there are so many matchers
pub record IsSoundSimple (count : ℕ) (start stop stop_all : Option ℕ) (dims : FieldSet) (spec : PredSpec) : Type 0 where
  pub starts : MayBeWithin count start
  pub stops : MayBeWithin count stop
  pub stops_all : MayBeWithin count stop_all
  pub fields : IsSoundSet dims
  pub leaves : spec.leaves ≡ length dims.leaves
  pub bound : IsBound spec.bound

-- a predicate's body, where there are so many matchers and so many predicates
abbrev pub IsSoundBody : ℕ → ℕ → LPredBody → Type 0
IsSoundBody matchers predicates (linked_bodies.Simple start stop stop_all dims spec) =
    IsSoundSimple matchers start stop stop_all dims spec
IsSoundBody matchers predicates (linked_bodies.Combo op children) =
    (takes_children op (length children) ≡ true) × AreWithin predicates children

-- a predicate, where there are so many matchers and so many predicates
abbrev pub IsSoundPredicate : ℕ → ℕ → LPredicate → Type 0
IsSoundPredicate matchers predicates predicate = IsSoundBody matchers predicates predicate.body

-- a state is told by an atom
abbrev pub IsSoundState : LState → Type 0
IsSoundState state = IsFromOne greatest_atom_id state.atom_id

-- a link of a metric with this condition: to a simple predicate that the condition is or reaches, with as many leaves
-- on both sides, which are among that predicate's dimensions, each once and in their order
pub record IsSoundLink (predicates : List LPredicate) (condition : Option ℕ) (link : LLink) : Type 0 where
  pub within : link.predicate < length predicates
  pub simple : spec_in (slice_get predicates link.predicate) ≢ None
  pub asked : is_reached predicates condition link.predicate ≡ true
  pub fields : IsSoundSet link.in_what
  pub some : 1 ≤ length link.in_what.leaves
  pub even : length link.places ≡ length link.in_what.leaves
  pub bound : AreWithin (length (dims_in (slice_get predicates link.predicate)).leaves) link.places
  pub rise : AllPairs (λ (place later : ℕ). place < later) link.places

-- the fields of a slice, where it has some
abbrev pub HasFields : Option FieldSet → Type 0
HasFields (Some set) = IsSoundSet set × (1 ≤ length set.leaves)
HasFields None = Unit {0}

-- a slice by one of so many states
pub record IsSoundSlice (count : ℕ) (slice : LSlice) : Type 0 where
  pub within : slice.state < count
  pub fields : HasFields slice.in_what

-- the atom of a slice
abbrev pub slice_atom : List LState → LSlice → ℕ
slice_atom states slice = told_atom (slice_get states slice.state)

-- whether the matcher at this place is a simple one of an atom that is pulled
abbrev pub IsPulledAt : List LMatcher → ℕ → Bool → Type 0
IsPulledAt matchers what pulled = is_pulled_matcher (slice_get matchers what) ≡ pulled

-- the length of a bucket in nanoseconds, up to a day
abbrev pub IsSize : ℕ → Type 0
IsSize size = IsFromOne 86400000000000 size

-- each leaf of a set is one of the dimensions of this predicate, and of the same atom
abbrev pub AreFieldsOf : Option LPredicate → FieldSet → Type 0
AreFieldsOf predicate set = is_within (dims_in predicate) set ≡ true

-- the same of a set that may be absent
abbrev pub MayBeFieldsOf : Option LPredicate → Option FieldSet → Type 0
MayBeFieldsOf predicate (Some set) = AreFieldsOf predicate set
MayBeFieldsOf predicate None = Unit {0}

-- the entries of samples: all, or some that are named
abbrev pub IsFilter : Option FieldSet → Type 0
IsFilter (Some set) = IsSoundSet set × (1 ≤ length set.leaves)
IsFilter None = Unit {0}

-- so many samples of a key, and as many of all keys as there may be
pub record AreSamples (bound samples : ℕ) : Type 0 where
  pub few : IsFromOne most_samples samples
  pub product : bound * samples ≤ most_bucket_samples

-- a gauge takes its samples at a trigger's atoms exactly if it has a trigger
abbrev pub HasMode : Sampling → Option ℕ → Type 0
HasMode AtTrigger trigger = trigger ≢ None
HasMode AtStart trigger = trigger ≡ None
HasMode AtChange trigger = trigger ≡ None

-- a duration's table is kept as that of what it times, with the duration's own bound, and its fields are among that
-- predicate's dimensions
pub record IsSoundDuration (linked : Linked) (metric : LMetric) (spec : PredSpec) : Type 0 where
  pub within : metric.what < length linked.predicates
  pub timed : PredSpec
  pub is : spec_in (slice_get linked.predicates metric.what) ≡ Some timed
  pub kept : spec ≡ record timed { bound = metric.bound }
  pub dims : AreFieldsOf (slice_get linked.predicates metric.what) metric.dims
  pub links : All (λ (link : LLink). AreFieldsOf (slice_get linked.predicates metric.what) link.in_what) metric.links
  pub slices : All (λ (slice : LSlice). MayBeFieldsOf (slice_get linked.predicates metric.what) slice.in_what)
      metric.slices

-- the field of a value: that of an atom, and its leaf picks one entry
abbrev pub IsValueField : ℕ → LeafPath → Type 0
IsValueField atom_id leaf = IsFromOne greatest_atom_id atom_id × IsLeaf leaf × (is_all leaf.position ≡ false)

-- what a metric has by its kind, and where the kind may stand. Events and gauges are never sliced.
abbrev pub IsSoundKind : Linked → LMetric → LKind → Type 0
IsSoundKind linked metric kinds.Event =
    (metric.what < length linked.matchers) × (metric.size ≡ 0) × (metric.bound ≡ 1) × (metric.slices ≡ [])
IsSoundKind linked metric (kinds.Count overflow) = (metric.what < length linked.matchers) × IsSize metric.size
IsSoundKind linked metric (kinds.PushedValue atom_id leaf agg) =
    (metric.what < length linked.matchers) × IsSize metric.size × IsPulledAt linked.matchers metric.what false
    × IsValueField atom_id leaf
IsSoundKind linked metric (kinds.PulledValue atom_id leaf spec) =
    (metric.what < length linked.matchers) × IsSize metric.size × IsPulledAt linked.matchers metric.what true
    × IsValueField atom_id leaf × (metric.links ≡ []) × (metric.slices ≡ [])
IsSoundKind linked metric (kinds.PushedGauge fields samples) =
    (metric.what < length linked.matchers) × IsSize metric.size × IsPulledAt linked.matchers metric.what false
    × IsFilter fields × AreSamples metric.bound samples × (metric.slices ≡ [])
IsSoundKind linked metric (kinds.PulledGauge fields samples mode trigger) =
    (metric.what < length linked.matchers) × IsSize metric.size × IsPulledAt linked.matchers metric.what true
    × IsFilter fields × AreSamples metric.bound samples × HasMode mode trigger
    × MayBeWithin (length linked.matchers) trigger × (metric.links ≡ []) × (metric.slices ≡ [])
IsSoundKind linked metric (kinds.SumDuration spec) = IsSize metric.size × IsSoundDuration linked metric spec
IsSoundKind linked metric (kinds.MaxSparse spec) =
    IsSize metric.size × IsSoundDuration linked metric spec × (metric.slices ≡ [])

-- how long an activation lasts, in nanoseconds: up to a million seconds
abbrev pub IsLifetime : ℕ → Type 0
IsLifetime ttl = IsFromOne 1000000000000000 ttl

-- an activation, where there are so many matchers
pub record IsSoundActivation (count : ℕ) (activation : LActivation) : Type 0 where
  pub starts : activation.start < count
  pub cancels : MayBeWithin count activation.cancel
  pub lasts : IsLifetime activation.ttl

-- a metric that acts on what was pulled, or on times, has no activations
abbrev pub MayBeActive : LKind → List LActivation → Type 0
MayBeActive (kinds.PulledValue atom_id leaf spec) activations = activations ≡ []
MayBeActive (kinds.PulledGauge fields samples mode trigger) activations = activations ≡ []
MayBeActive (kinds.SumDuration spec) activations = activations ≡ []
MayBeActive (kinds.MaxSparse spec) activations = activations ≡ []
MayBeActive _ activations = Unit {0}

-- a metric of a configuration
pub record IsSoundMetric (linked : Linked) (metric : LMetric) : Type 0 where
  pub condition : MayBeWithin (length linked.predicates) metric.condition
  pub links : All (IsSoundLink linked.predicates metric.condition) metric.links
  pub apart : AllPairs (λ (link later : LLink). link.predicate ≢ later.predicate) metric.links
  pub dims : IsSoundSet metric.dims
  pub bound : IsBound metric.bound
  pub slices : All (IsSoundSlice (length linked.states)) metric.slices
  pub atoms : AllPairs (λ (slice later : LSlice). slice_atom linked.states slice ≢ slice_atom linked.states later)
      metric.slices
  pub kind : IsSoundKind linked metric metric.kind
  pub few_activations : length metric.activations ≤ most_activations
  pub activations : All (IsSoundActivation (length linked.matchers)) metric.activations
  pub active : MayBeActive metric.kind metric.activations

-- an alert may watch a metric of this kind: it counts atoms
abbrev pub MayBeWatched : LKind → Type 0
MayBeWatched (kinds.Count overflow) = Unit {0}
MayBeWatched _ = ⊥

-- an alert: the metric that it watches is there and counts atoms, and its numbers are in their ranges, with the bound
-- of that metric
pub record IsSoundAlert (metrics : List LMetric) (alert : LAlert) : Type 0 where
  pub within : alert.metric < length metrics
  pub watched : LMetric
  pub is : slice_get metrics alert.metric ≡ Some watched
  pub counts : MayBeWatched watched.kind
  pub bound : alert.spec.bound ≡ watched.bound
  pub spec : IsAlertSpec alert.spec

-- a configuration: each entity is sound, there are as few as may be, no combination is below itself, and no two of a
-- kind have the same id
pub record IsSoundConfig (linked : Linked) : Type 0 where
  pub few_matchers : length linked.matchers ≤ most_matchers
  pub few_predicates : length linked.predicates ≤ most_predicates
  pub few_states : length linked.states ≤ most_states
  pub few_metrics : length linked.metrics ≤ most_metrics
  pub few_alerts : length linked.alerts ≤ most_alerts
  pub matchers : All (IsSoundMatcher (length linked.matchers)) linked.matchers
  pub predicates : All (IsSoundPredicate (length linked.matchers) (length linked.predicates)) linked.predicates
  pub states : All IsSoundState linked.states
  pub metrics : All (IsSoundMetric linked) linked.metrics
  pub alerts : All (IsSoundAlert linked.metrics) linked.alerts
  pub matchers_end : HasNoCycle (map named_matchers linked.matchers)
  pub predicates_end : HasNoCycle (map named_predicates linked.predicates)
  pub predicate_ids : AllPairs (λ (one later : LPredicate). one.id ≢ later.id) linked.predicates
  pub metric_ids : AllPairs (λ (one later : LMetric). one.id ≢ later.id) linked.metrics
  pub alert_ids : AllPairs (λ (one later : LAlert). one.id ≢ later.id) linked.alerts
