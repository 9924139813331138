-- What a metric's `what` and its state slices can't be, and their linked form.
use Rattle.std.specs.Prelude.{ℕ, ℤ, pos, nat_lt, ◌+◌, ◌*◌, ◌==◌, Bool, true, false, not, ◌&&◌, ◌||◌, List, [], ◌∷◌, length, map, Option, Some, None, is_none, is_some}
use Rattle.std.specs.Option.{option_map}
use Rattle.std.specs.Ordering.{int_eq}
use Rattle.std.specs.List.{list_all, list_any, find}
use Rattle.distinct.specs.Repeats.{repeat_in}
use Rattle.field_select.specs.declared.leaf.FieldSet.{FieldSet}
use Rattle.field_select.specs.declared.leaf.LeafPath.{LeafPath}
use Rattle.link_rules.specs.declared.entities.Metric.{Metric}
use Rattle.link_rules.specs.declared.entities.Kind.{Kind}
use Rattle.link_rules.specs.declared.entities.Kind.TheVariants.{Event, Value, Gauge, Duration}
use Rattle.link_rules.specs.declared.fault.LinkFault.{LinkFault}
use Rattle.link_rules.specs.EntityIds.{set_ids, place_in}
use Rattle.config_links.specs.declared.linked.LLink.{LLink}
use Rattle.config_links.specs.declared.linked.LSlice.{LSlice}
use Rattle.config_links.specs.declared.metrics.MetricParts.{MetricParts}
use Rattle.config_links.specs.declared.scope.Scope.{Scope}
use Rattle.config_links.specs.declared.sets.StateLinkSets.{StateLinkSets}
use Rattle.config_links.specs.declared.reasons.Reason.{Reason}
use Rattle.config_links.specs.declared.reasons.Reason.TheVariants.{NotTimed, TimedOutside, BadStateLink, BadSlices}
use Rattle.config_links.specs.LinkReasons.{least_reason}
use Rattle.config_links.specs.LinkScopes.{predicate_named, spec_in, dims_in, names_pulled, state_atom}
use Rattle.config_links.specs.MetricLinks.{are_as_many, are_one_of}

-- a duration times a simple predicate
abbrev pub times_simple : Scope → Kind → ℤ → Bool
times_simple scope (Duration max_sparse) what = is_some (spec_in (predicate_named scope what))
times_simple scope _ what = true

-- the fields of a metric are among these leaves, and of this atom
abbrev pub are_among : ℕ → List LeafPath → MetricParts → Bool
are_among atom leaves parts =
    are_one_of atom leaves parts.dims && (list_all (λ (link : LLink). are_one_of atom leaves link.in_what) parts.links
    && list_all (λ (sets : StateLinkSets). are_one_of atom leaves sets.in_what) parts.state_links)

-- the fields of a metric are among these dimensions
abbrev pub are_within : FieldSet → MetricParts → Bool
are_within timed parts = are_among timed.atom_id timed.leaves parts

-- the fields of a duration are among the dimensions of the predicate that it times
abbrev pub is_timed_within : Scope → Kind → MetricParts → Bool
is_timed_within scope (Duration max_sparse) parts = are_within (dims_in (predicate_named scope parts.what)) parts
is_timed_within scope _ parts = true

-- the atoms of the states by which a metric is sliced
abbrev pub sliced_atoms : Scope → List ℤ → List ℕ
sliced_atoms scope slices = map (state_atom scope) slices

-- a number is that of this atom
abbrev pub is_atom : ℕ → Option ℤ → Bool
is_atom atom (Some number) = int_eq number (pos atom)
is_atom atom None = false

-- a leaf without its position, as a number
abbrev pub leaf_number : LeafPath → ℕ
leaf_number leaf = 256 * leaf.field + leaf.sub

-- leaves rise strictly, by field and then by the field of a message, and the first is above this
abbrev pub rise_after : Option ℕ → List LeafPath → Bool
rise_after last [] = true
rise_after None (leaf ∷ leaves) = rise_after (Some (leaf_number leaf)) leaves
rise_after (Some last) (leaf ∷ leaves) =
    nat_lt last (leaf_number leaf) && rise_after (Some (leaf_number leaf)) leaves

-- leaves rise strictly, by field and then by the field of a message
abbrev pub rise : List LeafPath → Bool
rise leaves = rise_after None leaves

-- a state link is of a sliced state's atom, its sides have as many leaves, and those of the state are on that atom and
-- rise
abbrev pub fits_state : List ℕ → StateLinkSets → Bool
fits_state atoms sets =
    list_any (λ atom. is_atom atom sets.atom_id) atoms
    && (are_as_many sets.in_what sets.in_state
    && (is_atom sets.in_state.atom_id sets.atom_id && rise sets.in_state.leaves))

-- the atom that a state link names
abbrev pub linked_atom : StateLinkSets → Option ℤ
linked_atom sets = sets.atom_id

-- each state link fits, and no two name the same atom
abbrev pub fit_states : List ℕ → List StateLinkSets → Bool
fit_states atoms links =
    list_all (fits_state atoms) links && is_none (repeat_in int_eq (set_ids (map linked_atom links)))

-- a metric of a matcher of a pulled atom, which acts on what was pulled
abbrev pub is_pulled_kind : Scope → Kind → ℤ → Bool
is_pulled_kind scope (Value value) what = names_pulled scope what
is_pulled_kind scope (Gauge gauge) what = names_pulled scope what
is_pulled_kind scope _ what = false

-- a metric may be sliced by states: neither the longest run of a duration, nor a pulled value
abbrev pub may_be_sliced : Scope → Kind → ℤ → Bool
may_be_sliced scope (Duration max_sparse) what = not max_sparse
may_be_sliced scope (Value value) what = not (names_pulled scope what)
may_be_sliced scope _ what = true

-- a metric without slices, or one that may have them, of which no two are of the same atom
abbrev pub fit_slices : Scope → Kind → ℤ → List ℤ → Bool
fit_slices scope kind what slices =
    ((length slices == 0) || may_be_sliced scope kind what)
    && is_none (repeat_in (λ one other. one == other) (sliced_atoms scope slices))

-- the fields for the state of this atom, where there is a link to it
abbrev pub slice_fields : List StateLinkSets → ℕ → Option FieldSet
slice_fields links atom =
    option_map (λ (sets : StateLinkSets). sets.in_what)
    (find (λ (sets : StateLinkSets). is_atom atom sets.atom_id) links)

-- a slice by the state of this id
abbrev pub linked_slice : Scope → List StateLinkSets → ℤ → LSlice
linked_slice scope links id =
    record { state = place_in scope.ids.states id; in_what = slice_fields links (state_atom scope id) }

-- slices by the states of these ids; events and gauges have none
abbrev pub linked_slices : Scope → Kind → List StateLinkSets → List ℤ → List LSlice
linked_slices scope Event links slices = []
linked_slices scope (Gauge gauge) links slices = []
linked_slices scope _ links slices = map (linked_slice scope links) slices

-- what a duration can't time
abbrev pub time_reasons : Scope → Kind → MetricParts → List (Reason × Bool)
time_reasons scope kind parts =
    (NotTimed, not (times_simple scope kind parts.what))
    ∷ (TimedOutside, not (is_timed_within scope kind parts))
    ∷ []

-- the fault of what a metric times, if it is a duration
unfoldable pub bad_times : Scope → Metric → MetricParts → Option LinkFault
bad_times scope metric parts = least_reason metric.common.id (time_reasons scope metric.kind parts)

-- what the slices of a metric can't be
abbrev pub slice_reasons : Scope → Metric → MetricParts → List (Reason × Bool)
slice_reasons scope metric parts =
    (BadStateLink, not (fit_states (sliced_atoms scope metric.sliced.slices) parts.state_links))
    ∷ (BadSlices, not (fit_slices scope metric.kind parts.what metric.sliced.slices))
    ∷ []

-- the fault of the slices of a metric
unfoldable pub bad_slices : Scope → Metric → MetricParts → Option LinkFault
bad_slices scope metric parts = least_reason metric.common.id (slice_reasons scope metric parts)
