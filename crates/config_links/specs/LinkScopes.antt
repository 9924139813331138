-- What is known when metrics are linked: a name leads to the linked form at the place of its id.
use Rattle.std.specs.Prelude.{ℕ, ℤ, Bool, false, List, [], Option, Some, None, slice_get}
use Rattle.std.specs.Option.{option_and_then}
use Rattle.config_types.specs.declared.parameters.PredSpec.{PredSpec}
use Rattle.atom_record.specs.Pulled.{is_pull_id}
use Rattle.field_select.specs.declared.leaf.FieldSet.{FieldSet}
use Rattle.field_select.specs.WellFormed.{number_or_zero}
use Rattle.link_rules.specs.EntityIds.{id_place}
use Rattle.config_links.specs.declared.linked.LMatcher.{LMatcher}
use Rattle.config_links.specs.declared.linked.LMatcher.TheVariants as linked_matchers
use Rattle.config_links.specs.declared.linked.LPredicate.{LPredicate}
use Rattle.config_links.specs.declared.linked.LPredBody.{LPredBody}
use Rattle.config_links.specs.declared.linked.LPredBody.TheVariants as linked_bodies
use Rattle.config_links.specs.declared.linked.LState.{LState}
use Rattle.config_links.specs.declared.scope.Scope.{Scope}

-- the predicate of this id
abbrev pub predicate_named : Scope → ℤ → Option LPredicate
predicate_named scope id = option_and_then (slice_get scope.predicates) (id_place id scope.ids.predicates)

-- how the table of a simple predicate is kept
abbrev pub body_spec : LPredBody → Option PredSpec
body_spec (linked_bodies.Simple start stop stop_all dims spec) = Some spec
body_spec (linked_bodies.Combo op children) = None

-- how the table of a predicate is kept, where it is a simple one
abbrev pub spec_in : Option LPredicate → Option PredSpec
spec_in (Some predicate) = body_spec predicate.body
spec_in None = None

-- no leaves
abbrev pub no_leaves : FieldSet
no_leaves = record { atom_id = 0; leaves = [] }

-- the dimensions of a simple predicate
abbrev pub body_dims : LPredBody → FieldSet
body_dims (linked_bodies.Simple start stop stop_all dims spec) = dims
body_dims (linked_bodies.Combo op children) = no_leaves

-- the dimensions of a predicate, where it is a simple one
abbrev pub dims_in : Option LPredicate → FieldSet
dims_in (Some predicate) = body_dims predicate.body
dims_in None = no_leaves

-- the predicates that a predicate's combination names
abbrev pub body_children : LPredBody → List ℕ
body_children (linked_bodies.Simple start stop stop_all dims spec) = []
body_children (linked_bodies.Combo op children) = children

-- the places of the predicates that a predicate names
abbrev pub named_predicates : LPredicate → List ℕ
named_predicates predicate = body_children predicate.body

-- a simple matcher of an atom that is pulled
abbrev pub is_pulled_matcher : Option LMatcher → Bool
is_pulled_matcher (Some (linked_matchers.Simple simple)) = is_pull_id (number_or_zero simple.atom_id)
is_pulled_matcher (Some (linked_matchers.Combo op children)) = false
is_pulled_matcher None = false

-- the matcher of this id is a simple one of an atom that is pulled
abbrev pub names_pulled : Scope → ℤ → Bool
names_pulled scope id =
    is_pulled_matcher (option_and_then (slice_get scope.matchers) (id_place id scope.ids.matchers))

-- the atom of a state
abbrev pub told_atom : Option LState → ℕ
told_atom (Some state) = state.atom_id
told_atom None = 0

-- the atom of the state of this id
abbrev pub state_atom : Scope → ℤ → ℕ
state_atom scope id = told_atom (option_and_then (slice_get scope.states) (id_place id scope.ids.states))
