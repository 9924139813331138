-- What the parts of a sound configuration may rest on, each by its place.
use Rattle.std.specs.Prelude.{◌≡◌, ℕ, ℤ, ◌≤◌, List, map, length, Option, Some, slice_get}
use Rattle.config_types.specs.declared.matcher.Operation.{Operation}
use Rattle.config_types.specs.declared.parameters.PredSpec.{PredSpec}
use Rattle.field_select.specs.declared.leaf.FieldSet.{FieldSet}
use Rattle.link_graph.specs.Links.{AreInRange}
use Rattle.link_graph.specs.Depth.{AllEnd}
use Rattle.config_links.specs.declared.linked.LMatcher.{LMatcher}
use Rattle.config_links.specs.declared.linked.LMatcher.TheVariants as linked_matchers
use Rattle.config_links.specs.declared.linked.LPredicate.{LPredicate}
use Rattle.config_links.specs.declared.linked.LPredBody.TheVariants as linked_bodies
use Rattle.config_links.specs.declared.linked.LState.{LState}
use Rattle.config_links.specs.declared.linked.LMetric.{LMetric}
use Rattle.config_links.specs.declared.linked.LAlert.{LAlert}
use Rattle.config_links.specs.declared.linked.Linked.{Linked}
use Rattle.config_links.specs.LinkScopes.{named_predicates}
use Rattle.config_links.specs.SoundConfig.{named_matchers, IsSoundMatcher, IsSoundPredicate, IsSoundState, IsSoundMetric, IsSoundAlert}

-- what stands at a place is sound
pub record AreSoundAtPlaces (linked : Linked) : Type 0 where
  pub matcher : (at : ℕ) (matcher : LMatcher) → slice_get linked.matchers at ≡ Some matcher
      → IsSoundMatcher (length linked.matchers) matcher
  pub predicate : (at : ℕ) (predicate : LPredicate) → slice_get linked.predicates at ≡ Some predicate
      → IsSoundPredicate (length linked.matchers) (length linked.predicates) predicate
  pub state : (at : ℕ) (state : LState) → slice_get linked.states at ≡ Some state → IsSoundState state
  pub metric : (at : ℕ) (metric : LMetric) → slice_get linked.metrics at ≡ Some metric → IsSoundMetric linked metric
  pub alert : (at : ℕ) (alert : LAlert) → slice_get linked.alerts at ≡ Some alert → IsSoundAlert linked.metrics alert

-- references lead to places that are there, and no list of them is as long as there are places
pub record ReferencesEnd (linked : Linked) : Type 0 where
  pub matchers_there : AreInRange (map named_matchers linked.matchers)
  pub predicates_there : AreInRange (map named_predicates linked.predicates)
  pub matchers_end : AllEnd (map named_matchers linked.matchers)
  pub predicates_end : AllEnd (map named_predicates linked.predicates)

-- a combination at a place has a child
pub record HaveChildren (linked : Linked) : Type 0 where
  pub matcher : (at : ℕ) (op : Operation) (children : List ℕ)
      → slice_get linked.matchers at ≡ Some (linked_matchers.Combo op children) → 1 ≤ length children
  pub predicate : (at : ℕ) (id : ℤ) (op : Operation) (children : List ℕ)
      → slice_get linked.predicates at ≡ Some (record { id = id; body = linked_bodies.Combo op children })
      → 1 ≤ length children

-- the table of a simple predicate at a place has keys of as many leaves as its dimensions
abbrev pub HaveTheirLeaves : Linked → Type 0
HaveTheirLeaves linked =
    (at : ℕ) (id : ℤ) (start stop stop_all : Option ℕ) (dims : FieldSet) (spec : PredSpec)
    → slice_get linked.predicates at
    ≡ Some (record { id = id; body = linked_bodies.Simple start stop stop_all dims spec })
    → spec.leaves ≡ length dims.leaves
