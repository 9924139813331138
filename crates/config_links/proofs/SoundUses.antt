-- What a sound configuration has at each place.
use Rattle.std.proofs.Common.{◌≡◌, ℕ, ◌<◌, ◌≤◌, true, List, [], map, length, Option, Some, None, slice_get, All, refl, subst, arith}
use Rattle.std.specs.List.{Contains}
use Rattle.std.proofs.lemmas.Bool.Decides.{Decides-eqb}
use Rattle.std.proofs.lemmas.List.{length-map}
use Rattle.std.proofs.lemmas.List.Elements.{All-contains}
use Rattle.std.proofs.lemmas.Option.{slice_get_within, get_or_from_slice_get}
use Rattle.config_types.specs.declared.matcher.Operation.{Operation}
use Rattle.config_types.specs.declared.matcher.Operation.TheVariants.{And, Or, Not, Nand, Nor}
use Rattle.link_graph.specs.Links.{Refers, AreInRange}
use Rattle.link_graph.proofs.NodeLemmas.{children_of, children_past}
use Rattle.link_graph.proofs.DepthLaws.{ends_from_no_cycle}
use Rattle.config_links.specs.declared.linked.LMatcher.{LMatcher}
use Rattle.config_links.specs.declared.linked.LMatcher.TheVariants as linked_matchers
use Rattle.config_links.specs.declared.linked.LPredBody.{LPredBody}
use Rattle.config_links.specs.declared.linked.LPredBody.TheVariants as linked_bodies
use Rattle.config_links.specs.declared.linked.Linked.{Linked}
use Rattle.config_links.specs.LinkReasons.{takes_children}
use Rattle.config_links.specs.LinkScopes.{body_children, named_predicates}
use Rattle.config_links.specs.SoundConfig.{AreWithin, named_matchers, IsSoundMatcher, IsSoundBody, IsSoundPredicate, IsSoundState, IsSoundMetric, IsSoundAlert, IsSoundConfig}
use Rattle.config_links.specs.SoundLaws.{AreSoundAtPlaces, ReferencesEnd, HaveChildren, HaveTheirLeaves}
use Rattle.config_links.proofs.SoundNames.{not_zero}

-- what holds of each holds of that at a place
at_place : {A : Type 0} (P : A → Type 0) (xs : List A) → All P xs → (at : ℕ) (x : A) → slice_get xs at ≡ Some x → P x
at_place P xs all at x is =
    subst P (get_or_from_slice_get xs at x x is) (all at x (slice_get_within xs at x is))

pub sound_at_places : (linked : Linked) → IsSoundConfig linked → AreSoundAtPlaces linked
sound_at_places linked sound = record {
  matcher = at_place (IsSoundMatcher (length linked.matchers)) linked.matchers sound.matchers;
  predicate = at_place
      (IsSoundPredicate (length linked.matchers) (length linked.predicates)) linked.predicates sound.predicates;
  state = at_place IsSoundState linked.states sound.states;
  metric = at_place (IsSoundMetric linked) linked.metrics sound.metrics;
  alert = at_place (IsSoundAlert linked.metrics) linked.alerts sound.alerts;
}

none_in : (y : ℕ) → Contains [] y → ⊥
none_in y c = omega (arith, c.1)

-- what a sound matcher names is there, and so it is of predicates
matcher_names : (count : ℕ) (matcher : LMatcher) → IsSoundMatcher count matcher
    → AreWithin count (named_matchers matcher)
matcher_names count (linked_matchers.Simple simple) sound = λ k d within. absurd (omega arith)
matcher_names count (linked_matchers.Combo op children) sound = sound.1

body_names : (some many : ℕ) (body : LPredBody) → IsSoundBody some many body → AreWithin many (body_children body)
body_names some many (linked_bodies.Simple start stop stop_all dims spec) sound = λ k d within. absurd (omega arith)
body_names some many (linked_bodies.Combo op children) sound = sound.1

module _ {N : Type 0} (names : N → List ℕ) (nodes : List N)
    (each : (at : ℕ) (node : N) → slice_get nodes at ≡ Some node → AreWithin (length nodes) (names node)) where
  by_node : (x y : ℕ) → Refers (map names nodes) x y → (found : Option N) → slice_get nodes x ≡ found
      → y < length (map names nodes)
  by_node x y r None is = absurd (none_in y (subst (λ (ys : List ℕ). Contains ys y) (children_past names nodes x is) r))
  by_node x y r (Some node) is =
      let named : Contains (names node) y =
      subst (λ (ys : List ℕ). Contains ys y) (children_of names nodes x node is) r in
      let below : y < length nodes =
      All-contains (λ place. place < length nodes) (names node) y (each x node is) named in
      omega (arith, below, length-map nodes names)

  -- where each node names what is there, all references do
  named_there : AreInRange (map names nodes)
  named_there x y r = by_node x y r (slice_get nodes x) refl

pub references_end : (linked : Linked) → IsSoundConfig linked → ReferencesEnd linked
references_end linked sound =
    let places = sound_at_places linked sound in
    let matchers = named_there named_matchers linked.matchers
    (λ at matcher is. matcher_names (length linked.matchers) matcher (places.matcher at matcher is)) in
    let predicates = named_there named_predicates linked.predicates
    (λ at predicate is. body_names (length linked.matchers) (length linked.predicates) predicate.body
    (places.predicate at predicate is)) in
    record {
      matchers_there = matchers;
      predicates_there = predicates;
      matchers_end = ends_from_no_cycle (map named_matchers linked.matchers) sound.matchers_end matchers;
      predicates_end = ends_from_no_cycle (map named_predicates linked.predicates) sound.predicates_end predicates;
    }

-- an operation that takes its children has one
some_child : (op : Operation) (count : ℕ) → takes_children op count ≡ true → 1 ≤ count
some_child Not count takes = let one : count ≡ 1 = (Decides-eqb count 1).0 takes in omega arith
some_child And count takes = not_zero count takes
some_child Or count takes = not_zero count takes
some_child Nand count takes = not_zero count takes
some_child Nor count takes = not_zero count takes

pub have_children : (linked : Linked) → IsSoundConfig linked → HaveChildren linked
have_children linked sound =
    let places = sound_at_places linked sound in
    record {
      matcher = λ at op children is. some_child op (length children)
          (places.matcher at (linked_matchers.Combo op children) is).0;
      predicate = λ at id op children is.
          some_child op (length children)
          (places.predicate at (record { id = id; body = linked_bodies.Combo op children }) is).0;
    }

pub have_their_leaves : (linked : Linked) → IsSoundConfig linked → HaveTheirLeaves linked
have_their_leaves linked sound at id start stop stop_all dims spec is =
    ((sound_at_places linked sound).predicate at
    (record { id = id; body = linked_bodies.Simple start stop stop_all dims spec }) is).leaves
