-- Laws of a predicate's truth, and the steps of finding it.
use Rattle.std.proofs.Common.{◌≡◌, ℕ, zero, suc, ◌<◌, ◌≤◌, List, length, map, get_or, set, take, Option, Some, None, refl, sym, ap, subst, ◌∙◌, arith, inl, inr}
use Rattle.std.proofs.Math.ListN.{replicate}
use Rattle.std.specs.List.{Contains, slice_get}
use Rattle.std.proofs.lemmas.Bool.{cases_eq}
use Rattle.std.proofs.lemmas.List.{get_or-set_same, get_or-set_other, length-map, take_all}
use Rattle.std.proofs.lemmas.List.Elements.{Contains-get_or}
use Rattle.std.proofs.lemmas.Option.{same_Some}
use Rattle.config_types.specs.declared.matcher.Operation.{Operation}
use Rattle.config_links.specs.declared.linked.LPredicate.{LPredicate}
use Rattle.config_links.specs.declared.linked.LPredBody.{LPredBody}
use Rattle.config_links.specs.declared.linked.LPredBody.TheVariants.{Simple, Combo}
use Rattle.config_links.specs.LinkScopes.{named_predicates, body_children}
use Rattle.condition_links.specs.Conditions.{predicate_names}
use Rattle.link_graph.specs.Links.{Refers, AreInRange, HasNoCycle}
use Rattle.link_graph.specs.Unrolling.{LooksDown}
use Rattle.link_graph.proofs.DepthLaws.{ends_from_no_cycle}
use Rattle.link_graph.proofs.NodeLemmas.{map_same, children_of}
use Rattle.link_graph.proofs.UnrollingLaws.{equation}
use Rattle.field_select.specs.declared.leaf.FieldSet.{FieldSet}
use Rattle.config_types.specs.declared.parameters.PredSpec.{PredSpec}
use Rattle.predicate_state.specs.declared.bind.Bind.{Bind}
use Rattle.predicate_state.specs.declared.truth.Truth.{Truth}
use Rattle.predicate_state.specs.declared.truth.Truth.TheVariants.{Unknown}
use Rattle.predicate_state.specs.PredicateTable.{PredicateTable}
use Rattle.condition_links.specs.ThreeValues.{combined3}
use Rattle.condition_links.specs.SeenTruths.{seen_of}
use Rattle.condition_links.specs.declared.joined.Seen.{Seen}
use Rattle.condition_links.specs.Conditions.{table_truth_at, truth_of_body, truth_of_found, condition_step, predicate_truth}
use Rattle.condition_links.specs.FoundTruths.{AreFound}

-- what is kept stays right where a truth that is right is added
pub found_more : (truth : ℕ → Truth) (found : List (Option Truth)) (at : ℕ) (here : Truth) → at < length found → here
    ≡ truth at → AreFound truth found → AreFound truth (set found at (Some here))
found_more truth found at here inside is_here before k kept e =
    elim (cases_eq k at) [
      | inl same ↦
          let at_k : Some here ≡ Some kept =
          sym (get_or-set_same found at (Some here) None inside)
          ∙ sym (ap (λ (i : ℕ). get_or (set found at (Some here)) i None) same) ∙ e in
          sym (same_Some here kept at_k) ∙ is_here ∙ sym (ap truth same)
      | inr other ↦ before k kept (sym (get_or-set_other found at k (Some here) None other) ∙ e)
    ]

nothing_there : (n at : ℕ) (kept : Truth) → get_or (replicate n None) at None ≡ Some kept → ⊥
nothing_there zero at kept e = cc
nothing_there (suc n) zero kept e = cc
nothing_there (suc n) (suc at) kept e = nothing_there n at kept e

-- at first nothing is kept
pub none_found : (truth : ℕ → Truth) (n : ℕ) → AreFound truth (replicate n None)
none_found truth n at kept e = absurd (nothing_there n at kept e)

module _ (tables : List PredicateTable) (binds : List (List Bind)) (nodes : List LPredicate) where
  same_body : (own : Truth) (f g : ℕ → Truth) (body : LPredBody)
      → ((y : ℕ) → Contains (body_children body) y → f y ≡ g y) → truth_of_body own f body ≡ truth_of_body own g body
  same_body own f g (Simple start stop stop_all dims spec) same = refl
  same_body own f g (Combo op children) same = ap (combined3 op) (map_same f g children same)

  same_found : (own : Truth) (f g : ℕ → Truth) (x : ℕ) (found : Option LPredicate) → slice_get nodes x ≡ found
      → ((y : ℕ) → Refers (predicate_names nodes) x y → f y ≡ g y) → truth_of_found own f found
      ≡ truth_of_found own g found
  same_found own f g x None e same = refl
  same_found own f g x (Some node) e same =
      same_body own f g node.body (λ y named. same y
      (subst (λ (xs : List ℕ). Contains xs y) (sym (children_of named_predicates nodes x node e)) named))

  -- the truth of a predicate comes from the truths of those that it names
  pub truth_looks_down : LooksDown (predicate_names nodes) (condition_step tables binds nodes)
  truth_looks_down f g x same = same_found (table_truth_at tables binds x) f g x (slice_get nodes x) refl same

  module _ (in_range : AreInRange (predicate_names nodes)) (no_cycle : HasNoCycle (predicate_names nodes)) where
    -- each place's truth is that of its predicate, by the truths at its children's places
    pub truth_equation : (x : ℕ) → x < length nodes → predicate_truth tables binds nodes x
        ≡ truth_of_found (table_truth_at tables binds x) (predicate_truth tables binds nodes) (slice_get nodes x)
    truth_equation x here =
        let many : length (predicate_names nodes) ≡ length nodes = length-map nodes named_predicates in
        equation (predicate_names nodes) (condition_step tables binds nodes) Unknown truth_looks_down
        (length (predicate_names nodes)) x (length nodes)
        (ends_from_no_cycle (predicate_names nodes) no_cycle in_range x (omega arith)) (omega arith)

    body_truth : (x : ℕ) (node : LPredicate) (body : LPredBody) → x < length nodes → slice_get nodes x ≡ Some node
        → node.body ≡ body → predicate_truth tables binds nodes x
        ≡ truth_of_body (table_truth_at tables binds x) (predicate_truth tables binds nodes) body
    body_truth x node body here e is_body =
        truth_equation x here
        ∙ ap (truth_of_found (table_truth_at tables binds x) (predicate_truth tables binds nodes)) e
        ∙ ap (truth_of_body (table_truth_at tables binds x) (predicate_truth tables binds nodes)) is_body

    -- what the table says is the truth of a simple predicate
    pub simple_truth : (x : ℕ) (node : LPredicate) (start stop stop_all : Option ℕ) (dims : FieldSet)
        (spec : PredSpec) → x < length nodes → slice_get nodes x ≡ Some node → node.body
        ≡ Simple start stop stop_all dims spec → table_truth_at tables binds x ≡ predicate_truth tables binds nodes x
    simple_truth x node start stop stop_all dims spec here e is_body = sym
        (body_truth x node (Simple start stop stop_all dims spec) here e is_body)

    -- what the truths of all children give is the truth of a combination
    pub combo_truth : (x : ℕ) (node : LPredicate) (op : Operation) (children : List ℕ) (i : ℕ) (seen : Seen)
        (joined : Truth) → x < length nodes → slice_get nodes x ≡ Some node → node.body ≡ Combo op children
        → length children ≤ i → seen ≡ seen_of (map (predicate_truth tables binds nodes) (take i children))
        → ((truths : List Truth) → seen ≡ seen_of truths → joined ≡ combined3 op truths) → joined
        ≡ predicate_truth tables binds nodes x
    combo_truth x node op children i seen joined here e is_body past is_seen joins =
        joins (map (predicate_truth tables binds nodes) (take i children)) is_seen
        ∙ ap (λ (xs : List ℕ). combined3 op (map (predicate_truth tables binds nodes) xs)) (take_all i children past)
        ∙ sym (body_truth x node (Combo op children) here e is_body)

    -- a combination refers to each of its children
    pub refers_to_child : (x : ℕ) (node : LPredicate) (op : Operation) (children : List ℕ) (k : ℕ) → slice_get nodes x
        ≡ Some node → node.body ≡ Combo op children → k < length children
        → Refers (predicate_names nodes) x (get_or children k 0)
    refers_to_child x node op children k e is_body inside =
        let named : Contains children (get_or children k 0) = Contains-get_or children k 0 inside in
        let names : children ≡ named_predicates node = sym (ap body_children is_body) in
        subst (λ (xs : List ℕ). Contains xs (get_or children k 0)) (names
        ∙ sym (children_of named_predicates nodes x node e)) named
