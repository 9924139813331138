use Rattle.std.proofs.Common.{◌≡◌, ◌<◌, ◌-◌, ℕ, List, Option, Some, length, get_or, map, take, refl, sym, ap, subst, ◌∙◌, arith}
use Rattle.std.specs.List.{slice_get}
use Rattle.std.proofs.lemmas.List.{length-map}
use Rattle.std.proofs.lemmas.Option.{slice_get_read}
use Rattle.config_links.specs.declared.linked.LPredicate.{LPredicate}
use Rattle.config_links.specs.declared.linked.LPredBody.TheVariants.{Simple, Combo}
use Rattle.config_links.specs.LinkScopes.{named_predicates}
use Rattle.condition_links.specs.Conditions.{predicate_names}
use Rattle.link_graph.specs.Links.{Refers}
use Rattle.link_graph.specs.Depth.{EndsWithin}
use Rattle.link_graph.proofs.DepthLaws.{ends_below_it, ends_positive}
use Rattle.predicate_state.specs.declared.truth.Truth.{Truth}
use Rattle.condition_links.specs.SeenTruths.{seen_of}
use Rattle.condition_links.specs.FoundTruths.{AreFound}
use Rattle.condition_links.specs.Conditions.{predicate_truth}
use Rattle.condition_links.proofs.ConditionLemmas.{found_more, simple_truth, combo_truth, refers_to_child}
use Rattle.condition_links.proofs.search.+find.Goals as goal
use Rattle.condition_links.proofs.search.+find.Goals.{in-Simple, in-Combo+else-loop-child-test}

pub find-requires : goal.find-requires
find-requires t c =
    let r = c.requires in
    let nodes = c.args.nodes.now in
    let node = c.index-nodes-at.result in
    let children = c.in-Combo.children in
    let found : slice_get nodes c.args.at ≡ Some node = slice_get_read nodes (length nodes) c.args.at node refl r.here
    c.index-nodes-at.is in
    let is_body : node.body ≡ Combo c.in-Combo.op children = ap (λ (n : LPredicate). n.body) c.index-nodes-at.is
    ∙ c.in-Combo.is in
    let child = get_or c.as_slice-child-items.result.now c.loop-child.child-index 0 in
    let named : Refers (predicate_names nodes) c.args.at child =
    subst (λ (xs : List ℕ). Refers (predicate_names nodes) c.args.at (get_or xs c.loop-child.child-index 0))
    (sym c.as_slice-child-items.ensures)
    (refers_to_child c.args.tables.now c.args.binds.now nodes r.in_range r.no_cycle c.args.at node c.in-Combo.op
    children c.loop-child.child-index found is_body (omega (arith, ap length c.as_slice-child-items.ensures))) in
    let deep : EndsWithin (predicate_names nodes) (c.args.depth - 1) child =
    ends_below_it (predicate_names nodes) c.args.depth c.args.at child r.depth named in
    let some : 0 < c.args.depth = ends_positive (predicate_names nodes) c.args.depth c.args.at r.depth in (
      omega (arith, c.decreases),
      (
        omega arith,
        (
          r.tables,
          (
            omega (arith, r.in_range c.args.at child named, length-map nodes named_predicates),
            (r.in_range, (r.no_cycle, (deep, c.loop-child.invariant.found))),
          ),
        ),
      ),
    )

-- Both kinds of predicates: what was found is the truth here, and what was kept before stays right.
pub returns-clause-truth : goal.returns-clause-truth
returns-clause-truth t c =
    let r = c.requires in
    let tables = c.args.tables.now in
    let binds = c.args.binds.now in
    let nodes = c.args.nodes.now in
    let node = c.index-nodes-at.result in
    let found : slice_get nodes c.args.at ≡ Some node = slice_get_read nodes (length nodes) c.args.at node refl r.here
    c.index-nodes-at.is in
    elim c.match-nodes-at.branch [
      | in-Simple w ↦
          let is_body : node.body ≡ Simple w.in-Simple.start w.in-Simple.stop w.in-Simple.stop_all w.in-Simple.dims
          w.in-Simple.spec = ap (λ (n : LPredicate). n.body) c.index-nodes-at.is ∙ w.in-Simple.is in
          w.truth-is ∙ w.ask-truth.ensures ∙ simple_truth tables binds nodes r.in_range r.no_cycle c.args.at node
          w.in-Simple.start w.in-Simple.stop w.in-Simple.stop_all w.in-Simple.dims w.in-Simple.spec r.here found
          is_body
      | in-Combo+else-loop-child-test w ↦
          let is_body : node.body ≡ Combo w.in-Combo.op w.in-Combo.children = ap (λ (n : LPredicate). n.body)
          c.index-nodes-at.is ∙ w.in-Combo.is in
          let is_seen : w.loop-child.seen ≡ seen_of
          (map (predicate_truth tables binds nodes) (take w.loop-child.child-index w.in-Combo.children)) =
          w.loop-child.invariant.seen ∙ ap (λ (xs : List ℕ). seen_of
          (map (predicate_truth tables binds nodes) (take w.loop-child.child-index xs)))
          w.as_slice-child-items.ensures in
          w.truth-is ∙ combo_truth tables binds nodes r.in_range r.no_cycle c.args.at node w.in-Combo.op
          w.in-Combo.children w.loop-child.child-index w.loop-child.seen w.joined-truth.result r.here found
          is_body (omega (arith, ap length w.as_slice-child-items.ensures)) is_seen w.joined-truth.ensures
    ]

pub returns-clause-found : goal.returns-clause-found
returns-clause-found t c =
    let truth = predicate_truth c.args.tables.now c.args.binds.now c.args.nodes.now in
    let before : AreFound truth c.match-nodes-at.found =
    elim c.match-nodes-at.branch [
      | in-Simple w ↦ subst (λ (f : List (Option Truth)). AreFound truth f) (sym w.found-is) c.requires.found
      | in-Combo+else-loop-child-test w ↦ subst (λ (f : List (Option Truth)). AreFound truth f) (sym w.found-is)
          w.loop-child.invariant.found
    ] in
    found_more truth c.match-nodes-at.found c.args.at c.match-nodes-at.truth (omega arith) (returns-clause-truth t c)
    before
