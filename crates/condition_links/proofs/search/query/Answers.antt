use Rattle.std.proofs.Common.{◌≡◌, ℕ, ◌<◌, Option, Some, List, length, slice_get, get_or, refl, sym, ap, subst, ◌∙◌, arith}
use Rattle.std.specs.Option.{IfSome}
use Rattle.std.proofs.lemmas.List.{length-map}
use Rattle.std.proofs.lemmas.Option.{slice_get_read}
use Rattle.config_links.specs.declared.linked.LPredicate.{LPredicate}
use Rattle.config_links.specs.LinkScopes.{named_predicates}
use Rattle.condition_links.specs.Conditions.{predicate_names}
use Rattle.link_graph.specs.Links.{AreInRange, HasNoCycle}
use Rattle.link_graph.specs.Depth.{EndsWithin}
use Rattle.link_graph.proofs.DepthLaws.{ends_from_no_cycle}
use Rattle.condition_links.specs.Conditions.{predicate_truth, table_truth_at, truth_of_found, root_truth}
use Rattle.condition_links.proofs.ConditionLemmas.{none_found, truth_equation}
use Rattle.condition_links.proofs.search.query.Goals as goal

pub find-requires-clause-in_range : goal.find-requires-clause-in_range
find-requires-clause-in_range g c =
    subst (λ (nodes : List LPredicate). AreInRange (predicate_names nodes)) (sym c.as_slice-nodes.ensures)
    c.requires.sound.in_range

pub find-requires-clause-no_cycle : goal.find-requires-clause-no_cycle
find-requires-clause-no_cycle g c =
    subst (λ (nodes : List LPredicate). HasNoCycle (predicate_names nodes)) (sym c.as_slice-nodes.ensures)
    c.requires.sound.no_cycle

pub find-requires-clause-depth : goal.find-requires-clause-depth
find-requires-clause-depth g c =
    let links = predicate_names c.args.tree.now.nodes in
    let root : c.in-Some.root < length c.args.tree.now.nodes = subst
    (λ (o : Option ℕ). IfSome o (λ r. r < length c.args.tree.now.nodes)) c.in-Some.is c.requires.sound.root in
    let many : length links ≡ length c.args.tree.now.nodes = length-map c.args.tree.now.nodes named_predicates in
    let ends : EndsWithin links (length c.args.tree.now.nodes) c.in-Some.root =
    subst (λ (n : ℕ). EndsWithin links n c.in-Some.root) many
    (ends_from_no_cycle links c.requires.sound.no_cycle c.requires.sound.in_range c.in-Some.root (omega arith)) in
    subst (λ (nodes : List LPredicate). EndsWithin (predicate_names nodes) (length nodes) c.in-Some.root)
    (sym c.as_slice-nodes.ensures) ends

pub find-requires-clause-found : goal.find-requires-clause-found
find-requires-clause-found g c = none_found
    (predicate_truth c.args.tables.now c.args.binds.now c.as_slice-nodes.result.now) 300

-- a predicate that is no combination says what its table does
pub returns-then-is_simple-clause-truth : goal.returns-then-is_simple-clause-truth
returns-then-is_simple-clause-truth g c =
    let tables = c.args.tables.now in
    let binds = c.args.binds.now in
    let nodes = c.args.tree.now.nodes in
    let root = c.in-Some.root in
    let here : root < length nodes = subst
    (λ (o : Option ℕ). IfSome o (λ r. r < length nodes)) c.in-Some.is c.requires.sound.root in
    let node = c.index-nodes-root.result in
    let found : slice_get nodes root ≡ Some node =
    slice_get_read nodes (length nodes) root node refl here
    (c.index-nodes-root.is ∙ ap (λ (ns : List LPredicate). get_or ns root node) c.as_slice-nodes.ensures) in
    let own = table_truth_at tables binds root in
    let truth = predicate_truth tables binds nodes in
    c.ask.ensures
    ∙ sym (c.is_simple.ensures c.if-is_simple.true own truth)
    ∙ sym (ap (truth_of_found own truth) found)
    ∙ sym (truth_equation tables binds nodes c.requires.sound.in_range c.requires.sound.no_cycle root here)
    ∙ sym (ap (root_truth (predicate_truth tables binds nodes)) c.in-Some.is)
