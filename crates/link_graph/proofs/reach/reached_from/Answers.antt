use Rattle.std.proofs.Common.{◌≡◌, ◌<◌, ℕ, List, [], Bool, false, length, map, get_or, sym, subst, ap, ◌∙◌, arith}
use Rattle.std.proofs.Math.ListN.{replicate}
use Rattle.std.proofs.lemmas.List.{length-map, length-append, get_or_default}
use Rattle.std.proofs.lemmas.List.Elements.{Contains-get_or}
use Rattle.link_graph.specs.Links.{children_at, MarksReached}
use Rattle.link_graph.specs.Search.{MarksAll}
use Rattle.link_graph.proofs.DescentSteps.{children_below}
use Rattle.link_graph.proofs.SearchLemmas.{search_begins, search_goes_on, search_ends, marked_below}
use Rattle.link_graph.proofs.reach.reached_from.Goals as goal

pub mark_all-requires : goal.mark_all-requires
mark_all-requires g c =
    let links = map g.N.Node.names c.args.nodes.now in
    children_below links c.args.from c.children_of.result.now _ c.requires.in_range
    (omega (arith, c.in_ok-marks.ensures.len, length-map c.args.nodes.now g.N.Node.names)) c.children_of.ensures

pub loop-at-init : goal.loop-at-init
loop-at-init g c =
    let links = map g.N.Node.names c.args.nodes.now in
    let marks = c.mark_all.new.marks.items in
    let found = c.mark_all.new.found.items in
    let none : c.in_ok-marks.marks.items ≡ replicate (length links) false =
    c.in_ok-marks.ensures.items_if_clones_equal (λ y e. e)
    ∙ ap (λ (n : ℕ). replicate n false) (sym (length-map c.args.nodes.now g.N.Node.names)) in
    let first : MarksAll (children_at links c.args.from) (replicate (length links) false) [] marks found =
    subst (λ (xs : List ℕ). MarksAll xs (replicate (length links) false) [] marks found) c.children_of.ensures
    (subst (λ (old : List Bool). MarksAll c.children_of.result.now old [] marks found) none
    (subst (λ (old : List ℕ). MarksAll c.children_of.result.now c.in_ok-marks.marks.items old marks found)
    c.new-found.ensures.items c.in_ok-mark_all.ensures)) in
    record { search = search_begins links c.args.from marks found first; within = omega arith }

pub children_of-requires-in-loop-at : goal.children_of-requires-in-loop-at
children_of-requires-in-loop-at g c =
    let search = c.loop-at.invariant.search in
    let found = c.loop-at.found.items in
    let inside : c.loop-at.at < length found = omega (arith, c.loop-at.found.ok.0) in
    let is_place : c.index.result.now ≡ get_or found c.loop-at.at 0 =
    c.index.ensures ∙ get_or_default found c.loop-at.at c.index.result.now 0 inside in
    omega (
      arith,
      is_place,
      marked_below c.loop-at.marks.items (get_or found c.loop-at.at 0)
          (search.now (get_or found c.loop-at.at 0)
          (Contains-get_or found c.loop-at.at 0 inside)),
      search.marked,
      length-map c.args.nodes.now g.N.Node.names,
    )

pub mark_all-requires-in-loop-at : goal.mark_all-requires-in-loop-at
mark_all-requires-in-loop-at g c =
    let links = map g.N.Node.names c.args.nodes.now in
    children_below links c.index.result.now c.children_of-in-loop-at.result.now _ c.requires.in_range
    (omega (arith, c.loop-at.invariant.search.marked, c.loop-at.marks.ok.0)) c.children_of-in-loop-at.ensures

pub loop-at-preserved : goal.loop-at-preserved
loop-at-preserved g c =
    let links = map g.N.Node.names c.args.nodes.now in
    let search = c.loop-at.invariant.search in
    let found = c.loop-at.found.items in
    let marks' = c.mark_all-in-loop-at.new.marks.items in
    let found' = c.mark_all-in-loop-at.new.found.items in
    let inside : c.loop-at.at < length found = omega (arith, c.loop-at.found.ok.0) in
    let is_place : c.index.result.now ≡ get_or found c.loop-at.at 0 =
    c.index.ensures ∙ get_or_default found c.loop-at.at c.index.result.now 0 inside in
    let next : MarksAll (children_at links (get_or found c.loop-at.at 0)) c.loop-at.marks.items found marks' found' =
    subst (λ (xs : List ℕ). MarksAll xs c.loop-at.marks.items found marks' found')
    (c.children_of-in-loop-at.ensures ∙ ap (children_at links) is_place) c.in_ok-mark_all-2.ensures in
    record {
      search = search_goes_on links c.args.from c.loop-at.marks.items found c.loop-at.at search marks' found' inside
          next;
      within = omega (
        arith,
        inside,
        ap length next.front,
        length-append found next.added,
        c.mark_all-in-loop-at.new.found.ok.0,
      );
    }

pub returns : goal.returns
returns g c =
    let links = map g.N.Node.names c.args.nodes.now in
    let marks = c.loop-at.marks.items in
    subst (λ (m : List Bool). MarksReached links c.args.from m) (sym c.from_vec.ensures)
    (search_ends links c.args.from marks c.loop-at.found.items c.loop-at.at c.loop-at.invariant.search
    (omega (arith, c.loop-at.found.ok.0)))
