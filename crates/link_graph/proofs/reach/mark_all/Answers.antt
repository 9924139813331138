use Rattle.std.proofs.Common.{◌<◌, ℕ, List, length, take, get_or, sym, subst, arith}
use Rattle.std.proofs.lemmas.List.{take_more}
use Rattle.link_graph.specs.Search.{MarksAll}
use Rattle.link_graph.proofs.SearchLemmas.{marks_more}
use Rattle.link_graph.proofs.reach.mark_all.Goals as goal

pub loop-child-preserved : goal.loop-child-preserved
loop-child-preserved c =
    let children = c.args.children.now in
    let i = c.loop-child.child-index in
    let old = c.loop-child in
    let here : get_or children i 0 < length old.marks.items =
    omega (arith, c.requires i 0, old.invariant.same, c.args.marks.now.ok.0) in
    subst (λ (xs : List ℕ). MarksAll xs c.args.marks.now.items c.args.found.now.items c.mark.new.marks.items
    c.mark.new.found.items) (sym (take_more children i 0 c.loop-child-test.true))
    (marks_more (take i children) c.args.marks.now.items c.args.found.now.items old.marks.items old.found.items
    old.invariant (get_or children i 0) c.mark.new.marks.items c.mark.new.found.items here c.in_ok-mark.ensures)
