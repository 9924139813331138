use Rattle.std.proofs.Common.{◌≡◌, ◌<◌, List, [], ◌∷◌, ◌++◌, length, map, set, refl, ap, subst, sym, arith}
use Rattle.link_graph.specs.declared.walk.Mark.{Mark}
use Rattle.link_graph.specs.declared.walk.Mark.TheVariants.{New, Open}
use Rattle.link_graph.specs.Descent.{mark_at}
use Rattle.std.proofs.lemmas.List.{length-map}
use Rattle.link_graph.proofs.DescentLemmas.{walk_down}
use Rattle.link_graph.proofs.DescentSteps.{same_walk}
use Rattle.link_graph.proofs.OrderLemmas.{opened, opened_others}
use Rattle.link_graph.proofs.order.go_down.Goals as goal

pub loop-walk-init : goal.loop-walk-init
loop-walk-init g c =
    let links = map g.N.Node.names c.args.nodes.now in
    let old = c.args.walk.now in
    let new = c.enter.new.self in
    let root = c.args.root in
    let entered = c.in_ok-enter.ensures in
    let here : root < length links = omega (arith, c.requires.here, length-map c.args.nodes.now g.N.Node.names) in
    let marked : root < length old.marks.items = omega (arith, here, c.requires.walk.marked) in
    let is_new_root : mark_at old.marks.items root ≡ New = c.if-not-is_new.ensures.0 refl in
    record {
      walk = same_walk links (set old.marks.items root Open) new.marks.items old.next.items new.next.items
          (old.way.items ++ root ∷ []) new.way.items old.order.items new.order.items entered.marks entered.next
          entered.way entered.order
          (walk_down links old.marks.items old.next.items old.way.items old.order.items c.requires.walk root here
          is_new_root (λ k d h. absurd (omega (arith, h, ap length c.requires.back))));
      root = subst (λ (m : List Mark). mark_at m root ≡ New → ⊥) (sym entered.marks)
          (opened old.marks.items root marked);
      marked = λ x e. opened_others old.marks.items root x marked
          (subst (λ (m : List Mark). mark_at m x ≡ New) entered.marks e);
    }
