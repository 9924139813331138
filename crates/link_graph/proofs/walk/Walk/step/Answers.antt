use Rattle.std.proofs.Common.{◌≡◌, ℕ, ◌-◌, ◌<◌, List, [], ◌∷◌, ◌++◌, length, map, get_or, set, take, refl, sym, ap, ◌∙◌, arith}
use Rattle.std.proofs.lemmas.Bool.{false≢true}
use Rattle.link_graph.specs.declared.walk.Mark.{Mark}
use Rattle.link_graph.specs.declared.walk.Mark.TheVariants.{New, Open, Done}
use Rattle.link_graph.specs.Descent.{mark_at}
use Rattle.link_graph.proofs.DescentLemmas.{still_new}
use Rattle.link_graph.proofs.DescentSteps.{children_below, step_back, step_round, step_down, here, less_down, less_back, same_walk}
use Rattle.link_graph.proofs.walk.Walk.step.Goals as goal

pub pass-passed-requires-clause-marked : goal.pass-passed-requires-clause-marked
pass-passed-requires-clause-marked g c =
    let old = c.args.self.now in
    children_below (map g.N.Node.names c.args.nodes.now) c.last-place.result c.children_of-children.result.now _
    c.requires.in_range (omega (arith, c.requires.walk.marked, old.marks.ok.0)) c.children_of-children.ensures

-- back
pub returns-then-passed-children-clause-walk : goal.returns-then-passed-children-clause-walk
returns-then-passed-children-clause-walk g c _ =
    let links = map g.N.Node.names c.args.nodes.now in
    let old = c.args.self.now in
    let new = c.leave.new.self in
    let some : 0 < length old.way.items = omega (arith, c.requires.some, old.way.ok.0) in
    let left = c.in_ok-leave.ensures in
    let others = c.pass-passed.ensures.others in
    let p = c.last-place.result in
    let back = step_back links old.marks.items old.next.items old.way.items old.order.items c.requires.walk
    c.requires.in_range some p c.last-place.ensures c.children_of-children.result.now
    c.children_of-children.ensures c.pass-passed.result c.pass-passed.ensures.passed c.if-passed-children.true in
    same_walk links (set old.marks.items p Done) new.marks.items
    (set old.next.items p c.pass-passed.result) new.next.items
    (take (length old.way.items - 1) old.way.items) new.way.items (old.order.items ++ p ∷ []) new.order.items
    (left.marks ∙ ap (λ (m : List Mark). set m p Done) others.marks)
    (left.next ∙ c.pass-passed.ensures.next)
    (left.way ∙ ap (λ (w : List ℕ). take (length w - 1) w) others.way)
    (left.order ∙ ap (λ (o : List ℕ). o ++ p ∷ []) others.order)
    back

pub returns-then-passed-children-clause-less : goal.returns-then-passed-children-clause-less
returns-then-passed-children-clause-less g c _ =
    let old = c.args.self.now in
    let others = c.pass-passed.ensures.others in
    let p = c.last-place.result in
    let some : 0 < length old.way.items = omega (arith, c.requires.some, old.way.ok.0) in
    let marked : p < length old.marks.items =
    omega (
      arith,
      here (map g.N.Node.names c.args.nodes.now) old.marks.items old.next.items old.way.items
          old.order.items c.requires.walk c.requires.in_range some p c.last-place.ensures
          c.children_of-children.result.now c.children_of-children.ensures c.pass-passed.result
          c.pass-passed.ensures.passed,
      c.requires.walk.marked,
    ) in
    rw (c.in_ok-leave.ensures.marks, others.marks, c.in_ok-leave.ensures.way, others.way)
    (less_back old.marks.items old.way.items p marked some)

pub returns-then-is_open-clause-cycle : goal.returns-then-is_open-clause-cycle
returns-then-is_open-clause-cycle g c _ =
    let links = map g.N.Node.names c.args.nodes.now in
    let old = c.args.self.now in
    let some : 0 < length old.way.items = omega (arith, c.requires.some, old.way.ok.0) in
    let inside : c.pass-passed.result < length c.children_of-children.result.now =
    omega (arith, c.pass-passed.ensures.within, c.if-passed-children.false) in
    let child = get_or c.children_of-children.result.now c.pass-passed.result 0 in
    let is_open : mark_at old.marks.items child ≡ Open =
    sym (ap (λ (m : List Mark). mark_at m child) c.pass-passed.ensures.others.marks) ∙ c.if-is_open.ensures.0 refl in
    step_round links old.marks.items old.next.items old.way.items old.order.items c.requires.walk c.requires.in_range
    some c.last-place.result c.last-place.ensures c.children_of-children.result.now
    c.children_of-children.ensures c.pass-passed.result c.pass-passed.ensures.passed inside is_open

pub is_open-requires : goal.is_open-requires
is_open-requires g c =
    let old = c.args.self.now in
    let inside : c.pass-passed.result < length c.children_of-children.result.now =
    omega (arith, c.pass-passed.ensures.within, c.if-passed-children.false) in
    let below : get_or c.children_of-children.result.now c.pass-passed.result 0 < length old.marks.items =
    children_below (map g.N.Node.names c.args.nodes.now) c.last-place.result c.children_of-children.result.now
    (length old.marks.items) c.requires.in_range c.requires.walk.marked c.children_of-children.ensures
    c.pass-passed.result 0 inside in
    omega (arith, below, ap length c.pass-passed.ensures.others.marks, c.pass-passed.new.self.marks.ok.0)

pub enter-requires : goal.enter-requires
enter-requires g c =
    let old = c.args.self.now in
    let inside : c.pass-passed.result < length c.children_of-children.result.now =
    omega (arith, c.pass-passed.ensures.within, c.if-passed-children.false) in
    let below : get_or c.children_of-children.result.now c.pass-passed.result 0 < length old.marks.items =
    children_below (map g.N.Node.names c.args.nodes.now) c.last-place.result c.children_of-children.result.now
    (length old.marks.items) c.requires.in_range c.requires.walk.marked c.children_of-children.ensures
    c.pass-passed.result 0 inside in
    omega (arith, below, ap length c.pass-passed.ensures.others.marks, c.pass-passed.new.self.marks.ok.0)

-- down
pub returns-clause-walk : goal.returns-clause-walk
returns-clause-walk g c _ =
    let links = map g.N.Node.names c.args.nodes.now in
    let old = c.args.self.now in
    let new = c.enter.new.self in
    let others = c.pass-passed.ensures.others in
    let some : 0 < length old.way.items = omega (arith, c.requires.some, old.way.ok.0) in
    let inside : c.pass-passed.result < length c.children_of-children.result.now =
    omega (arith, c.pass-passed.ensures.within, c.if-passed-children.false) in
    let child = get_or c.children_of-children.result.now c.pass-passed.result 0 in
    let is_new_child : mark_at old.marks.items child ≡ New =
    still_new (mark_at old.marks.items child) (c.pass-passed.ensures.stop inside)
    (λ e. false≢true (c.if-is_open.ensures.1 (ap (λ (m : List Mark). mark_at m child) others.marks ∙ e))) in
    let entered = c.in_ok-enter.ensures in
    let down = step_down links old.marks.items old.next.items old.way.items old.order.items c.requires.walk
    c.requires.in_range some c.last-place.result c.last-place.ensures c.children_of-children.result.now
    c.children_of-children.ensures c.pass-passed.result c.pass-passed.ensures.passed inside is_new_child in
    same_walk links (set old.marks.items child Open) new.marks.items
    (set old.next.items c.last-place.result c.pass-passed.result) new.next.items
    (old.way.items ++ child ∷ []) new.way.items old.order.items new.order.items
    (entered.marks ∙ ap (λ (m : List Mark). set m child Open) others.marks)
    (entered.next ∙ c.pass-passed.ensures.next)
    (entered.way ∙ ap (λ (w : List ℕ). w ++ child ∷ []) others.way)
    (entered.order ∙ others.order)
    down

pub returns-clause-less : goal.returns-clause-less
returns-clause-less g c _ =
    let old = c.args.self.now in
    let others = c.pass-passed.ensures.others in
    let inside : c.pass-passed.result < length c.children_of-children.result.now =
    omega (arith, c.pass-passed.ensures.within, c.if-passed-children.false) in
    let child = get_or c.children_of-children.result.now c.pass-passed.result 0 in
    let below : child < length old.marks.items =
    children_below (map g.N.Node.names c.args.nodes.now) c.last-place.result c.children_of-children.result.now
    (length old.marks.items) c.requires.in_range c.requires.walk.marked c.children_of-children.ensures
    c.pass-passed.result 0 inside in
    let is_new_child : mark_at old.marks.items child ≡ New =
    still_new (mark_at old.marks.items child) (c.pass-passed.ensures.stop inside)
    (λ e. false≢true (c.if-is_open.ensures.1 (ap (λ (m : List Mark). mark_at m child) others.marks ∙ e))) in
    rw (c.in_ok-enter.ensures.marks, others.marks, c.in_ok-enter.ensures.way, others.way)
    (less_down old.marks.items old.way.items child below is_new_child)
