-- The atom acts on one predicate more, unless it did before.
use Rattle.std.proofs.Common.{◌≡◌, ◌∙◌, true, false, get_or, set, sym, refl, arith}
use Rattle.known_conditions.proofs.KeptPredicatesLemmas.{none_acted, acting_within, still_kept, one_acted, spec_there}
use Rattle.known_conditions.proofs.MarksLemmas.{none_to_mark, one_more_marked, all_are_marked, here_marked, stay_marked, marked_within}
use Rattle.known_conditions.proofs.tables.act_on_each.Goals as goal
use Rattle.known_conditions.proofs.tables.act_on_each.Goals.{then-not-is_marked+in_ok-act_on, else-not-is_marked}

-- it acted on none yet
pub loop-turn-init : goal.loop-turn-init
loop-turn-init c =
    let predicates = c.args.predicates.now in
    let acted = none_acted c.args.act.now.matched.now c.args.act.now.atom.now predicates c.args.tables.now
    c.requires.specs in
    (rw (c.requires.marks) acted, none_to_mark c.args.places.now c.args.marks.now)

-- the table is kept as its predicate says
pub act_on-requires-clause-spec : goal.act_on-requires-clause-spec
act_on-requires-clause-spec c =
    let off : get_or c.loop-turn.marks (get_or c.args.places.now c.loop-turn.turn 0) true ≡ false =
    sym c.is_marked.ensures ∙ grind (arith, c.if-not-is_marked.true) in
    let place = get_or c.args.places.now c.loop-turn.turn 0 in
    let are = c.loop-turn.invariant.0 in
    let table = c.index-tables-place.result in
    let within = acting_within c.args.act.now.matched.now c.args.act.now.atom.now
    c.args.predicates.now c.args.tables.now
    c.requires.specs c.loop-turn.tables c.loop-turn.marks place table table are off in
    spec_there c.args.predicates.now c.loop-turn.tables place c.index-predicates-place.result table are.specs within

-- without memory too
pub returns-in_err-act_on-clause-specs : goal.returns-in_err-act_on-clause-specs
returns-in_err-act_on-clause-specs c =
    let off : get_or c.loop-turn.marks (get_or c.args.places.now c.loop-turn.turn 0) true ≡ false =
    sym c.is_marked.ensures ∙ grind (arith, c.if-not-is_marked.true) in
    let place = get_or c.args.places.now c.loop-turn.turn 0 in
    let table = c.index-tables-place.result in
    still_kept c.args.act.now.matched.now c.args.act.now.atom.now c.args.predicates.now c.args.tables.now
    c.requires.specs c.loop-turn.tables c.loop-turn.marks place c.act_on.new.table table c.loop-turn.invariant.0 off
    c.act_on.ensures.spec

-- it acted on one more, or had before
pub loop-turn-preserved : goal.loop-turn-preserved
loop-turn-preserved c =
    let places = c.args.places.now in
    let turn = c.loop-turn.turn in
    let place = get_or places turn 0 in
    let marks = c.loop-turn.marks in
    elim c.if-not-is_marked.branch [
      | then-not-is_marked+in_ok-act_on w ↦
          let off : get_or marks place true ≡ false =
          sym c.is_marked.ensures ∙ grind (arith, w.if-not-is_marked.true) in
          let table = w.index-tables-place.result in
          rw (w.tables-is, w.marks-is) (
            one_acted c.args.act.now.matched.now c.args.act.now.atom.now c.args.predicates.now c.args.tables.now
                c.requires.specs c.loop-turn.tables marks place w.act_on.new.table table c.loop-turn.invariant.0 off
                w.index-predicates-place.result
                w.in_ok-act_on.ensures.table w.act_on.ensures.spec,
            one_more_marked places turn place 0 marks (set marks place true) (omega arith) refl c.loop-turn.invariant.1
                (stay_marked marks place) (here_marked marks place (marked_within marks place off)),
          )
      | else-not-is_marked w ↦
          let on : get_or marks place true ≡ true =
          sym c.is_marked.ensures ∙ grind (arith, w.if-not-is_marked.false) in
          rw (w.tables-is, w.marks-is) (
            c.loop-turn.invariant.0,
            one_more_marked places turn place 0 marks marks (omega arith) refl c.loop-turn.invariant.1
                (λ other marked. marked) on,
          )
    ]

-- all of them were
pub returns-clause-all : goal.returns-clause-all
returns-clause-all c =
    let ends = c.loop-turn-test.false in
    all_are_marked c.args.places.now c.loop-turn.turn c.loop-turn.marks (omega (arith, ends)) c.loop-turn.invariant.1
