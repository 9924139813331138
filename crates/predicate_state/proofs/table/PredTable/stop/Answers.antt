-- A listed key that stays has the count after one more stop.
use Rattle.std.proofs.Common.{◌≡◌, ◌==◌, ◌&&◌, not, false, ap, sym, ◌∙◌}
use Rattle.predicate_state.specs.PredicateStates.{count_after_stop}
use Rattle.predicate_state.specs.PredicateTable.{PredicateTable}
use Rattle.predicate_state.proofs.PredicateStateLemmas.{stopped, stays_above, stays_unknown}
use Rattle.predicate_state.proofs.table.PredTable.stop.Goals as goal
use Rattle.predicate_state.proofs.table.PredTable.stop.Goals.{else-less-eq0-via-then-less-eq0+else-not-self, else-less-eq0-via-else-less-eq0}

pub returns-else-less-eq0-clause-state : goal.returns-else-less-eq0-clause-state
returns-else-less-eq0-clause-state c =
    let less = c.add_stop-less.result in
    let stays : (less == 0 && not c.args.self.now.state.unknown) ≡ false =
    elim c.else-less-eq0.branch [
      | else-less-eq0-via-then-less-eq0+else-not-self w ↦
          stays_unknown less c.args.self.now.state.unknown
          (sym (ap (λ (t : PredicateTable). t.state.unknown) c.self.view_is) ∙ w.if-not-self.false)
      | else-less-eq0-via-else-less-eq0 w ↦ stays_above less c.args.self.now.state.unknown w.if-less-eq0.false
    ] in
    c.set_count.ensures
    ∙ stopped c.args.self.now c.args.key.now c.in-Some.place c.in-Some.count c.in-Some.ensures.count
    c.in-Some.ensures.place less
    (c.add_stop-less.ensures
    ∙ ap (λ (t : PredicateTable). count_after_stop t.spec.nesting c.in-Some.count) c.self.view_is) stays
