-- A listed key that stays has the count after one more stop.
use Rattle.std.proofs.Common.{◌≡◌, ◌==◌, ◌&&◌, not, false, ap}
use Rattle.std.proofs.lemmas.Result.{on_ok_weaker}
use Rattle.predicate_state.specs.PredicateTable.{PredicateTable}
use Rattle.predicate_state.proofs.PredicateStateLemmas.{stopped, stays_above, stays_unknown}
use Rattle.duration_metric.specs.InnerStands.{kept_spec, state_in}
use Rattle.duration_metric.proofs.InnerLemmas.{changes_by}
use Rattle.duration_metric.proofs.inner.InnerTable.stop.Goals as goal
use Rattle.duration_metric.proofs.inner.InnerTable.stop.Goals.{else-less-eq0-via-then-less-eq0+else-not-self, else-less-eq0-via-else-less-eq0}

pub returns-else-less-eq0 : goal.returns-else-less-eq0
returns-else-less-eq0 c =
    let table : PredicateTable = record { spec = kept_spec c.args.self.now; state = state_in c.args.self.now } in
    let less = c.add_stop-less.result in
    let stays : (less == 0 && not c.args.self.now.unknown) ≡ false =
    elim c.else-less-eq0.branch [
      | else-less-eq0-via-then-less-eq0+else-not-self w ↦
          stays_unknown less c.args.self.now.unknown w.if-not-self.false
      | else-less-eq0-via-else-less-eq0 w ↦ stays_above less c.args.self.now.unknown w.if-less-eq0.false
    ] in
    on_ok_weaker c.set_count.result (changes_by c.args.self.now c.set_count.new.self _ _
    (ap (λ (t : PredicateTable). t.state)
    (stopped table c.args.key.now c.in-Some.place c.in-Some.count c.in-Some.ensures.count c.in-Some.ensures.place less
    c.add_stop-less.ensures stays)))
    c.set_count.ensures
