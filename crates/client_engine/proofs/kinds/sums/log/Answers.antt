-- The crossing, then the event, and then what changed.
use Rattle.std.proofs.Common.{refl, sym, subst, ◌∙◌, arith}
use Rattle.std.proofs.lemmas.Result.{on_ok_weaker}
use Rattle.metric_meaning.proofs.TouchedLemmas.{neither}
use Rattle.client_engine.specs.Bringing.{handed_with}
use Rattle.client_engine.specs.Telling.{IsKeyTold}
use Rattle.client_engine.specs.Turning.{IsTurn}
use Rattle.client_engine.specs.declared.stays.Before.{Before}
use Rattle.client_engine.proofs.InnerLemmas.{is_other}
use Rattle.client_engine.proofs.SumsLemmas.{sums_few, sums_pass, sums_untouched, sums_turn}
use Rattle.client_engine.proofs.kinds.sums.log.Goals as goal

-- a frame that isn't an atom brings nothing
pub returns-in_default : goal.returns-in_default
returns-in_default g c =
    let brought = c.args.brought.now in
    let crosses = rw (c.comes_by_pull.ensures, c.time_of-at.ensures) at c.in_ok-cross.ensures in
    record {
      logs = sums_pass (handed_with c.args.conditions.now brought) c.args.metric.now
          brought.frame.now brought.matched.now
          c.args.lane.now c.cross.new.self crosses (is_other brought.frame.now c.in_default.not-AtomAt);
      known = refl;
      asks = λ installed steps frame has may. omega arith;
    }

-- nor does an atom that changes nothing
pub returns-then-not-changes_with : goal.returns-then-not-changes_with
returns-then-not-changes_with g c =
    let brought = c.args.brought.now in
    let crosses = rw (c.comes_by_pull.ensures, c.time_of-at.ensures) at c.in_ok-cross.ensures in
    let off = c.if-not-changes_with.true in
    let says = c.changes_with.ensures in
    let both = neither _ _ (sym says ∙ grind (arith, off)) in
    record {
      logs = sums_untouched (handed_with c.args.conditions.now brought) c.args.metric.now brought.frame.now
          brought.matched.now c.args.lane.now c.cross.new.self crosses c.in-AtomAt.at
          c.in-AtomAt.atom c.in-AtomAt.is both.0
          both.1;
      known = refl;
      asks = λ installed steps frame has may. omega arith;
    }

-- another one acts, and what changed is told after it
pub returns-clause-logs : goal.returns-clause-logs
returns-clause-logs g c =
    let brought = c.args.brought.now in
    let crosses = rw (c.comes_by_pull.ensures, c.time_of-at.ensures) at c.in_ok-cross.ensures in
    let turned = c.in_ok-turn.ensures.known in
    let given = c.give_event.ensures ∙ c.in_ok-event.ensures.known ∙ turned in
    let acts = rw (c.time_of-at.ensures, c.as_ref-came.ensures.value) at c.in_ok-act.ensures in
    let was : Before = record {
      listed = c.inner_len-listed.result;
      turn = c.as_ref-turn.result;
      told = c.as_ref-told.result;
    } in
    on_ok_weaker c.learn.result
    (λ learns. sums_turn (handed_with c.args.conditions.now brought) c.args.metric.now brought.frame.now
    brought.matched.now c.args.lane.now c.cross.new.self crosses c.in-AtomAt.at c.in-AtomAt.atom c.in-AtomAt.is
    c.act.new.lane c.learn.new.lane c.in_ok-event.event was c.stays_with-stays.result c.in_ok-changes.changes acts
    (rw (c.time_of-at.ensures, c.delta_of.ensures, c.is_some-acts.ensures) at learns)
    (rw turned at c.in_ok-event.ensures.event)
    (record {
      listed_there = λ params calls stands.
          c.inner_len-listed.ensures.value params calls (rw (c.producer.ensures) stands);
      turn_there = subst
          (IsTurn c.args.conditions.now.predicates c.args.metric.now brought.matched.now c.in-AtomAt.atom)
          (sym c.as_ref-turn.ensures.value) c.in_ok-turn.ensures.turn;
      told_there = subst
          (IsKeyTold c.args.brought.now.states.now c.args.metric.now.slices c.in-AtomAt.atom)
          (sym c.as_ref-told.ensures.value) c.in_ok-told.ensures;
      stays_there = rw turned at c.stays_with-stays.ensures;
      changes_there = λ params calls scene stands found keeps.
          (rw given at c.in_ok-changes.ensures.changes) params calls scene (rw (c.producer-2.ensures) stands) found
          keeps;
    }))
    c.learn.ensures

-- no more is asked than the atom may cost
pub returns-clause-asks : goal.returns-clause-asks
returns-clause-asks g c =
    let crosses = rw (c.comes_by_pull.ensures, c.time_of-at.ensures) at c.in_ok-cross.ensures in
    let turned = c.in_ok-turn.ensures.known in
    let acts = rw (c.time_of-at.ensures, c.as_ref-came.ensures.value) at c.in_ok-act.ensures in
    let was : Before = record {
      listed = c.inner_len-listed.result;
      turn = c.as_ref-turn.result;
      told = c.as_ref-told.result;
    } in
    let on = c.if-not-changes_with.false in
    let says = c.changes_with.ensures in
    sums_few c.args.metric.now c.args.conditions.now c.args.brought.now c.args.lane.now c.cross.new.self
    c.act.new.lane
    c.in_ok-event.event was c.stays_with-stays.result c.args.asks.now c.changes_of.new.asks
    c.in-AtomAt.at c.in-AtomAt.atom c.in-AtomAt.is crosses acts (rw turned at c.in_ok-event.ensures.event)
    (rw turned at c.stays_with-stays.ensures) (sym says ∙ grind (arith, on))
    (λ params calls stands. c.changes_of.ensures.asks params calls (rw (c.producer-2.ensures) stands))

-- also where memory is wanting
pub returns-in_err-changes-clause-asks : goal.returns-in_err-changes-clause-asks
returns-in_err-changes-clause-asks g c =
    let crosses = rw (c.comes_by_pull.ensures, c.time_of-at.ensures) at c.in_ok-cross.ensures in
    let turned = c.in_ok-turn.ensures.known in
    let acts = rw (c.time_of-at.ensures, c.as_ref-came.ensures.value) at c.in_ok-act.ensures in
    let was : Before = record {
      listed = c.inner_len-listed.result;
      turn = c.as_ref-turn.result;
      told = c.as_ref-told.result;
    } in
    let on = c.if-not-changes_with.false in
    let says = c.changes_with.ensures in
    sums_few c.args.metric.now c.args.conditions.now c.args.brought.now c.args.lane.now c.cross.new.self
    c.act.new.lane
    c.in_ok-event.event was c.stays_with-stays.result c.args.asks.now c.changes_of.new.asks
    c.in-AtomAt.at c.in-AtomAt.atom c.in-AtomAt.is crosses acts (rw turned at c.in_ok-event.ensures.event)
    (rw turned at c.stays_with-stays.ensures) (sym says ∙ grind (arith, on))
    (λ params calls stands. c.changes_of.ensures.asks params calls (rw (c.producer-2.ensures) stands))
