-- One place after the other.
use Rattle.std.proofs.Common.{◌+◌, ◌++◌, drop, length, sym, ap, subst, ◌∙◌, arith}
use Rattle.config_links.specs.SoundConfig.{MayBeWithin}
use Rattle.duration_metric.specs.InnerKeys.{inner_keys, last_known}
use Rattle.metric_calls.specs.DurationCalls.{known_in, changes_from}
use Rattle.client_engine.specs.Bringing.{handed_with}
use Rattle.client_engine.specs.Handed.{IsOfScene}
use Rattle.known_conditions.specs.Known.{Known}
use Rattle.client_engine.specs.InnerTold.{fields_in, HasShared}
use Rattle.client_engine.proofs.ChangesLemmas.{first_skipped, all_skipped, places_on, places_all}
use Rattle.client_engine.proofs.InnerAskedLemmas.{asks_first, asks_on, asks_all}
use Rattle.client_engine.proofs.inner.changes_of.Goals as goal

-- the condition is asked of the same predicates
pub add_change-requires : goal.add_change-requires
add_change-requires g c = record {
  within = subst (λ (k : Known). MayBeWithin (length k.predicates) c.args.metric.now.condition)
      (sym c.loop-place.invariant.1) c.requires.within;
  few = let count = c.loop-place-test.true in omega (arith, count, c.len-count.ensures.few);
}

-- where no key is asked, nothing is told
pub returns-then-count-first-clause-changes : goal.returns-then-count-first-clause-changes
returns-then-count-first-clause-changes g c = λ params calls scene stands found keeps.
    let few = c.if-count-first.true in
    let len = c.len-count.ensures.value params calls stands in
    let first = c.first_asked-first.ensures in
    c.new-changes.ensures
    ∙ all_skipped (last_known params.spec calls) (known_in scene c.args.metric.now)
    (fields_in scene c.args.metric.now) c.args.stays
    (inner_keys params.spec calls) (omega (arith, few, len, first)) keeps

-- nothing is told yet
pub loop-place-init : goal.loop-place-init
loop-place-init g c = (
  λ params calls scene stands found keeps.
      let was = last_known params.spec calls in
      let now = known_in scene c.args.metric.now in
      let keys = inner_keys params.spec calls in
      ap (λ l. l ++ changes_from was now c.first_asked-first.result (drop c.first_asked-first.result keys))
      c.new-changes.ensures
      ∙ ap (λ n. changes_from was now n (drop n keys)) c.first_asked-first.ensures
      ∙ sym (first_skipped was now (fields_in scene c.args.metric.now) c.args.stays
      keys keeps),
  c.take_room-room.ensures ∙ c.in_ok-shared.ensures.known,
  asks_first g.K.Inners.stands c.args.keys.now c.args.stays c.first_asked-first.result
      c.len-count.result c.args.asks.now
      c.shared_truth.new.asks (let more = c.if-count-first.false in omega (arith, more)) c.len-count.ensures.value
      c.in_ok-shared.ensures.asks,
)

-- one more place
pub loop-place-preserved : goal.loop-place-preserved
loop-place-preserved g c =
    let same = c.loop-place.invariant.1 in (
      λ params calls scene stands found keeps.
          let was = last_known params.spec calls in
          let now = known_in scene c.args.metric.now in
          let keys = inner_keys params.spec calls in
          places_on was now keys c.loop-place.place c.loop-place.changes c.add_change.new.changes
          (changes_from was now 0 keys) (c.loop-place.invariant.0 params calls scene stands found keeps)
          (c.in_ok-add_change.ensures.adds params calls scene stands
          (subst (λ (k : Known). IsOfScene (handed_with k c.args.brought.now) scene) (sym same) found)
          (subst (λ (k : Known). HasShared k c.args.metric.now c.in_ok-shared.shared) (sym same)
          c.in_ok-shared.ensures.shared) keeps),
      c.in_ok-add_change.ensures.known ∙ same,
      asks_on g.K.Inners.stands c.args.keys.now c.args.stays c.loop-place.place c.len-count.result c.args.asks.now
          c.loop-place.asks c.add_change.new.asks
          (let within = c.loop-place-test.true in omega (arith, within)) c.len-count.ensures.value
          c.loop-place.invariant.2 c.in_ok-add_change.ensures.asks,
    )

-- without memory predicates know the same, too
pub returns-in_err-add_change-clause-known : goal.returns-in_err-add_change-clause-known
returns-in_err-add_change-clause-known g c = c.in_err-add_change.ensures.known ∙ c.loop-place.invariant.1

-- all places
pub returns-clause-changes : goal.returns-clause-changes
returns-clause-changes g c = λ params calls scene stands found keeps.
    let ends = c.loop-place-test.false in
    let len = c.len-count.ensures.value params calls stands in
    places_all (last_known params.spec calls) (known_in scene c.args.metric.now) (inner_keys params.spec calls)
    c.loop-place.place c.loop-place.changes
    (changes_from (last_known params.spec calls) (known_in scene c.args.metric.now) 0 (inner_keys params.spec calls))
    (omega (arith, ends, len)) (c.loop-place.invariant.0 params calls scene stands found keeps)

pub returns-clause-known : goal.returns-clause-known
returns-clause-known g c = c.give_room.ensures ∙ c.loop-place.invariant.1

-- where no key is asked, nothing is
pub returns-then-count-first-clause-asks : goal.returns-then-count-first-clause-asks
returns-then-count-first-clause-asks g c = λ params calls stands. (omega arith, λ all. omega arith)

-- no more than one question for each, and one for all
pub returns-clause-asks : goal.returns-clause-asks
returns-clause-asks g c =
    asks_all g.K.Inners.stands c.args.keys.now c.args.stays c.loop-place.place c.len-count.result c.args.asks.now
    c.loop-place.asks (let ends = c.loop-place.auto in omega (arith, ends)) c.len-count.ensures.value
    c.loop-place.invariant.2

-- also where memory is wanting
pub returns-in_err-add_change-clause-asks : goal.returns-in_err-add_change-clause-asks
returns-in_err-add_change-clause-asks g c =
    let within = c.loop-place-test.true in
    asks_all g.K.Inners.stands c.args.keys.now c.args.stays (c.loop-place.place + 1) c.len-count.result c.args.asks.now
    c.add_change.new.asks (omega (arith, within)) c.len-count.ensures.value
    (asks_on g.K.Inners.stands c.args.keys.now c.args.stays c.loop-place.place c.len-count.result c.args.asks.now
    c.loop-place.asks c.add_change.new.asks (omega (arith, within)) c.len-count.ensures.value
    c.loop-place.invariant.2 c.add_change.ensures.asks)
