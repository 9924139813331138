-- What is so of the key at the place is told, unless it was told last.
use Rattle.std.proofs.Common.{[], ◌∷◌, ◌++◌, sym, ap, ◌∙◌}
use Rattle.std.proofs.lemmas.Result.{on_ok_weaker}
use Rattle.atom_record.specs.declared.value.MetricKey.{MetricKey}
use Rattle.duration_metric.specs.InnerKeys.{inner_keys, last_known}
use Rattle.metric_calls.specs.DurationCalls.{known_in}
use Rattle.std.specs.Prelude.{slice_get}
use Rattle.metric_meaning.specs.DurationSteps.{inner_fields}
use Rattle.client_engine.specs.Bringing.{handed_with}
use Rattle.known_conditions.specs.Known.{Known}
use Rattle.client_engine.specs.InnerTold.{fields_in}
use Rattle.client_engine.specs.Staying.{is_kept}
use Rattle.client_engine.proofs.ChangesLemmas.{known_there, none_there, kept_told, told_there, new_there}
use Rattle.client_engine.proofs.inner.add_change.Goals as goal

-- no key is there
pub returns-in_default-clause-adds : goal.returns-in_default-clause-adds
returns-in_default-clause-adds g c = λ params calls scene stands found shared keeps.
    none_there (last_known params.spec calls) (known_in scene c.args.asker.now.metric.now) c.args.changes.now
    c.args.place (slice_get (inner_keys params.spec calls) c.args.place)
    (rw (c.in_default.is) at (c.key.ensures params calls stands))

-- all that is so of it stays
pub returns-then-stays_at-clause-adds : goal.returns-then-stays_at-clause-adds
returns-then-stays_at-clause-adds g c = λ params calls scene stands found shared keeps.
    let asker = c.args.asker.now in
    let there = rw (c.in-Some.is) at (c.key.ensures params calls stands) in
    kept_told (last_known params.spec calls) (known_in scene asker.metric.now)
    (fields_in scene asker.metric.now) asker.stays
    (inner_keys params.spec calls) c.args.changes.now c.args.place c.in-Some.key.now keeps there
    (ap (λ ps. is_kept asker.stays c.args.place (inner_fields (slice_get ps asker.metric.now.what)) c.in-Some.key.now)
    (sym found.predicates) ∙ sym c.stays_at.ensures ∙ c.if-stays_at.true)

-- this was told
pub returns-then-was_told-clause-adds : goal.returns-then-was_told-clause-adds
returns-then-was_told-clause-adds g c = λ params calls scene stands found shared keeps.
    let asker = c.args.asker.now in
    let given = handed_with c.args.conditions.now asker.brought.now in
    let there = rw (c.in-Some.is) at (c.key.ensures params calls stands) in
    let fields_are = c.fields_of.ensures
    ∙ ap (λ (k : Known). inner_fields (slice_get k.predicates asker.metric.now.what)) c.in_ok-truth.ensures.known in
    let is = known_there given scene asker.metric.now c.fields_of.result.now c.in-Some.key.now c.in_ok-truth.truth
    c.key_into.new.room.key found fields_are
    (c.in_ok-truth.ensures.truth params calls scene stands found shared keeps there)
    (c.in_ok-key_into.ensures c.args.conditions.now scene found) in
    told_there (last_known params.spec calls) (known_in scene asker.metric.now) c.args.changes.now c.args.place
    (slice_get (inner_keys params.spec calls) c.args.place) c.in-Some.key.now
    (record { truth = c.in_ok-truth.truth; out = c.key_into.new.room.key }) c.was_told.result there is
    (c.was_told.ensures params calls stands) c.if-was_told.true

-- it is told
pub returns-clause-adds : goal.returns-clause-adds
returns-clause-adds g c =
    on_ok_weaker c.push.result
    (λ added params calls scene stands found shared keeps.
    let asker = c.args.asker.now in
    let given = handed_with c.args.conditions.now asker.brought.now in
    let there = rw (c.in-Some.is) at (c.key.ensures params calls stands) in
    let fields_are = c.fields_of.ensures
    ∙ ap (λ (k : Known). inner_fields (slice_get k.predicates asker.metric.now.what)) c.in_ok-truth.ensures.known in
    let is = known_there given scene asker.metric.now c.fields_of.result.now c.in-Some.key.now c.in_ok-truth.truth
    c.key_into.new.room.key found fields_are
    (c.in_ok-truth.ensures.truth params calls scene stands found shared keeps there)
    (c.in_ok-key_into.ensures c.args.conditions.now scene found) in
    new_there (last_known params.spec calls) (known_in scene asker.metric.now) c.args.changes.now c.push.new.self
    c.args.place (slice_get (inner_keys params.spec calls) c.args.place) c.in-Some.key.now
    (record { truth = c.in_ok-truth.truth; out = c.key_into.new.room.key }) c.was_told.result there is
    (c.was_told.ensures params calls stands) c.if-was_told.false
    (added ∙ ap (λ (out : MetricKey). c.args.changes.now
    ++ record { place = c.args.place; truth = c.in_ok-truth.truth; out = out } ∷ []) c.in_ok-out.ensures))
    c.push.ensures.added
