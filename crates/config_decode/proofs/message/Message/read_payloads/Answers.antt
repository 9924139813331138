-- One more record: it is short, as all are, and what it says comes after what the others say.
use Rattle.std.proofs.Common.{List, map, refl, ap, ◌∙◌}
use Rattle.proto_wire.specs.Fields.{FieldOf}
use Rattle.config_decode.specs.Values.{payloads}
use Rattle.config_decode.proofs.ValuesLemmas.{short_at, made_more, all_taken}
use Rattle.config_decode.proofs.message.Message.read_payloads.Goals as goal

pub add_payload-requires : goal.add_payload-requires
add_payload-requires g c =
    let short = short_at c.deref-field-items.result.now c.self.inside.records.items c.loop-field.field-index _
    c.loop-field-test.true c.deref-field-items.ensures.value c.self.invariant in
    λ k. ((refl, tt), short)

pub loop-field-preserved : goal.loop-field-preserved
loop-field-preserved g c =
    made_more c.args.number c.deref-field-items.result.now c.loop-field.field-index _ c.loop-field-test.true
    g.T.FromPayload.said _ _ c.loop-field.invariant c.in_ok-add_payload.ensures

pub returns : goal.returns
returns g c =
    c.loop-field.invariant
    ∙ ap (λ (fields : List FieldOf). map g.T.FromPayload.said (payloads c.args.number fields))
    (all_taken c.deref-field-items.result.now _ c.loop-field.field-index _
    c.deref-field-items.ensures.value c.loop-field-test.false c.self.view_is)
