-- The field holds the rows.
use Rattle.std.proofs.lemmas.Result.{on_ok_weaker}
use Rattle.proto_wire.proofs.FieldLemmas.{field_ended}
use Rattle.report_writer.proofs.message.put_wrapped.Goals as goal

pub returns : goal.returns
returns g c =
    on_ok_weaker c.end_field.result
    (field_ended c.args.number c.in_ok-place.place c.args.out.now c.begin_field.new.self c.put_messages.new.out
    c.end_field.new.self _ c.in_ok-place.ensures.begun c.in_ok-place.ensures.place c.in_ok-put_messages.ensures)
    c.end_field.ensures.counted
