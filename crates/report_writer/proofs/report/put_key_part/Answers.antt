-- The field holds whose the report is.
use Rattle.std.proofs.lemmas.Result.{on_ok_weaker}
use Rattle.proto_wire.proofs.FieldLemmas.{field_ended}
use Rattle.report_writer.specs.ReportNumbers.{list_key}
use Rattle.report_writer.proofs.report.put_key_part.Goals as goal

pub returns : goal.returns
returns c =
    on_ok_weaker c.end_field.result
    (field_ended list_key c.in_ok-place.place c.args.out.now c.begin_field.new.self c.put_owner.new.out
    c.end_field.new.self _ c.in_ok-place.ensures.begun c.in_ok-place.ensures.place c.in_ok-put_owner.ensures)
    c.end_field.ensures.counted
