-- The field holds the fields of the atom.
use Rattle.std.proofs.Common.{◌++◌, ap, ◌∙◌}
use Rattle.std.specs.List.{flat_map}
use Rattle.std.proofs.lemmas.Result.{on_ok_weaker}
use Rattle.proto_wire.proofs.FieldLemmas.{field_ended}
use Rattle.report_writer.specs.ReportSpelling.{part_field, atom_message}
use Rattle.report_writer.proofs.rows.AtomMsgMessage.put_fields.Goals as goal

pub returns : goal.returns
unfolding atom_message
returns c =
    on_ok_weaker c.end_field.result
    (field_ended c.args.self.now.id c.in_ok-place.place c.args.out.now c.begin_field.new.self c.put_parts.new.out
    c.end_field.new.self _ c.in_ok-place.ensures.begun c.in_ok-place.ensures.place
    (c.in_ok-put_parts.ensures
    ∙ ap (λ (parts : _). c.begin_field.new.self ++ flat_map part_field parts) c.as_slice.ensures))
    c.end_field.ensures.counted
