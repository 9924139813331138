-- One more record: its numbers come after those of the others. In the end they are those of all records.
use Rattle.std.proofs.Common.{ap, ◌∙◌}
use Rattle.config_decode.specs.Values.{numbers}
use Rattle.config_decode.proofs.ValuesLemmas.{numbers_added, all_taken}
use Rattle.config_decode.proofs.message.Message.varints.Goals as goal

pub loop-field-preserved : goal.loop-field-preserved
loop-field-preserved c =
    numbers_added c.args.number c.deref-field-items.result.now c.loop-field.field-index _ c.loop-field-test.true
    _ _ c.loop-field.invariant c.in_ok-add_numbers.ensures

pub returns : goal.returns
returns c =
    c.loop-field.invariant
    ∙ ap (numbers c.args.number) (all_taken c.deref-field-items.result.now _ c.loop-field.field-index _
    c.deref-field-items.ensures.value c.loop-field-test.false c.self.view_is)
