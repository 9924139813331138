-- The fields that entries make have numbers that a field may have; of an atom that has no fault they never fall.
use Rattle.std.proofs.Common.{None, subst, sym, ap, ◌∙◌}
use Rattle.report_writer.specs.AtomMessage.{parts_after, NeverFall}
use Rattle.report_writer.specs.Writable.{AreNumbered}
use Rattle.report_writer.proofs.AtomMessageLemmas.{is_field_number, parts_numbered, parts_never_fall}
use Rattle.report_writer.proofs.atom.atom_msg.Goals as goal

pub returns-clause-writable : goal.returns-clause-writable
returns-clause-writable c =
    let parts = c.from_vec.ensures ∙ c.in_ok-parts.ensures ∙ ap (parts_after None) c.as_slice.ensures in
    record {
      id = rw c.as_field_number.ensures (is_field_number c.args.atom.now.id);
      parts = subst AreNumbered (sym parts) (parts_numbered None c.args.atom.now.fields);
    }

pub returns-clause-order : goal.returns-clause-order
returns-clause-order c = λ sound.
    let parts = c.from_vec.ensures ∙ c.in_ok-parts.ensures ∙ ap (parts_after None) c.as_slice.ensures in
    subst NeverFall (sym parts) (parts_never_fall None c.args.atom.now.fields sound.entries.rising)
