use Rattle.std.proofs.Common.{List, length, ap, ◌∙◌}
use Rattle.std.specs.Prelude.{◌-◌}
use Rattle.std.specs.List.{slice_get}
use Rattle.atom_record.specs.declared.atom.AtomField.{AtomField}
use Rattle.config_types.specs.declared.matcher.Test.TheViews.{out-Test}
use Rattle.matcher_eval.specs.AtomTests.{holds_at_index}
use Rattle.matcher_eval.proofs.PickedLemmas.{holds_at_entry, greatest_last}
use Rattle.matcher_eval.proofs.fields.holds_at_last.Goals as goal

-- the greatest index comes last
pub returns : goal.returns
returns c =
    let entries = c.args.entries.now in
    let holds = holds_at_index entries (out-Test c.args.condition.now) in
    c.holds_at.ensures
    ∙ ap (holds_at_entry holds) c.last.ensures.value
    ∙ ap (λ (xs : List AtomField). holds_at_entry holds (slice_get xs (length xs - 1))) c.repeated.ensures
    ∙ greatest_last holds entries c.requires
