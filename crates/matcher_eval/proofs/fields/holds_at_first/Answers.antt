use Rattle.std.proofs.Common.{List, ap, ◌∙◌}
use Rattle.std.specs.List.{slice_get}
use Rattle.atom_record.specs.declared.atom.AtomField.{AtomField}
use Rattle.config_types.specs.declared.matcher.Test.TheViews.{out-Test}
use Rattle.matcher_eval.specs.AtomTests.{holds_at_index}
use Rattle.matcher_eval.proofs.PickedLemmas.{holds_at_entry, least_first}
use Rattle.matcher_eval.proofs.fields.holds_at_first.Goals as goal

-- the least index comes first
pub returns : goal.returns
returns c =
    let entries = c.args.entries.now in
    let holds = holds_at_index entries (out-Test c.args.condition.now) in
    c.holds_at.ensures
    ∙ ap (holds_at_entry holds) c.first.ensures.value
    ∙ ap (λ (xs : List AtomField). holds_at_entry holds (slice_get xs 0)) c.repeated.ensures
    ∙ least_first holds entries c.requires
