-- The list that was found has a name left, or it goes.
use Rattle.std.proofs.Common.{◌==◌, length, refl, subst}
use Rattle.std.specs.Prelude.{IsSome}
use Rattle.id_notes.proofs.NoEmptyLemmas.{some_left, heard-put, heard-taken}
use Rattle.id_notes.proofs.notes.Notes.forget.Goals as goal

pub returns-then-is_empty-clause-none_empty : goal.returns-then-is_empty-clause-none_empty
returns-then-is_empty-clause-none_empty g c kept heard =
    heard-taken (λ names. names.keys) (c.args.id == heard) c.swap_remove.new.self _ _ _
    (c.swap_remove-then-is_empty.ensures.updates.0 heard)
    (((c.get_mut.follows.holds c.swap_remove.new.self).3 (subst IsSome c.in-Some.ensures.value refl)).0 heard)
    (kept heard)

pub returns-else-is_empty-clause-none_empty : goal.returns-else-is_empty-clause-none_empty
returns-else-is_empty-clause-none_empty g c kept heard =
    heard-put (λ names. names.keys) (c.args.id == heard) c.swap_remove.new.self _ _
    (((c.get_mut.follows.holds c.swap_remove.new.self).3 (subst IsSome c.in-Some.ensures.value refl)).0 heard)
    (some_left c.is_empty.result (length c.swap_remove.new.self.keys) c.is_empty.ensures c.if-is_empty.false)
    (kept heard)
