-- The list that was found has a name, as it did before.
use Rattle.std.proofs.Common.{◌<◌, ◌==◌, List, length, refl, sym, subst}
use Rattle.std.specs.Prelude.{IsSome}
use Rattle.id_notes.proofs.NoEmptyLemmas.{some_from_any, heard-put, IsHeard}
use Rattle.id_notes.proofs.notes.Notes.note.Goals as goal

pub returns-in_err-insert-clause-none_empty : goal.returns-in_err-insert-clause-none_empty
returns-in_err-insert-clause-none_empty g c kept heard =
    heard-put (λ names. names.keys) (c.args.id == heard) c.insert.new.self _ _
    (((c.get_mut.follows.holds c.insert.new.self).3 (subst IsSome c.in-Some.ensures.value refl)).0 heard)
    (subst (λ (names : List g.row.N.Denot). 0 < length names) (sym c.in_err-insert.ensures.err)
    (subst (IsHeard (λ names. names.keys)) (sym c.in-Some.ensures.value) (kept c.args.id)))
    (kept heard)

pub returns-in-Some-clause-none_empty : goal.returns-in-Some-clause-none_empty
returns-in-Some-clause-none_empty g c kept heard =
    heard-put (λ names. names.keys) (c.args.id == heard) c.insert.new.self _ _
    (((c.get_mut.follows.holds c.insert.new.self).3 (subst IsSome c.in-Some.ensures.value refl)).0 heard)
    (some_from_any (g.N.PartialEq.eq c.args.name) c.insert.new.self.keys c.in_ok-insert.ensures.updates.1)
    (kept heard)
