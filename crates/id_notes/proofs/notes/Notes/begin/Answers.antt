-- The new list has the name.
use Rattle.std.proofs.Common.{◌==◌}
use Rattle.id_notes.proofs.NoEmptyLemmas.{some_from_any, heard-put}
use Rattle.id_notes.proofs.notes.Notes.begin.Goals as goal

pub returns-clause-none_empty : goal.returns-clause-none_empty
returns-clause-none_empty g c kept heard =
    heard-put (λ names. names.keys) (c.args.id == heard) c.insert.new.self _ _
    (c.in_ok-insert-2.ensures.updates.0 heard)
    (some_from_any (g.N.PartialEq.eq c.args.name) c.insert.new.self.keys c.in_ok-insert.ensures.updates.1)
    (kept heard)
