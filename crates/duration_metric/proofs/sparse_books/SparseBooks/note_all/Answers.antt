-- What each row brings is put down in its turn.
use Rattle.std.proofs.Common.{subst}
use Rattle.duration_metric.specs.SparseBooksStand.{TakesLongestMarks}
use Rattle.duration_metric.proofs.SparseTurnLemmas.{notes_next}
use Rattle.duration_metric.proofs.sparse_books.SparseBooks.note_all.Goals as goal

pub loop-key-preserved : goal.loop-key-preserved
loop-key-preserved c =
    notes_next c.args.at c.args.self.now c.loop-key.self c.note.new.self c.into_iter-key-iterator.result
    c.loop-key.invariant.0 c.loop-key._key-iterator c.next.new.self (c.in-Some._key, c.in-Some.entry)
    c.loop-key.invariant.1 c.loop-key.invariant.2 c.in-Some.ensures.steps
    (subst (TakesLongestMarks c.loop-key.self c.note.new.self) (c.leave.ensures c.args.keys.now.rows)
    c.in_ok-note.ensures)
