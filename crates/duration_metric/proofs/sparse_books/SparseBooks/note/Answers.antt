-- What a turn brings is put down.
use Rattle.std.proofs.lemmas.Result.{on_ok_weaker}
use Rattle.duration_metric.proofs.SparseBooksLemmas.{comes, loses}
use Rattle.duration_metric.proofs.sparse_books.SparseBooks.note.Goals as goal

pub returns-in-Lost : goal.returns-in-Lost
returns-in-Lost c = rw c.in-Lost.is (loses c.args.self.now c.saturating_add-self.result c.saturating_add-self.ensures)

pub returns-in-Off : goal.returns-in-Off
returns-in-Off c = rw c.in-Off.is
    (on_ok_weaker c.admit.result (comes c.args.self.now c.admit.new.table c.in-Off.key c.in-Off.time) c.admit.ensures)

pub returns-in-OffAt : goal.returns-in-OffAt
returns-in-OffAt c = rw c.in-OffAt.is c.note_at.ensures
