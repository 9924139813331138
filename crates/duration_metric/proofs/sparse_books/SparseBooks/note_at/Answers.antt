-- The time of the key that was told of a row is put down, if one was.
use Rattle.std.proofs.Common.{map, subst}
use Rattle.std.proofs.lemmas.Result.{on_ok_weaker}
use Rattle.bucket_meaning.specs.Marks.{Came}
use Rattle.duration_metric.specs.SparseBooksStand.{TakesLongestMarks}
use Rattle.duration_metric.proofs.SparseBooksLemmas.{comes}
use Rattle.duration_metric.proofs.sparse_books.SparseBooks.note_at.Goals as goal

pub returns-in-Some : goal.returns-in-Some
returns-in-Some c = on_ok_weaker c.admit_copy.result
    (λ takes. subst (λ ks. TakesLongestMarks c.args.self.now (record c.args.self.now { table = c.admit_copy.new.table })
    (map (λ key. Came (key, c.args.time)) ks)) c.in-Some.ensures
    (comes c.args.self.now c.admit_copy.new.table c.in-Some.out.now c.args.time takes))
    c.admit_copy.ensures

pub returns-in-None : goal.returns-in-None
returns-in-None c =
    subst (λ ks. TakesLongestMarks c.args.self.now c.args.self.now (map (λ key. Came (key, c.args.time)) ks))
    c.in-None.ensures (λ bound books holds. holds)
