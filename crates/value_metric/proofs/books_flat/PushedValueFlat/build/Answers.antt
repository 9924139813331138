-- A producer of pushed values is built from its books.
use Rattle.std.proofs.lemmas.Result.{err_from_is_err_and}
use Rattle.value_metric.proofs.BooksItemsLemmas.{pushed_value_fails, pushed_value_built}
use Rattle.value_metric.proofs.books_flat.PushedValueFlat.build.Goals as goal

-- no books stand there
pub returns-in_err-books : goal.returns-in_err-books
returns-in_err-books c =
    let p = err_from_is_err_and c.from_residual.result c.from_residual.ensures.1 in
    rw (p.1, p.2) (pushed_value_fails c.args.items.now c.args.place c.in_err-books.field-0.0 c.in_err-books.ensures)

-- the producer of the books
pub returns : goal.returns
returns c =
    pushed_value_built c.args.items.now c.args.place c.in_ok-books.books c.in_ok-books.next c.in_ok-books.ensures
