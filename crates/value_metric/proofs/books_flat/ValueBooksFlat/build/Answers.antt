-- Books are built from their parts.
use Rattle.std.proofs.Common.{sym}
use Rattle.std.proofs.lemmas.Result.{err_from_is_err_and}
use Rattle.value_metric.proofs.BooksItemsLemmas.{books_fails, books_none, books_built}
use Rattle.value_metric.proofs.books_flat.ValueBooksFlat.build.Goals as goal

-- no such parts stand there
pub returns-in_err-parts : goal.returns-in_err-parts
returns-in_err-parts c =
    let p = err_from_is_err_and c.from_residual.result c.from_residual.ensures.1 in
    rw (p.1, p.2) (books_fails c.args.items.now c.args.place c.in_err-parts.field-0.0 c.in_err-parts.ensures)

-- the parts are those of no books
pub returns-in_default : goal.returns-in_default
returns-in_default c =
    books_none c.args.alloc c.args.items.now c.args.place c.in_ok-parts.parts c.in_ok-parts.next
    c.in_ok-parts.ensures (sym c.in_default.ensures)

-- the books of the parts
pub returns : goal.returns
returns c =
    books_built c.args.alloc c.args.items.now c.args.place c.in_ok-parts.parts c.in_ok-parts.next
    c.in_ok-parts.ensures c.in-Some.books (sym c.in-Some.ensures)
