-- A book is built from its table.
use Rattle.std.proofs.lemmas.Result.{err_from_is_err_and}
use Rattle.state_slicer.proofs.StateItemsLemmas.{book_fails, book_built, no_book}
use Rattle.state_slicer.proofs.flat.StateBookFlat.build.Goals as goal

-- no table stands there
pub returns-in_err-ids : goal.returns-in_err-ids
returns-in_err-ids c =
    let p = err_from_is_err_and c.from_residual.result c.from_residual.ensures.1 in
    rw (p.1, p.2) (book_fails c.args.items.now c.args.place c.in_err-ids.field-0.0 c.in_err-ids.ensures)

-- no book has the table that stands there
pub returns-in_default : goal.returns-in_default
returns-in_default c =
    no_book c.args.items.now c.args.place c.in_ok-ids.ids c.in_ok-ids.next c.in_ok-ids.ensures
    c.in_default.ensures.none

-- the book has the table that stands there
pub returns : goal.returns
returns c =
    book_built c.args.items.now c.args.place c.in_ok-ids.ids c.in_ok-ids.next c.in_ok-ids.ensures c.in-Some.book
    c.in-Some.ensures.made.0 c.in-Some.ensures.made.1
