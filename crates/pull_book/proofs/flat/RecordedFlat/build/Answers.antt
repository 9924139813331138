-- An outcome is built from its number, and its atoms if it has some.
use Rattle.std.proofs.lemmas.Result.{err_from_is_err_and}
use Rattle.pull_book.proofs.PullItemsLemmas.{kind_fails, snapshot_built, snapshot_fails}
use Rattle.pull_book.proofs.flat.RecordedFlat.build.Goals as goal

-- no number stands there
pub returns-in_err-kind : goal.returns-in_err-kind
returns-in_err-kind c =
    let p = err_from_is_err_and c.from_residual.result c.from_residual.ensures.1 in
    rw (p.1, p.2) (kind_fails c.args.items.now c.args.place c.in_err-kind.field-0.0 c.in_err-kind.ensures)

-- no atoms stand after the number 1
pub returns-in_err-atoms-in-1 : goal.returns-in_err-atoms-in-1
returns-in_err-atoms-in-1 c =
    let p = err_from_is_err_and c.from_residual-in_err-atoms-in-1.result
    c.from_residual-in_err-atoms-in-1.ensures.1 in
    rw (p.1, p.2) (snapshot_fails c.args.items.now c.args.place c.in_ok-kind.kind c.in_ok-kind.middle
    c.in_ok-kind.ensures c.in-1.is c.in_err-atoms-in-1.field-0.0 c.in_err-atoms-in-1.ensures)

-- atoms stand after the number 1
pub returns-in_ok-atoms-in-1 : goal.returns-in_ok-atoms-in-1
returns-in_ok-atoms-in-1 c =
    rw c.new-in-1.ensures (snapshot_built c.args.items.now c.args.place c.in_ok-kind.kind c.in_ok-kind.middle
    c.in_ok-kind.ensures c.in-1.is c.in_ok-atoms-in-1.atoms c.in_ok-atoms-in-1.next c.in_ok-atoms-in-1.ensures)
