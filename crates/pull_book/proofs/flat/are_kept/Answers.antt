-- One more row may stand in a book, and at the end all rows were seen.
use Rattle.std.proofs.Common.{sym}
use Rattle.dim_table.proofs.TableItemsLemmas.{valid_more}
use Rattle.pull_book.specs.PullBooks.{IsKeptRow}
use Rattle.pull_book.proofs.flat.are_kept.Goals as goal

-- one more row was seen
pub loop-place-preserved : goal.loop-place-preserved
loop-place-preserved c =
    valid_more IsKeptRow c.args.table.now.rows c.loop-place.place (c.in-Some.id.now, c.in-Some.recorded.now)
    (sym c.in-Some.ensures) c.loop-place.invariant (c.is_kept.ensures.0 c.if-not-is_kept.false)
