-- A book may have the rows that were seen.
use Rattle.std.proofs.Common.{All, take}
use Rattle.pull_book.specs.PullBooks.{IsKeptRow}
use Rattle.pull_book.proofs.flat.are_kept.Given as goal

abbrev pub invariant-loop-place : goal.invariant-loop-place
invariant-loop-place l = All IsKeptRow (take l.place l.table.rows)
