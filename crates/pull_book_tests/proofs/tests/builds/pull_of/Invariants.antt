-- The atoms so far may stand in a snapshot.
use Rattle.std.proofs.Common.{All}
use Rattle.pull_book.specs.PullBooks.{IsSnapshotAtom}
use Rattle.pull_book_tests.proofs.tests.builds.pull_of.Given as goal

abbrev pub invariant-loop-level : goal.invariant-loop-level
invariant-loop-level l = All (IsSnapshotAtom l.id) l.atoms
