-- One more atom may stand in the snapshot.
use Rattle.std.proofs.Common.{All, sym, subst}
use Rattle.std.proofs.lemmas.List.Elements.{All-push}
use Rattle.pull_book.specs.PullBooks.{IsSnapshotAtom}
use Rattle.pull_book_tests.proofs.tests.builds.pull_of.Goals as goal

pub loop-level-preserved : goal.loop-level-preserved
loop-level-preserved c =
    subst (All (IsSnapshotAtom c.args.id)) (sym c.in_ok-push.ensures.added)
    (All-push (IsSnapshotAtom c.args.id) c.loop-level.atoms c.in_ok-level_of.field-0 c.loop-level.invariant
    c.in_ok-level_of.ensures)
