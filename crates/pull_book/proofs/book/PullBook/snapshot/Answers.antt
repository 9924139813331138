-- The row of an id has its snapshot, and an id without a row has none.
use Rattle.std.proofs.Common.{◌≡◌, All, Some, slice_get, sym, subst, ap, ◌∙◌}
use Rattle.pull_book.specs.PullBooks.{IsKeptRow}
use Rattle.pull_book.proofs.PullLemmas.{no_snapshot, never_none, snapshot_there, row_kept, atoms_sound, there_in, absent_in}
use Rattle.pull_book.proofs.book.PullBook.snapshot.Goals as goal

pub returns-in_default-clause-answers : goal.returns-in_default-clause-answers
returns-in_default-clause-answers c =
    no_snapshot c.args.self.now c.args.id
    (absent_in c.self.inside.table.rows c.args.self.now c.self.view_is c.from.result c.args.id c.from.ensures
    c.in_default.ensures.absent)

pub returns-in_default-pair-clause-answers : goal.returns-in_default-pair-clause-answers
returns-in_default-pair-clause-answers c frames stands =
    never_none c.args.self.now c.args.id c.in-Some.place
    (there_in c.self.inside.table.rows c.args.self.now c.self.view_is c.from.result c.args.id c.from.ensures
    c.in-Some.place c.in-Some.ensures.there)
    frames (c.in_default-pair.ensures ∙ ap (λ rows. slice_get rows c.in-Some.place) c.self.view_is)

pub returns-clause-answers : goal.returns-clause-answers
returns-clause-answers c frames stands =
    let row : slice_get c.args.self.now c.in-Some.place ≡ Some (c.in-Some-pair._id.now, c.in-Some-pair.recorded.now) =
    ap (λ rows. slice_get rows c.in-Some.place) (sym c.self.view_is) ∙ sym c.in-Some-pair.ensures in
    c.atoms.ensures
    ∙ snapshot_there c.args.self.now c.args.id c.in-Some.place
    (there_in c.self.inside.table.rows c.args.self.now c.self.view_is c.from.result c.args.id c.from.ensures
    c.in-Some.place c.in-Some.ensures.there)
    c.in-Some-pair._id.now c.in-Some-pair.recorded.now row frames stands

pub returns-clause-sound : goal.returns-clause-sound
returns-clause-sound c =
    let row : slice_get c.args.self.now c.in-Some.place ≡ Some (c.in-Some-pair._id.now, c.in-Some-pair.recorded.now) =
    ap (λ rows. slice_get rows c.in-Some.place) (sym c.self.view_is) ∙ sym c.in-Some-pair.ensures in
    let rows : All IsKeptRow c.args.self.now = subst (All IsKeptRow) c.self.view_is c.self.invariant.rows_kept in
    let kept =
    row_kept c.args.self.now c.args.id c.in-Some.place
    (there_in c.self.inside.table.rows c.args.self.now c.self.view_is c.from.result c.args.id c.from.ensures
    c.in-Some.place c.in-Some.ensures.there)
    c.in-Some-pair._id.now c.in-Some-pair.recorded.now row rows in
    atoms_sound c.args.id c.atoms.result c.in-Some-pair.recorded.now c.atoms.ensures kept.1
