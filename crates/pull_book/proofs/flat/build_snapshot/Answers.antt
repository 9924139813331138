use Rattle.std.proofs.lemmas.Result.{err_from_is_err_and}
use Rattle.atom_record.specs.AtomSound.{HasNoFault}
use Rattle.flat_form.proofs.FlatLaws.{list_built, count_fails}
use Rattle.pull_book.specs.PullItems.{payload_items}
use Rattle.pull_book.proofs.flat.build_snapshot.Goals as goal

-- no number stands there
pub returns-in_err-count : goal.returns-in_err-count
returns-in_err-count c =
    let p = err_from_is_err_and c.from_residual.result c.from_residual.ensures.1 in
    rw (p.1, p.2) (count_fails HasNoFault payload_items c.args.items.now c.args.place c.in_err-count.field-0.0
    c.in_err-count.ensures)

-- the atoms stand after their number
pub returns : goal.returns
returns c = list_built HasNoFault payload_items c.args.items.now c.args.place c.in_ok-count.count
    c.in_ok-count.middle c.in_ok-count.ensures c.build_atoms.result c.build_atoms.ensures
