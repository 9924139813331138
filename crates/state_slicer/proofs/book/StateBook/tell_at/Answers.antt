-- States that took the atom stand at their place; where they could not, the table is as before.
use Rattle.state_slicer.proofs.BookRowsLemmas.{err_same, ok_taken_at}
use Rattle.state_slicer.proofs.StateItemsLemmas.{fits-written}
use Rattle.state_slicer.proofs.book.StateBook.tell_at.Goals as goal

pub invariant_of-self-2 : goal.invariant_of-self-2
invariant_of-self-2 c = fits-written c.self.inside.ids c.args.place _ c.self.invariant

pub returns-clause-taken : goal.returns-clause-taken
returns-clause-taken c =
    ok_taken_at c.self.inside.ids c.args.self.now c.self.view_is c.args.place c.args.atom.now c.requires.there
    c.in-Some.states.now c.take.new.self c.in-Some.ensures.value c.take.result c.take.ensures.taken

pub returns-clause-err : goal.returns-clause-err
returns-clause-err c =
    err_same c.self.inside.ids c.args.self.now c.self.view_is c.args.place c.in-Some.states.now c.take.new.self
    c.in-Some.ensures.value c.take.result c.take.ensures.err
