-- The count of an id is that of its states; an id that isn't there has none.
use Rattle.std.proofs.Common.{inl, inr, refl, ◌∙◌}
use Rattle.state_slicer.proofs.BookAnswersLemmas.{drops_absent, drops_there}
use Rattle.state_slicer.proofs.book.StateBook.dropped.Goals as goal

pub returns-in_default-clause-answers : goal.returns-in_default-clause-answers
returns-in_default-clause-answers c =
    λ frames stands. drops_absent c.args.self.now c.args.atom_id frames stands c.in_default.ensures.absent

pub returns-in_default-clause-drops : goal.returns-in_default-clause-drops
returns-in_default-clause-drops c = inr (c.in_default.ensures.absent, refl)

pub returns-clause-answers : goal.returns-clause-answers
returns-clause-answers c = λ frames stands. c.drops.ensures
    ∙ drops_there c.args.self.now c.args.atom_id frames stands c.in-Some.states.now c.in-Some.ensures.there

pub returns-clause-drops : goal.returns-clause-drops
returns-clause-drops c = inl (c.in-Some.states.now, c.in-Some.ensures.there, c.drops.ensures)
