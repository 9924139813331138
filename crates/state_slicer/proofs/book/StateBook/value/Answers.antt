-- The state of a key is that in the states of its id; an id that isn't there has none.
use Rattle.std.proofs.Common.{SFits, w32, inl, inr, refl, sym, subst, arith, rules}
use Rattle.std.proofs.lemmas.Int.{ints, to_z-of_z}
use Rattle.state_slicer.specs.StateBooks.{IsStateIn}
use Rattle.state_slicer.proofs.BookAnswersLemmas.{value_absent, value_there, state_by}
use Rattle.state_slicer.proofs.book.StateBook.value.Goals as goal

pub returns-in_default-clause-answers : goal.returns-in_default-clause-answers
returns-in_default-clause-answers c = λ frames stands.
    value_absent c.args.self.now c.args.atom_id frames stands c.args.key.now c.in_default.ensures.absent

pub returns-in_default-clause-state : goal.returns-in_default-clause-state
returns-in_default-clause-state c = inr (c.in_default.ensures.absent, refl)

pub returns-clause-answers : goal.returns-clause-answers
returns-clause-answers c = λ frames stands.
    let is = value_there c.args.self.now c.args.atom_id frames stands c.in-Some.states.now c.in-Some.ensures.there
    c.args.key.now c.value.result c.value.ensures.there c.value.ensures.absent in
    first_of (search (rules, is), search (arith, ints, to_z-of_z, is))

pub returns-clause-state : goal.returns-clause-state
returns-clause-state c =
    let fits : SFits w32 c.value.result = search rules in
    subst (IsStateIn c.args.self.now c.args.atom_id c.args.key.now) (sym (to_z-of_z w32 c.value.result fits))
    (inl (
      c.in-Some.states.now,
      c.in-Some.ensures.there,
      state_by c.in-Some.states.now c.args.key.now c.value.result c.value.ensures.there c.value.ensures.absent,
    ))
