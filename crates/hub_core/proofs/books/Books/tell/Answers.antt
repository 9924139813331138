-- An atom is told, and another frame tells no state.
use Rattle.std.proofs.Common.{refl, sym, subst, ◌++◌, ◌∷◌, []}
use Rattle.std.proofs.lemmas.Result.{on_ok_weaker}
use Rattle.atom_record.specs.declared.log.LogFrame.TheVariants.{Tick, Pull}
use Rattle.state_slicer.specs.StateBooks.{StateBookStandsFor}
use Rattle.hub_core.proofs.BookLemmas.{quiet_states, told_states}
use Rattle.hub_core.proofs.books.Books.tell.Goals as goal

pub returns-in-Tick-clause-states : goal.returns-in-Tick-clause-states
returns-in-Tick-clause-states c = λ log stands.
    subst (λ f. StateBookStandsFor c.args.self.now.states (log ++ f ∷ [])) (sym c.in-Tick.is)
    (quiet_states c.args.self.now.states log (Tick c.in-Tick.at) refl stands)

pub returns-in-AtomAt-clause-states : goal.returns-in-AtomAt-clause-states
returns-in-AtomAt-clause-states c =
    on_ok_weaker c.apply.result
    (told_states c.args.self.now.states c.apply.new.self c.args.frame.now c.in-AtomAt.at c.in-AtomAt.atom
    c.in-AtomAt.is) c.apply.ensures.stands

pub returns-in-Pull-clause-states : goal.returns-in-Pull-clause-states
returns-in-Pull-clause-states c = λ log stands.
    subst (λ f. StateBookStandsFor c.args.self.now.states (log ++ f ∷ [])) (sym c.in-Pull.is)
    (quiet_states c.args.self.now.states log (Pull c.in-Pull.at c.in-Pull.id c.in-Pull.outcome) refl stands)
