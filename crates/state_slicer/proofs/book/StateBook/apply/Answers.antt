-- Each way to take an atom is one of the cases of the definition.
use Rattle.std.proofs.Common.{◌∙◌, sym}
use Rattle.state_slicer.proofs.StateBookLemmas.{applies_none, ok_applies_at, ok_applies_first, takes_none, ok_takes_at, ok_takes_first}
use Rattle.state_slicer.proofs.book.StateBook.apply.Goals as goal

pub returns-then-not-has_state-clause-stands : goal.returns-then-not-has_state-clause-stands
returns-then-not-has_state-clause-stands c =
    applies_none c.args.self.now c.args.atom.now (sym c.has_state.ensures ∙ c.if-not-has_state.true)

pub returns-then-not-has_state-clause-state : goal.returns-then-not-has_state-clause-state
returns-then-not-has_state-clause-state c =
    takes_none c.args.self.now c.args.atom.now (sym c.has_state.ensures ∙ c.if-not-has_state.true)

pub returns-in-Some-clause-stands : goal.returns-in-Some-clause-stands
returns-in-Some-clause-stands c =
    ok_applies_at c.args.self.now c.args.atom.now c.tell_at.new.self
    (sym c.has_state.ensures ∙ c.if-not-has_state.false) c.in-Some.place c.tell_at.result c.tell_at.ensures.taken

pub returns-in-Some-clause-state : goal.returns-in-Some-clause-state
returns-in-Some-clause-state c =
    ok_takes_at c.args.self.now c.args.atom.now c.tell_at.new.self
    (sym c.has_state.ensures ∙ c.if-not-has_state.false) c.in-Some.place c.tell_at.result c.tell_at.ensures.taken

pub returns-in-None-clause-stands : goal.returns-in-None-clause-stands
returns-in-None-clause-stands c =
    ok_applies_first c.args.self.now c.args.atom.now c.tell_first.new.self
    (sym c.has_state.ensures ∙ c.if-not-has_state.false) c.tell_first.result c.tell_first.ensures.taken

pub returns-in-None-clause-state : goal.returns-in-None-clause-state
returns-in-None-clause-state c =
    ok_takes_first c.args.self.now c.args.atom.now c.tell_first.new.self
    (sym c.has_state.ensures ∙ c.if-not-has_state.false) c.tell_first.result c.tell_first.ensures.taken
