-- A new id has a place with the states after its first atom, or is counted.
use Rattle.std.proofs.Common.{◌≡◌, length, sym, subst, ◌∙◌}
use Rattle.state_slicer.specs.StateTables.{TakesAtom}
use Rattle.state_slicer.proofs.BookRowsLemmas.{first_admitted, first_away}
use Rattle.state_slicer.proofs.book.StateBook.tell_first.Goals as goal

pub returns-then-len-eq-MAX_IDS-clause-taken : goal.returns-then-len-eq-MAX_IDS-clause-taken
returns-then-len-eq-MAX_IDS-clause-taken c =
    let full : length c.self.inside.ids.rows ≡ c.self.inside.ids.bound =
    sym c.len.ensures.value ∙ c.if-len-eq-MAX_IDS.true ∙ sym c.self.invariant.bound in
    first_away c.self.inside.ids c.args.self.now c.admit.new.self c.self.view_is c.from.result c.args.atom.now
    c.from.ensures c.requires.absent _ full c.in_ok-_full._full c.in_ok-_full.ensures.answer

pub returns-clause-taken : goal.returns-clause-taken
returns-clause-taken c =
    first_admitted c.self.inside.ids c.args.self.now c.admit-2.new.self c.self.view_is c.from-2.result c.args.atom.now
    c.from-2.ensures c.requires.absent c.take.new.self
    (subst (λ old. TakesAtom old c.take.new.self c.args.atom.now) c.new-states.ensures c.in_ok-take.ensures.taken)
    c.in_ok-_place._place c.in_ok-_place.ensures.answer
