-- One more reset makes all states unknown; at the count's end they are blank.
use Rattle.std.proofs.Common.{sym, ap, subst, ◌∙◌}
use Rattle.state_slicer.specs.StateTables.{IsStamped, current_table, put_back}
use Rattle.state_slicer.proofs.StampLemmas.{put_back-with_blanks, put_back-later, stamped-with_blanks}
use Rattle.state_slicer.proofs.states.IdStates.reset.Goals as goal

pub invariant_of-self : goal.invariant_of-self
invariant_of-self c = subst (IsStamped 0) (sym c.forget_all.ensures)
    (stamped-with_blanks c.self.inside.resets c.self.inside.keys c.self.invariant)

pub returns-then-self : goal.returns-then-self
returns-then-self c =
    ap (current_table 0) c.forget_all.ensures ∙ put_back-with_blanks c.self.inside.resets c.self.inside.keys
    ∙ ap put_back c.self.view_is

pub returns : goal.returns
returns c =
    put_back-later c.self.inside.resets c.self.inside.keys c.self.invariant ∙ ap put_back c.self.view_is
