-- A new key has a place, or is counted.
use Rattle.std.proofs.Common.{sym, subst, to_z-of_z}
use Rattle.dim_table.specs.Table.{keys}
use Rattle.std.proofs.Common.{Contains}
use Rattle.state_slicer.specs.StateTables.{IsTold, current_table}
use Rattle.state_slicer.proofs.StampLemmas.{current-admits}
use Rattle.state_slicer.proofs.states.IdStates.append.Goals as goal

pub returns-clause-told : goal.returns-clause-told
returns-clause-told c =
    subst (λ old. IsTold old (current_table c.self.inside.resets c.admit.new.self) c.args.key c.args.state)
    c.self.view_is
    (current-admits c.self.inside.resets c.self.inside.keys c.admit.new.self c.args.key _ c.args.state
    (to_z-of_z c.ranges.state)
    (subst (λ table. ¬ Contains (keys table) c.args.key) (sym c.self.view_is) c.requires)
    c.in_ok-_answer._answer c.in_ok-_answer.ensures.answer)
