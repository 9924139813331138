-- The keys are those of the table of stamped states.
use Rattle.std.proofs.Common.{◌≢◌, AllPairs, sym, subst, ap, ◌∙◌}
use Rattle.dim_table.specs.Table.{keys}
use Rattle.state_slicer.proofs.StampLemmas.{keys-current}
use Rattle.state_slicer.proofs.states.IdStates.len.Goals as goal

pub returns-clause-distinct : goal.returns-clause-distinct
returns-clause-distinct c =
    subst (AllPairs (λ one other. one ≢ other))
    (sym (ap keys (sym c.self.view_is) ∙ keys-current c.self.inside.resets c.self.inside.keys)) c.len.ensures.distinct
