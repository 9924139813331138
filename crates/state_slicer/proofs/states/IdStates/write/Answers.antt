-- The state that is written is stamped now, so it is known.
use Rattle.std.proofs.Common.{ap, ◌∙◌, to_z-of_z}
use Rattle.dim_table.specs.Table.{with_value_at}
use Rattle.state_slicer.proofs.StampLemmas.{current-written, current-past, stamped-written}
use Rattle.state_slicer.proofs.states.IdStates.write.Goals as goal

pub returns-in_default : goal.returns-in_default
returns-in_default c =
    current-past c.self.inside.resets c.self.inside.keys c.args.place c.args.state c.in_default.ensures.value
    ∙ ap (λ table. with_value_at table c.args.place c.args.state) c.self.view_is

pub invariant_of-self-2 : goal.invariant_of-self-2
invariant_of-self-2 c = stamped-written c.self.inside.resets c.self.inside.keys c.args.place _ c.self.invariant

pub returns : goal.returns
returns c =
    current-written c.self.inside.resets c.self.inside.keys c.args.place _ c.args.state (to_z-of_z c.ranges.state)
    ∙ ap (λ table. with_value_at table c.args.place c.args.state) c.self.view_is
