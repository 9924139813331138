-- The ids of the states so far stand behind what was there.
use Rattle.std.proofs.Common.{◌≡◌, ◌++◌, map, take}
use Rattle.config_links.specs.declared.linked.LState.{LState}
use Rattle.heard_ids.proofs.hearing.add_told.Given as goal

abbrev pub invariant-loop-state : goal.invariant-loop-state
invariant-loop-state l =
    l.ids ≡ l.fn.ids ++ map (λ (state : LState). state.atom_id) (take l.state-index l.states)
