-- The states of the slices so far.
use Rattle.std.proofs.Common.{◌≡◌, map, take}
use Rattle.config_links.specs.declared.linked.LSlice.{LSlice}
use Rattle.client_engine.proofs.listeners.states_of.Given as goal

abbrev pub invariant-loop-slice : goal.invariant-loop-slice
invariant-loop-slice l = l.list.items ≡ map (λ (slice : LSlice). slice.state) (take l.slice-index l.slices)
