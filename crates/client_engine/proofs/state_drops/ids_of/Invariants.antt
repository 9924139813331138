-- The ids of the states so far, before those of the states that are left.
use Rattle.std.proofs.Common.{◌≡◌, drop}
use Rattle.bucket_meaning.specs.Guard.{firsts}
use Rattle.book_meaning.specs.Snapshots.{same_atom_id}
use Rattle.metric_meaning.specs.StateDrops.{told_ids}
use Rattle.client_engine.proofs.StateDropsLemmas.{ids_in}
use Rattle.client_engine.proofs.state_drops.ids_of.Given as goal

abbrev pub invariant-loop-state : goal.invariant-loop-state
invariant-loop-state l =
    firsts same_atom_id l.ids.items (ids_in (drop l.state-index l.states)) ≡ told_ids l.states
