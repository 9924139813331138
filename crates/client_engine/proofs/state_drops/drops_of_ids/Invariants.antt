-- The drops so far, before those of the ids that are left, whatever log the book stands for.
use Rattle.std.proofs.Common.{◌≡◌, ◌++◌, List, drop}
use Rattle.std.specs.List.{flat_map}
use Rattle.atom_record.specs.declared.log.LogFrame.{LogFrame}
use Rattle.state_slicer.specs.StateBooks.{StateBookStandsFor}
use Rattle.metric_meaning.specs.StateDrops.{drop_of_id}
use Rattle.client_engine.proofs.state_drops.drops_of_ids.Given as goal

abbrev pub invariant-loop-id : goal.invariant-loop-id
invariant-loop-id l = (log : List LogFrame) → StateBookStandsFor l.book log
    → l.drops ++ flat_map (drop_of_id log) (drop l.id-index l.ids) ≡ flat_map (drop_of_id log) l.ids
