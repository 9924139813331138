-- No names are distinct.
use Rattle.std.specs.List.{IsDistinct}
use Rattle.id_notes.proofs.notes.Notes.under.Goals as goal

pub returns-in-None-clause-distinct : goal.returns-in-None-clause-distinct
unfolding IsDistinct
returns-in-None-clause-distinct g c = tt

pub returns-then-not-is_marked-clause-distinct : goal.returns-then-not-is_marked-clause-distinct
unfolding IsDistinct
returns-then-not-is_marked-clause-distinct g c = tt
