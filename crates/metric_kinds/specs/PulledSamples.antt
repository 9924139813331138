-- What arrives where a pulled gauge takes samples.
use Rattle.std.specs.Prelude.{List, [], ◌∷◌, map, Option, Some, None}
use Rattle.atom_record.specs.declared.atom.Atom.{Atom}
use Rattle.atom_record.specs.declared.value.MetricKey.{MetricKey}
use Rattle.bucket_meaning.specs.Marks.{Mark, Came, Missed}

-- The samples that a snapshot gives, each with its atom's key, in the snapshot's order.
abbrev pub KeyedAtoms : Type 0
KeyedAtoms = List (MetricKey × Atom)

-- what a moment gives: each sample of the snapshot; where there is none, it was missed
abbrev pub sample_marks : Option KeyedAtoms → List (Mark (MetricKey × Atom))
sample_marks None = Missed ∷ []
sample_marks (Some samples) = map Came samples
