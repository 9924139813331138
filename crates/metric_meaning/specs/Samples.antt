-- What is sampled of an atom.
use Rattle.std.specs.Prelude.{Option, Some, None}
use Rattle.atom_record.specs.declared.atom.Atom.{Atom}
use Rattle.field_select.specs.declared.leaf.FieldSet.{FieldSet}
use Rattle.field_select.specs.LeafValues.{filtered}

-- the sample of an atom: all its entries, or those of these fields alone, which may be none
abbrev pub sample_of : Option FieldSet → Atom → Atom
sample_of None atom = atom
sample_of (Some fields) atom = filtered fields atom
