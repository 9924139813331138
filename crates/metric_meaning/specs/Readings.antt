-- What the values of fields are read from: an atom, or a key whose values are those of known fields.
use Rattle.std.specs.Prelude.{List}
use Rattle.atom_record.specs.declared.atom.Atom.{Atom}
use Rattle.atom_record.specs.declared.value.Leaf.{Leaf}
use Rattle.field_select.specs.declared.leaf.FieldSet.{FieldSet}
use Rattle.field_select.specs.LeafValues.{key_of}
use Rattle.condition_links.specs.LinkBinds.{key_values_at}

-- the values at the fields of any set, in the set's order
abbrev pub LeafReading : Type 0
LeafReading = FieldSet → List Leaf

-- those that an atom has
abbrev pub atom_reading : Atom → LeafReading
atom_reading atom = λ set. key_of set atom

-- those that a key has, whose values are those of the fields of this set
abbrev pub key_reading : FieldSet → List Leaf → LeafReading
key_reading inner key = λ set. key_values_at inner key set
