-- The integers of atoms where a metric of values reads them.
use Rattle.std.specs.Prelude.{ℕ, ℤ, Option}
use Rattle.atom_record.specs.declared.atom.Atom.{Atom}
use Rattle.field_select.specs.declared.leaf.LeafPath.{LeafPath}
use Rattle.field_select.specs.LeafValues.{leaf_value}
use Rattle.metric_kinds.specs.Values.{integer_at}

-- Where a metric reads its values: a leaf of the atoms of an id.
pub record ValueLeaf : Type 0 where
  pub atom_id : ℕ
  pub leaf : LeafPath

-- the integer that an atom has there, if it has one; an atom of another id has none
abbrev pub integer_in : ValueLeaf → Atom → Option ℤ
integer_in source atom = integer_at (leaf_value source.atom_id source.leaf atom)
