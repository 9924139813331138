-- What the worked histories of events, pushed values and pushed gauges share.
use Rattle.std.proofs.Common.{ℕ, ℤ, pos, Bool, true, false, List, [], ◌∷◌, Some, None}
use Rattle.atom_record.specs.declared.atom.Atom.{Atom}
use Rattle.atom_record.specs.declared.atom.AtomField.{AtomField}
use Rattle.atom_record.specs.declared.log.LogFrame.TheVariants.{AtomAt}
use Rattle.atom_record.specs.declared.value.Value.{Value}
use Rattle.atom_record.specs.declared.value.Value.TheVariants.{Int}
use Rattle.field_select.specs.declared.leaf.FieldSet.{FieldSet}
use Rattle.field_select.specs.declared.leaf.LeafPath.{LeafPath}
use Rattle.config_links.specs.declared.linked.LKind.{LKind}
use Rattle.config_links.specs.declared.linked.LMetric.{LMetric}
use Rattle.config_links.specs.declared.linked.LPredicate.{LPredicate}
use Rattle.config_links.specs.declared.linked.LPredBody.TheVariants.{Simple}
use Rattle.report_writer.specs.declared.tree.LeafTree.{LeafTree}
use Rattle.metric_meaning.specs.Histories.{Step}
use Rattle.metric_meaning.proofs.WorkedHistories.{logged}

-- no fields of an atom
abbrev pub no_fields : FieldSet
no_fields = record { atom_id = 0; leaves = [] }

-- a field that isn't repeated
abbrev pub plain_leaf : ℕ → LeafPath
plain_leaf field = record { field = field; position = None; sub = 0 }

-- one field of the atoms of id 5
abbrev pub field_of_5 : ℕ → FieldSet
field_of_5 field = record { atom_id = 5; leaves = plain_leaf field ∷ [] }

-- the metric 100 of a kind, of what the matcher at 0 means, by these dimensions
abbrev pub metric_of : LKind → FieldSet → ℕ → ℕ → LMetric
metric_of kind dims size bound = record {
  id = pos 100;
  shown = true;
  what = 0;
  condition = None;
  links = [];
  dims = dims;
  size = size;
  bound = bound;
  slices = [];
  kind = kind;
  activations = [];
}

-- a metric under the first predicate
abbrev pub conditioned : LMetric → LMetric
conditioned metric = record metric { condition = Some 0 }

-- a predicate that the matcher at 1 starts and the one at 2 stops
abbrev pub switch : LPredicate
switch = record {
  id = pos 11;
  body = Simple (Some 1) (Some 2) None no_fields
      (record { nesting = true; unknown = false; bound = 800; leaves = 0 });
}

-- an entry of a field, plain
abbrev pub entry : ℕ → Value → AtomField
entry field value = record { field = field; index = 0; sub = 0; flags = 0; value = value }

-- an atom of id 5 whose field 1 is this value
abbrev pub holding : Value → Atom
holding value = record { id = 5; fields = entry 1 value ∷ [] }

-- an atom of id 5 whose fields 1 and 2 are these numbers
abbrev pub pair : ℤ → ℤ → Atom
pair first second = record { id = 5; fields = entry 1 (Int first) ∷ entry 2 (Int second) ∷ [] }

-- an atom comes, with these truths
abbrev pub told_with : List Bool → ℕ → Atom → Step
told_with truths at atom = logged at (AtomAt at atom) truths

-- an atom comes, which the matcher at 0 means; and one that it doesn't
abbrev pub meant : ℕ → Atom → Step
meant = told_with (true ∷ [])

abbrev pub unmeant : ℕ → Atom → Step
unmeant = told_with (false ∷ [])

-- the leaf of a key of one number
abbrev pub number_leaf : ℤ → LeafTree
number_leaf number = record { place = 0; value = Some (Int number) }
