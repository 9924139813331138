-- What an atom has at the leaves of a set, the key that this makes, and the entries that the leaves pick.
use Rattle.std.specs.Prelude.{ℕ, Bool, ◌&&◌, ◌==◌, nat_lt, min, max, List, [], ◌∷◌, map, filter, Option, Some, None, if◌then◌else◌}
use Rattle.std.specs.List.{list_any}
use Rattle.config_types.specs.declared.fields.Position.{Position}
use Rattle.config_types.specs.declared.fields.Position.TheVariants as positions
use Rattle.atom_record.specs.declared.value.Value.{Value}
use Rattle.atom_record.specs.declared.value.Leaf.{Leaf}
use Rattle.atom_record.specs.declared.value.Leaf.TheVariants.{Missing, One, Many}
use Rattle.atom_record.specs.declared.atom.Atom.{Atom}
use Rattle.atom_record.specs.declared.atom.AtomField.{AtomField}
use Rattle.field_select.specs.declared.leaf.LeafPath.{LeafPath}
use Rattle.field_select.specs.declared.leaf.FieldSet.{FieldSet}

-- whether an entry is at an index from 1 on of a field, inside a message or not
abbrev pub is_repeated_at : ℕ → AtomField → Bool
is_repeated_at field entry = entry.field == field && nat_lt 0 entry.index

-- the indexes from 1 on at which these have an entry of a field
abbrev pub field_indexes : ℕ → List AtomField → List ℕ
field_indexes field entries = map (λ (entry : AtomField). entry.index) (filter (is_repeated_at field) entries)

-- the lesser of two indexes, of which 0 is none
abbrev pub lesser_index : ℕ → ℕ → ℕ
lesser_index x y = if x == 0 then y else if y == 0 then x else min x y

-- the least of some indexes from 1 on, or 0 where there is none
abbrev pub least_index : List ℕ → ℕ
least_index [] = 0
least_index (x ∷ more) = lesser_index x (least_index more)

-- the greatest of some indexes from 1 on, or 0 where there is none
abbrev pub greatest_index : List ℕ → ℕ
greatest_index [] = 0
greatest_index (x ∷ more) = max x (greatest_index more)

-- whether a position picks an index, of a field that has these: none picks 0, the others one of those from 1 on
abbrev pub picks_index : Option Position → List ℕ → ℕ → Bool
picks_index None indexes index = index == 0
picks_index (Some positions.First) indexes index = nat_lt 0 index && index == least_index indexes
picks_index (Some positions.Last) indexes index = nat_lt 0 index && index == greatest_index indexes
picks_index (Some positions.Any) indexes index = nat_lt 0 index
picks_index (Some positions.All) indexes index = nat_lt 0 index

-- whether a leaf picks an entry of an atom: the index is picked first, and the field of the message looked for there
abbrev pub picks_entry : LeafPath → List AtomField → AtomField → Bool
picks_entry leaf entries entry =
    entry.field == leaf.field
    && (entry.sub == leaf.sub && picks_index leaf.position (field_indexes leaf.field entries) entry.index)

-- the values that a leaf picks, in the atom's order
abbrev pub picked_values : LeafPath → List AtomField → List Value
picked_values leaf entries = map (λ (entry : AtomField). entry.value) (filter (picks_entry leaf entries) entries)

-- what stands at a leaf that picks these values: with ALL they all, else the first
abbrev pub leaf_from : Option Position → List Value → Leaf
leaf_from position [] = Missing
leaf_from (Some positions.All) (value ∷ more) = Many (value ∷ more)
leaf_from position (value ∷ more) = One value

-- what an atom has at a leaf, whatever its id
abbrev pub leaf_in : LeafPath → List AtomField → Leaf
leaf_in leaf entries = leaf_from leaf.position (picked_values leaf entries)

-- the value of a leaf of this kind of atom; an atom of another id has none
abbrev pub leaf_value : ℕ → LeafPath → Atom → Leaf
leaf_value atom_id leaf atom = if atom.id == atom_id then leaf_in leaf atom.fields else Missing

-- the key of an atom: what it has at each leaf, in the order of the leaves
abbrev pub key_of : FieldSet → Atom → List Leaf
key_of set atom = map (λ leaf. leaf_value set.atom_id leaf atom) set.leaves

-- whether some leaf picks an entry of an atom
abbrev pub some_leaf_picks : List LeafPath → List AtomField → AtomField → Bool
some_leaf_picks leaves entries entry = list_any (λ leaf. picks_entry leaf entries entry) leaves

-- the atom with the entries that some leaf picks, in their order; an atom of another id keeps none
abbrev pub filtered : FieldSet → Atom → Atom
filtered set atom = record {
  id = atom.id;
  fields = if atom.id == set.atom_id then filter (some_leaf_picks set.leaves atom.fields) atom.fields else [];
}

-- the first value that a leaf picks
abbrev pub first_value : List Value → Option Value
first_value [] = None
first_value (value ∷ more) = Some value

-- a value, or that there is none, as what stands at a leaf
abbrev pub one_or_missing : Option Value → Leaf
one_or_missing None = Missing
one_or_missing (Some value) = One value
