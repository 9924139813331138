-- Whether a simple matcher holds on an atom: its id is the matcher's, and each test of a field holds.
use Rattle.std.specs.Prelude.{ℕ, ℤ, pos, nat_le, Bool, false, not, ◌&&◌, ◌==◌, List, [], ◌∷◌, map, length, min, max, filter, Option, Some, None}
use Rattle.std.specs.List.{fold, list_any, list_all}
use Rattle.atom_record.specs.declared.atom.AtomField.{AtomField}
use Rattle.atom_record.specs.declared.atom.Atom.{Atom}
use Rattle.config_types.specs.declared.fields.Position.{Position}
use Rattle.config_types.specs.declared.fields.Position.TheVariants.{First, Last, Any, All}
use Rattle.config_types.specs.declared.matcher.SimpleMatcher.{SimpleMatcher}
use Rattle.config_types.specs.declared.matcher.FieldTest.{FieldTest}
use Rattle.config_types.specs.declared.matcher.Test.{Test}
use Rattle.config_types.specs.declared.matcher.Test.TheOpen.{Test-F, Tuple}
use Rattle.config_types.specs.declared.matcher.Test.TheViews.{out-Test}
use Rattle.matcher_eval.specs.ValueTests.{value_passes}

-- the number that is set; where none is, 0, which is no number of an atom, of a field or inside a message
abbrev pub number_set : Option ℤ → ℕ
number_set (Some (pos number)) = number
number_set _ = 0

-- the entry is one of this field
abbrev pub is_of_field : ℕ → AtomField → Bool
is_of_field field entry = entry.field == field

-- the entry has this index
abbrev pub is_at_index : ℕ → AtomField → Bool
is_at_index index entry = entry.index == index

-- the entry has an index of a repeated field
abbrev pub is_repeated : AtomField → Bool
is_repeated entry = nat_le 1 entry.index

-- among these entries is one with this sub, and its value passes the condition
abbrev pub passes_at_sub : List AtomField → ℕ → Test-F Test FieldTest → Bool
passes_at_sub entries sub condition =
    list_any (λ entry. (entry.sub == sub) && value_passes condition entry.value) entries

-- the same of a condition that may be missing, and then nothing passes it
abbrev pub passes_if_set : List AtomField → ℕ → Option Test → Bool
passes_if_set entries sub None = false
passes_if_set entries sub (Some condition) = passes_at_sub entries sub (out-Test condition)

-- a test of a tuple holds on the entries of one index
abbrev pub inner_test_holds : List AtomField → FieldTest → Bool
inner_test_holds entries test = passes_if_set entries (number_set test.field) test.test

-- a condition holds on the entries of one index: a tuple by each of its tests, and any other by what stands outside of
-- a message
abbrev pub condition_holds : List AtomField → Test-F Test FieldTest → Bool
condition_holds entries (Tuple tests) = list_all (inner_test_holds entries) tests
condition_holds entries condition = passes_at_sub entries 0 condition

-- a condition holds on those of a field's entries that have this index
abbrev pub holds_at_index : List AtomField → Test-F Test FieldTest → ℕ → Bool
holds_at_index entries condition index = condition_holds (filter (is_at_index index) entries) condition

-- the same of a condition as it is held
abbrev pub condition_holds_at : List AtomField → Test → ℕ → Bool
condition_holds_at entries condition = holds_at_index entries (out-Test condition)

-- the indexes of a field: those of at least 1 at which it has an entry, whatever the sub. One with several entries
-- stands there several times.
abbrev pub tested_indexes : List AtomField → List ℕ
tested_indexes entries = map (λ entry. entry.index) (filter is_repeated entries)

-- the least of some indexes alone, where there is one
abbrev pub least_of : List ℕ → List ℕ
least_of [] = []
least_of (index ∷ more) = fold min index more ∷ []

-- the greatest of some indexes alone, where there is one
abbrev pub greatest_of : List ℕ → List ℕ
greatest_of [] = []
greatest_of (index ∷ more) = fold max index more ∷ []

-- the indexes that a position picks: none of them index 0, FIRST the least of the field's, LAST the greatest, and ANY
-- and ALL each
abbrev pub picked_indexes : Option Position → List ℕ → List ℕ
picked_indexes None indexes = 0 ∷ []
picked_indexes (Some First) indexes = least_of indexes
picked_indexes (Some Last) indexes = greatest_of indexes
picked_indexes (Some Any) indexes = indexes
picked_indexes (Some All) indexes = indexes

-- what holds at each picked index with ALL, if one is picked, and at some picked index with any other position
abbrev pub holds_as_picked : Option Position → List ℕ → (ℕ → Bool) → Bool
holds_as_picked (Some All) picked holds = not (length picked == 0) && list_all holds picked
holds_as_picked position picked holds = list_any holds picked

-- a condition holds on a field's entries at the indexes that a position picks
abbrev pub holds_on_field : List AtomField → Option Position → Test-F Test FieldTest → Bool
holds_on_field entries position condition =
    holds_as_picked position (picked_indexes position (tested_indexes entries)) (holds_at_index entries condition)

-- the same of a condition that may be missing, and then nothing holds
abbrev pub holds_if_set : List AtomField → Option Position → Option Test → Bool
holds_if_set entries position None = false
holds_if_set entries position (Some condition) = holds_on_field entries position (out-Test condition)

-- a test of a field holds on the entries of an atom
abbrev pub field_test_holds : List AtomField → FieldTest → Bool
field_test_holds entries test =
    holds_if_set (filter (is_of_field (number_set test.field)) entries) test.position test.test

-- a simple matcher holds on an atom
abbrev pub matcher_holds : SimpleMatcher → Atom → Bool
matcher_holds matcher atom =
    (atom.id == number_set matcher.atom_id) && list_all (field_test_holds atom.fields) matcher.tests
