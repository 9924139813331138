-- Worked histories of predicates and conditions, by computing.
use Rattle.std.proofs.Common.{◌≡◌, ℕ, ℤ, pos, Bool, true, false, List, [], ◌∷◌, Option, Some, None, refl}
use Rattle.atom_record.specs.declared.atom.Atom.{Atom}
use Rattle.atom_record.specs.declared.value.Value.TheVariants.{Int}
use Rattle.atom_record.specs.declared.log.LogFrame.TheVariants.{AtomAt}
use Rattle.config_types.specs.declared.matcher.Operation.TheVariants.{Or, Not}
use Rattle.config_types.specs.declared.parameters.PredSpec.{PredSpec}
use Rattle.field_select.specs.declared.leaf.FieldSet.{FieldSet}
use Rattle.config_links.specs.declared.linked.LPredicate.{LPredicate}
use Rattle.config_links.specs.declared.linked.LPredBody.TheVariants.{Simple, Combo}
use Rattle.config_links.specs.declared.linked.LLink.{LLink}
use Rattle.config_links.specs.declared.linked.LMetric.{LMetric}
use Rattle.config_links.specs.declared.linked.LKind.TheVariants.{Count}
use Rattle.metric_producer.specs.declared.row.CountCell.{CountCell}
use Rattle.metric_producer.specs.declared.row.Row.{Row}
use Rattle.metric_meaning.specs.Histories.{Step}
use Rattle.metric_meaning.specs.PredicateSteps.{predicate_drops}
use Rattle.metric_meaning.specs.CountSteps.{counts_shown}
use Rattle.metric_meaning.proofs.WorkedHistories.{logged, asked, under}

-- no fields of an atom
abbrev no_fields : FieldSet
no_fields = record { atom_id = 0; leaves = [] }

-- field 1 of the atoms of an id
abbrev first_field : ℕ → FieldSet
first_field atom_id = record { atom_id = atom_id; leaves = record { field = 1; position = None; sub = 0 } ∷ [] }

-- how a table without dimensions is kept: with nesting or not, unknown at first or not
abbrev plain : Bool → Bool → PredSpec
plain nesting unknown = record { nesting = nesting; unknown = unknown; bound = 800; leaves = 0 }

-- a predicate that the first matcher starts and the second stops
abbrev switched : PredSpec → LPredicate
switched spec = record { id = pos 11; body = Simple (Some 0) (Some 1) None no_fields spec }

-- a metric that counts what the third matcher means, under a condition, in one bucket
abbrev counted : Option ℕ → List LLink → LMetric
counted condition links = record {
  id = pos 100;
  shown = true;
  what = 2;
  condition = condition;
  links = links;
  dims = no_fields;
  size = 1000;
  bound = 800;
  slices = [];
  kind = Count false;
  activations = [];
}

-- an atom without fields
abbrev bare : ℕ → Atom
bare id = record { id = id; fields = [] }

-- an atom that has a number in field 1
abbrev numbered : ℕ → ℤ → Atom
numbered id number =
    record { id = id; fields = record { field = 1; index = 0; sub = 0; flags = 0; value = Int number } ∷ [] }

-- an atom without fields comes, with these truths
abbrev came : ℕ → List Bool → Step
came at truths = logged at (AtomAt at (bare 5)) truths

-- the first matcher's atom, the second's and the third's
abbrev start : ℕ → Step
start at = came at (true ∷ false ∷ false ∷ [])

abbrev stop : ℕ → Step
stop at = came at (false ∷ true ∷ false ∷ [])

abbrev what : ℕ → Step
what at = came at (false ∷ false ∷ true ∷ [])

-- so many were counted from 0 to a time
abbrev row : ℕ → ℕ → Row CountCell
row end count = record {
  key = record { dims = []; slices = [] };
  start = 0;
  end = end;
  value =
      record { number = count; overflow = false };
}

-- two starts and a stop leave it on, where starts are counted
nesting_counted :
    counts_shown (under (switched (plain true false) ∷ [])) (counted (Some 0) []) false
    (start 1 ∷ start 2 ∷ stop 3 ∷ what 4 ∷ []) true 4
    ≡ record { rows = row 4 1 ∷ []; not_kept = 0; dropped = 0; missing = 0 }
nesting_counted = refl

-- and off where they aren't
nesting_not_counted :
    counts_shown (under (switched (plain false false) ∷ [])) (counted (Some 0) []) false
    (start 1 ∷ start 2 ∷ stop 3 ∷ what 4 ∷ []) true 4
    ≡ record { rows = []; not_kept = 0; dropped = 0; missing = 0 }
nesting_not_counted = refl

-- a predicate that the fourth matcher starts
abbrev other : LPredicate
other = record { id = pos 12; body = Simple (Some 3) None None no_fields (plain true false) }

-- one that is unknown until the second matcher stops all its keys
abbrev unsure : LPredicate
unsure = record { id = pos 11; body = Simple (Some 0) None (Some 1) no_fields (plain true true) }

-- what is unknown or true is unknown, and isn't counted; once the one is known to be false, it is
unknown_absorbs :
    counts_shown (under (unsure ∷ other ∷ record { id = pos 13; body = Combo Or (0 ∷ 1 ∷ []) } ∷ []))
    (counted (Some 2) []) false
    (came 1 (false ∷ false ∷ false ∷ true ∷ []) ∷ what 2 ∷ stop 3 ∷ what 4 ∷ []) true 4
    ≡ record { rows = row 4 1 ∷ []; not_kept = 0; dropped = 0; missing = 0 }
unknown_absorbs = refl

-- what isn't known isn't known to be false
not_of_unknown :
    counts_shown (under (unsure ∷ record { id = pos 13; body = Combo Not (0 ∷ []) } ∷ [])) (counted (Some 1) []) false
    (what 1 ∷ stop 2 ∷ what 3 ∷ []) true 3
    ≡ record { rows = row 3 1 ∷ []; not_kept = 0; dropped = 0; missing = 0 }
not_of_unknown = refl

-- a matcher that starts the condition and is counted: the atom sees the condition as it is after itself
what_and_start_in_one_atom :
    counts_shown (under (switched (plain true false) ∷ [])) (counted (Some 0) []) false
    (came 2 (true ∷ false ∷ true ∷ []) ∷ came 3 (true ∷ false ∷ true ∷ []) ∷ []) true 3
    ≡ record { rows = row 3 2 ∷ []; not_kept = 0; dropped = 0; missing = 0 }
what_and_start_in_one_atom = refl

-- a matcher that stops it too comes first
stop_before_start :
    counts_shown (under (switched (plain true false) ∷ [])) (counted (Some 0) []) false
    (came 2 (true ∷ true ∷ true ∷ []) ∷ []) true 2
    ≡ record { rows = []; not_kept = 0; dropped = 0; missing = 0 }
stop_before_start = refl

-- a predicate by field 1 of the atoms of id 5, with room for one key
abbrev by_key : LPredicate
by_key = record {
  id = pos 11;
  body = Simple (Some 0) (Some 1) None (first_field 5)
      (record { nesting = true; unknown = false; bound = 1; leaves = 1 });
}

-- an atom of id 5 with a number starts its key, one stops it, and one of id 6 is counted
abbrev starts : ℕ → ℤ → Step
starts at number = logged at (AtomAt at (numbered 5 number)) (true ∷ false ∷ false ∷ [])

abbrev stops : ℕ → ℤ → Step
stops at number = logged at (AtomAt at (numbered 5 number)) (false ∷ true ∷ false ∷ [])

abbrev counts : ℕ → ℤ → Step
counts at number = logged at (AtomAt at (numbered 6 number)) (false ∷ false ∷ true ∷ [])

-- field 1 of the atom that is counted is the predicate's only leaf
abbrev by_number : LLink
by_number = record { predicate = 0; in_what = first_field 6; places = 0 ∷ [] }

-- the second key finds no room, so it is false later on, and the drop stays in each report
a_drop_changes_later_truth :
    counts_shown (under (by_key ∷ [])) (counted (Some 0) (by_number ∷ [])) false
    (starts 1 (pos 1) ∷ starts 2 (pos 2) ∷ counts 3 (pos 1) ∷ counts 4 (pos 2) ∷ []) true 4
    ≡ record { rows = row 4 1 ∷ []; not_kept = 0; dropped = 0; missing = 0 }
a_drop_changes_later_truth = refl

drops_stay : predicate_drops (switched (plain true false) ∷ by_key ∷ [])
    (starts 1 (pos 1) ∷ starts 2 (pos 2) ∷ asked 2 true ∷ asked 3 true ∷ [])
    ≡ record { id = pos 11; number = 1 } ∷ []
drops_stay = refl

-- without a link some key is enough
any_key :
    counts_shown (under (by_key ∷ [])) (counted (Some 0) []) false (starts 1 (pos 1) ∷ counts 3 (pos 2) ∷ []) true 3
    ≡ record { rows = row 3 1 ∷ []; not_kept = 0; dropped = 0; missing = 0 }
any_key = refl

-- an atom without the field asks for a key that has nothing there
missing_leaf :
    counts_shown (under (by_key ∷ [])) (counted (Some 0) (by_number ∷ [])) false
    (starts 1 (pos 1) ∷ logged 2 (AtomAt 2 (bare 6)) (false ∷ false ∷ true ∷ []) ∷ stops 3 (pos 1)
    ∷ logged 4 (AtomAt 4 (bare 5)) (true ∷ false ∷ false ∷ [])
    ∷ logged 5 (AtomAt 5 (bare 6)) (false ∷ false ∷ true ∷ []) ∷ []) true 5
    ≡ record { rows = row 5 1 ∷ []; not_kept = 0; dropped = 0; missing = 0 }
missing_leaf = refl
