-- What the worked histories of pulled metrics are made of.
use Rattle.std.proofs.Common.{ℕ, ℤ, pos, true, false, List, [], ◌∷◌, Option, Some, None}
use Rattle.atom_record.specs.declared.atom.Atom.{Atom}
use Rattle.atom_record.specs.declared.atom.AtomField.{AtomField}
use Rattle.atom_record.specs.declared.value.Value.{Value}
use Rattle.atom_record.specs.declared.value.Value.TheVariants.{Int, Long}
use Rattle.atom_record.specs.declared.value.MetricKey.{MetricKey}
use Rattle.atom_record.specs.declared.value.Leaf.TheVariants.{One}
use Rattle.atom_record.specs.declared.log.LogFrame.{LogFrame}
use Rattle.atom_record.specs.declared.log.LogFrame.TheVariants.{AtomAt, Pull}
use Rattle.atom_record.specs.declared.log.PullOutcome.TheVariants.{Atoms, Failed}
use Rattle.field_select.specs.declared.leaf.FieldSet.{FieldSet}
use Rattle.config_types.specs.declared.matcher.FieldTest.{FieldTest}
use Rattle.config_links.specs.declared.linked.LMatcher.{LMatcher}
use Rattle.config_links.specs.declared.linked.LMatcher.TheVariants as matchers
use Rattle.config_links.specs.declared.linked.LPredicate.{LPredicate}
use Rattle.config_links.specs.declared.linked.LPredBody.TheVariants as bodies
use Rattle.config_links.specs.declared.linked.LMetric.{LMetric}
use Rattle.config_links.specs.declared.linked.LKind.{LKind}
use Rattle.metric_meaning.specs.Histories.{Step, Installation}
use Rattle.metric_meaning.proofs.WorkedHistories.{logged}

-- an entry without flags
abbrev pub entry : ℕ → Value → AtomField
entry field value = record { field = field; index = 0; sub = 0; flags = 0; value = value }

-- an atom of the id 10001 with a number in its field 1
abbrev pub told : ℤ → Atom
told number = record { id = 10001; fields = entry 1 (Long number) ∷ [] }

-- one that has a key in its field 2 as well
abbrev pub keyed : ℕ → ℤ → Atom
keyed key number = record { id = 10001; fields = entry 1 (Long number) ∷ entry 2 (Int (pos key)) ∷ [] }

-- a pull of the id 10001 that gave these atoms, and one that failed
abbrev pub gave : ℕ → List Atom → LogFrame
gave at atoms = Pull at 10001 (Atoms atoms)

abbrev pub failed : ℕ → Step
failed at = logged at (Pull at 10001 Failed) []

-- a pull that gave these atoms, or one atom with a number, as a step
abbrev pub pulled_all : ℕ → List Atom → Step
pulled_all at atoms = logged at (gave at atoms) []

abbrev pub pulled : ℕ → ℤ → Step
pulled at number = pulled_all at (told number ∷ [])

-- field 2 of the atoms of the id 10001, and no field
abbrev pub by_key : FieldSet
by_key = record { atom_id = 10001; leaves = record { field = 2; position = None; sub = 0 } ∷ [] }

abbrev pub by_none : FieldSet
by_none = record { atom_id = 0; leaves = [] }

-- the metric 100 of what the first matcher means, of a kind, under the first predicate or always, by a key, with this
-- length of its buckets and so many keys in each
abbrev pub metric_of : Option ℕ → FieldSet → ℕ → ℕ → LKind → LMetric
metric_of condition dims size bound kind = record {
  id = pos 100;
  shown = true;
  what = 0;
  condition = condition;
  links = [];
  dims = dims;
  size = size;
  bound = bound;
  slices = [];
  kind = kind;
  activations = [];
}

-- a matcher of an id with these tests of fields
abbrev pub of_id : ℤ → List FieldTest → LMatcher
of_id id tests = matchers.Simple (record { atom_id = Some id; tests = tests })

-- the predicate 11, which the second matcher starts and the third stops
abbrev pub switch : LPredicate
switch = record {
  id = pos 11;
  body = bodies.Simple (Some 1) (Some 2) None by_none
      (record { nesting = false; unknown = false; bound = 800; leaves = 0 });
}

-- what is installed at a clock after this log: the first matcher is this one, and the one predicate stands there
abbrev pub watching : ℕ → List LogFrame → LMatcher → Installation
watching base opening matcher = record {
  base = base;
  opening = opening;
  linked = record {
    matchers = matcher ∷ of_id (pos 5) [] ∷ of_id (pos 6) [] ∷ of_id (pos 7) [] ∷ [];
    predicates = switch ∷ [];
    states = [];
    metrics = [];
    alerts = [];
  };
}

-- the same, of all atoms of the id 10001, at the clock 0
abbrev pub after_pulls : List LogFrame → Installation
after_pulls opening = watching 0 opening (of_id (pos 10001) [])

-- an atom of the id 5 starts the predicate, one of 6 stops it, and one of 7 is what the fourth matcher means
abbrev pub starts : ℕ → Step
starts at = logged at (AtomAt at (record { id = 5; fields = [] })) (false ∷ true ∷ false ∷ false ∷ [])

abbrev pub stops : ℕ → Step
stops at = logged at (AtomAt at (record { id = 6; fields = [] })) (false ∷ false ∷ true ∷ false ∷ [])

abbrev pub triggers : ℕ → Step
triggers at = logged at (AtomAt at (record { id = 7; fields = [] })) (false ∷ false ∷ false ∷ true ∷ [])

-- the key of an atom, with a number in field 2 or without dimensions
abbrev pub key : ℕ → MetricKey
key number = record { dims = One (Int (pos number)) ∷ []; slices = [] }

abbrev pub no_key : MetricKey
no_key = record { dims = []; slices = [] }
