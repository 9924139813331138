-- Worked histories of pushed gauges, and what reports show of them, by computing.
use Rattle.std.proofs.Common.{◌≡◌, ℕ, ℤ, pos, true, false, List, [], ◌∷◌, map, Option, Some, None, refl}
use Rattle.std.specs.Prelude.{replicate}
use Rattle.atom_record.specs.declared.atom.Atom.{Atom}
use Rattle.atom_record.specs.declared.value.Value.TheVariants.{Int}
use Rattle.bucket_meaning.specs.Kept.{kept}
use Rattle.field_select.specs.declared.leaf.FieldSet.{FieldSet}
use Rattle.config_links.specs.declared.linked.LMetric.{LMetric}
use Rattle.config_links.specs.declared.linked.LKind.TheVariants.{PushedGauge}
use Rattle.metric_producer.specs.declared.row.Row.{Row}
use Rattle.report_writer.specs.AtomMessage.{message_of}
use Rattle.report_writer.specs.declared.tree.AtomBucket.{AtomBucket}
use Rattle.report_writer.specs.declared.tree.GaugeTree.{GaugeTree}
use Rattle.report_writer.specs.declared.tree.Part.{Part}
use Rattle.report_writer.specs.declared.tree.PartBody.TheVariants.{Num}
use Rattle.report_writer.specs.declared.tree.MetricBody.TheVariants.{Gauges}
use Rattle.report_writer.specs.declared.tree.MetricTree.{MetricTree}
use Rattle.metric_kinds.specs.Gauges.{samples_weight}
use Rattle.metric_meaning.specs.Histories.{Step}
use Rattle.metric_meaning.specs.Reports.{metric_tree}
use Rattle.metric_meaning.proofs.WorkedHistories.{under, tick, asked}
use Rattle.metric_meaning.proofs.WorkedMetrics.{no_fields, field_of_5, metric_of, conditioned, switch, holding, pair, meant, told_with, number_leaf}

-- a gauge of all entries or these, in one group, in buckets of 1,000 with so many samples
abbrev sampled : Option FieldSet → ℕ → LMetric
sampled fields samples = metric_of (PushedGauge fields samples) no_fields 1000 800

-- one of all entries by field 1, where a part has room for so many keys
abbrev keyed : ℕ → ℕ → LMetric
keyed samples bound = metric_of (PushedGauge None samples) (field_of_5 1) 1000 bound

-- what a report shows of it, and how many arrivals it dropped
abbrev shown : ℕ → List GaugeTree → MetricTree
shown dropped trees = record {
  id = pos 100;
  base = 0;
  size = 1000;
  dropped = dropped;
  not_kept = 0;
  missing = 0;
  body = Gauges trees;
}

-- the parts of a sample that has a number in field 1, and of one that has numbers in fields 1 and 2
abbrev one_number : ℕ → List Part
one_number n = record { number = 1; body = Num n } ∷ []

abbrev two_numbers : ℕ → ℕ → List Part
two_numbers first second = record { number = 1; body = Num first } ∷ record { number = 2; body = Num second } ∷ []

-- a part with samples of atoms of id 5
abbrev part : ℕ → ℕ → List (List Part) → AtomBucket
part start end samples =
    record { start = start; end = end; atoms = map (λ parts. record { id = 5; parts = parts }) samples }

-- the parts of the one key without dimensions, and of a key of one number
abbrev of_all : List AtomBucket → GaugeTree
of_all parts = record { leaves = []; slices = []; buckets = parts }

abbrev of_key : ℤ → List AtomBucket → GaugeTree
of_key key parts = record { leaves = number_leaf key ∷ []; slices = []; buckets = parts }

-- three atoms, and the end of the bucket
abbrev three : List Step
three = meant 1 (holding (Int (pos 7))) ∷ meant 2 (holding (Int (pos 8))) ∷ meant 3 (holding (Int (pos 9)))
    ∷ tick 1000 ∷ []

-- the first two are sampled, and the third is neither kept nor dropped
first_two : metric_tree (under []) three false 1000 (sampled None 2)
    ≡ shown 0 (of_all (part 0 1000 (one_number 7 ∷ one_number 8 ∷ []) ∷ []) ∷ [])
unfolding message_of
first_two = refl

first_two_with_a_cut : metric_tree (under []) three true 1000 (sampled None 2)
    ≡ shown 0 (of_all (part 0 1000 (one_number 7 ∷ one_number 8 ∷ []) ∷ []) ∷ [])
unfolding message_of
first_two_with_a_cut = refl

-- by the field that they have
first_two_filtered : metric_tree (under []) three false 1000 (sampled (Some (field_of_5 1)) 2)
    ≡ shown 0 (of_all (part 0 1000 (one_number 7 ∷ one_number 8 ∷ []) ∷ []) ∷ [])
unfolding message_of
first_two_filtered = refl

first_two_filtered_with_a_cut : metric_tree (under []) three true 1000 (sampled (Some (field_of_5 1)) 2)
    ≡ shown 0 (of_all (part 0 1000 (one_number 7 ∷ one_number 8 ∷ []) ∷ []) ∷ [])
unfolding message_of
first_two_filtered_with_a_cut = refl

-- one sample of a key is the first
the_first_alone : metric_tree (under []) three false 1000 (sampled None 1)
    ≡ shown 0 (of_all (part 0 1000 (one_number 7 ∷ []) ∷ []) ∷ [])
unfolding message_of
the_first_alone = refl

-- a sample has the entries that are asked for, in the atom's order
filtered_entries : metric_tree (under []) (meant 1 (pair (pos 7) (pos 8)) ∷ []) true 1 (sampled (Some (field_of_5 2)) 2)
    ≡ shown 0 (of_all (part 0 1 ((record { number = 2; body = Num 8 } ∷ []) ∷ []) ∷ []) ∷ [])
unfolding message_of
filtered_entries = refl

-- a sample without entries counts as one: of an atom that has none of the fields, and of one whose id isn't theirs
samples_without_entries : metric_tree (under [])
    (meant 1 (holding (Int (pos 7))) ∷ meant 2 (record { id = 6; fields = [] }) ∷ meant 3 (pair (pos 7) (pos 8)) ∷ [])
    true 3 (sampled (Some (field_of_5 2)) 2)
    ≡ shown 0 (of_all (record {
      start = 0;
      end = 3;
      atoms = record { id = 5; parts = [] } ∷ record { id = 6; parts = [] } ∷ [];
    } ∷ []) ∷ [])
unfolding message_of
samples_without_entries = refl

-- a key that finds no room is dropped at each of its atoms; those past the samples of a key that has room aren't drops
drops_of_keys : metric_tree (under [])
    (meant 1 (pair (pos 8) (pos 1)) ∷ meant 2 (pair (pos 9) (pos 2)) ∷ meant 3 (pair (pos 8) (pos 3))
    ∷ meant 4 (pair (pos 9) (pos 4)) ∷ []) true 4 (keyed 1 1)
    ≡ shown 2 (of_key (pos 8) (part 0 4 (two_numbers 8 1 ∷ []) ∷ []) ∷ [])
unfolding message_of
drops_of_keys = refl

-- drops are told when they come, and samples once their part has closed
drops_of_the_open_part : metric_tree (under [])
    (meant 1 (pair (pos 8) (pos 1)) ∷ meant 2 (pair (pos 9) (pos 2)) ∷ []) false 500 (keyed 1 1) ≡ shown 1 []
drops_of_the_open_part = refl

-- each part samples anew, and admits keys anew; a cut divides a bucket
parts_begin_anew : metric_tree (under [])
    (meant 1 (pair (pos 8) (pos 1)) ∷ meant 2 (pair (pos 8) (pos 2)) ∷ asked 500 true ∷ meant 600 (pair (pos 9) (pos 3))
    ∷ meant 1000 (pair (pos 9) (pos 4)) ∷ []) true 1500 (keyed 1 1)
    ≡ shown 0 (of_key (pos 9)
    (part 500 1000 (two_numbers 9 3 ∷ []) ∷ part 1000 1500 (two_numbers 9 4 ∷ []) ∷ []) ∷ [])
unfolding message_of
parts_begin_anew = refl

-- the atom that starts the condition is sampled, and the one that stops it isn't
under_a_condition : metric_tree (under (switch ∷ []))
    (told_with (true ∷ []) 1 (holding (Int (pos 1))) ∷ told_with (true ∷ true ∷ []) 2 (holding (Int (pos 2)))
    ∷ told_with (true ∷ false ∷ true ∷ []) 3 (holding (Int (pos 3))) ∷ []) true 3 (conditioned (sampled None 10))
    ≡ shown 0 (of_all (part 0 3 (one_number 2 ∷ []) ∷ []) ∷ [])
unfolding message_of
under_a_condition = refl

-- a row of so many samples
abbrev row : ℕ → Row (List Atom)
row samples = record {
  key = record { dims = []; slices = [] };
  start = 0;
  end = 1000;
  value = replicate samples (holding (Int (pos 7)));
}

-- a row weighs its samples: where 10 have room, one of 4 is kept and one of 7 after it isn't, nor is a lighter one then
samples_weigh : kept samples_weight 10 (row 4 ∷ row 7 ∷ row 1 ∷ []) ≡ row 4 ∷ []
samples_weigh = refl
