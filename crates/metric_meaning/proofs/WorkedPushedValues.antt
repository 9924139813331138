-- Worked histories of metrics of pushed values, and what reports show of them, by computing.
use Rattle.std.proofs.Common.{◌≡◌, ℕ, ℤ, pos, negsuc, ◌-◌, ◌^◌, true, false, List, [], ◌∷◌, ◌++◌, Some, None, refl}
use Rattle.atom_record.specs.declared.atom.Atom.{Atom}
use Rattle.atom_record.specs.declared.value.Value.TheVariants.{Int, Long, Bool, Str, Raw, Bits32}
use Rattle.atom_record.specs.declared.value.Slice.TheVariants.{Plain}
use Rattle.config_types.specs.declared.fields.Position.TheVariants.{First, Last}
use Rattle.config_types.specs.declared.metric.Aggregation.{Aggregation}
use Rattle.config_types.specs.declared.metric.Aggregation.TheVariants.{Sum, Min, Max}
use Rattle.config_links.specs.declared.linked.LMetric.{LMetric}
use Rattle.config_links.specs.declared.linked.LKind.TheVariants.{PushedValue}
use Rattle.report_writer.specs.declared.tree.NumBucket.{NumBucket}
use Rattle.report_writer.specs.declared.tree.NumTree.{NumTree}
use Rattle.report_writer.specs.declared.tree.MetricBody.TheVariants.{Values}
use Rattle.report_writer.specs.declared.tree.MetricTree.{MetricTree}
use Rattle.metric_meaning.specs.Histories.{Step}
use Rattle.metric_meaning.specs.Reports.{metric_tree}
use Rattle.metric_meaning.proofs.WorkedHistories.{under, logged, tick, pull, asked}
use Rattle.metric_meaning.proofs.WorkedStates.{beside, screen, screen_is}
use Rattle.metric_meaning.proofs.WorkedMetrics.{no_fields, plain_leaf, field_of_5, metric_of, conditioned, switch, entry, holding, pair, meant, told_with, number_leaf}

-- a metric of what field 1 of the atoms of id 5 holds, in one group, in buckets of 1,000
abbrev valued : Aggregation → LMetric
valued aggregation = metric_of (PushedValue 5 (plain_leaf 1) aggregation) no_fields 1000 800

-- one of field 2 by field 1, where a part has room for so many keys
abbrev keyed : Aggregation → ℕ → LMetric
keyed aggregation bound = metric_of (PushedValue 5 (plain_leaf 2) aggregation) (field_of_5 1) 1000 bound

-- what a report shows of it, and how many arrivals it dropped
abbrev shown : ℕ → List NumTree → MetricTree
shown dropped trees = record {
  id = pos 100;
  base = 0;
  size = 1000;
  dropped = dropped;
  not_kept = 0;
  missing = 0;
  body = Values trees;
}

-- a part with a value
abbrev part : ℕ → ℕ → ℤ → NumBucket
part start end value = record { start = start; end = end; value = value }

-- the parts of the one key without dimensions, and of a key of one number
abbrev of_all : List NumBucket → NumTree
of_all parts = record { leaves = []; slices = []; overflow = false; buckets = parts }

abbrev of_key : ℤ → List NumBucket → NumTree
of_key key parts = record { leaves = number_leaf key ∷ []; slices = []; overflow = false; buckets = parts }

-- the greatest number of 64 bits, and then 1, and a text
abbrev three : List Step
three = meant 1 (holding (Long (pos (2 ^ 63 - 1)))) ∷ meant 2 (holding (Int (pos 1)))
    ∷ meant 3 (holding (Str (120 ∷ []))) ∷ tick 1000 ∷ []

-- a sum ends where a number of 64 bits does, and a text is no number
sum_of_three : metric_tree (under []) three false 1000 (valued Sum)
    ≡ shown 0 (of_all (part 0 1000 (pos (2 ^ 63 - 1)) ∷ []) ∷ [])
sum_of_three = refl

sum_with_a_cut : metric_tree (under []) three true 1000 (valued Sum)
    ≡ shown 0 (of_all (part 0 1000 (pos (2 ^ 63 - 1)) ∷ []) ∷ [])
sum_with_a_cut = refl

-- the least of them
least_of_three : metric_tree (under []) three false 1000 (valued Min) ≡ shown 0 (of_all (part 0 1000 (pos 1) ∷ []) ∷ [])
least_of_three = refl

least_with_a_cut : metric_tree (under []) three true 1000 (valued Min)
    ≡ shown 0 (of_all (part 0 1000 (pos 1) ∷ []) ∷ [])
least_with_a_cut = refl

-- a sum is exact before it is shown: past the greatest number and back again it is what it should be
exact_between : metric_tree (under [])
    (meant 1 (holding (Long (pos (2 ^ 63 - 1)))) ∷ meant 2 (holding (Long (pos (2 ^ 63 - 1))))
    ∷ meant 3 (holding (Long (negsuc (2 ^ 63 - 1)))) ∷ []) true 3 (valued Sum)
    ≡ shown 0 (of_all (part 0 3 (pos (2 ^ 63 - 2)) ∷ []) ∷ [])
exact_between = refl

-- below the least number it is shown as that
least_number : metric_tree (under [])
    (meant 1 (holding (Long (negsuc (2 ^ 63 - 1)))) ∷ meant 2 (holding (Int (negsuc 0))) ∷ []) true 2 (valued Sum)
    ≡ shown 0 (of_all (part 0 2 (negsuc (2 ^ 63 - 1)) ∷ []) ∷ [])
least_number = refl

-- negative numbers: the least is the one furthest below 0, and the greatest is one of them too
least_and_greatest_below_0 : metric_tree (under [])
    (meant 1 (holding (Int (negsuc 4))) ∷ meant 2 (holding (Long (negsuc 1))) ∷ meant 3 (holding (Int (negsuc 2))) ∷ [])
    true 3 (valued Max) ≡ shown 0 (of_all (part 0 3 (negsuc 1) ∷ []) ∷ [])
least_and_greatest_below_0 = refl

-- truths, texts, bytes, floats and absent fields don't arrive: no row, and no place that another key would want
no_integers : metric_tree (under [])
    (meant 1 (record { id = 5; fields = entry 1 (Int (pos 8)) ∷ entry 2 (Bool true) ∷ [] })
    ∷ meant 2 (record { id = 5; fields = entry 1 (Int (pos 8)) ∷ entry 2 (Raw (7 ∷ [])) ∷ [] })
    ∷ meant 3 (record { id = 5; fields = entry 1 (Int (pos 8)) ∷ entry 2 (Bits32 7) ∷ [] })
    ∷ meant 4 (holding (Int (pos 8)))
    ∷ meant 5 (pair (pos 9) (pos 4)) ∷ []) true 5 (keyed Sum 1)
    ≡ shown 0 (of_key (pos 9) (part 0 5 (pos 4) ∷ []) ∷ [])
no_integers = refl

-- nor does an atom of another id than the field's, though the matcher means it
another_atom : metric_tree (under []) (meant 1 (record { id = 6; fields = entry 1 (Int (pos 8)) ∷ [] }) ∷ []) true 1
    (valued Sum) ≡ shown 0 []
another_atom = refl

-- a 0 arrives like others: it is shown, and takes a key's place
zero_arrives : metric_tree (under [])
    (meant 1 (pair (pos 8) (pos 0)) ∷ meant 2 (pair (pos 9) (pos 4)) ∷ meant 3 (pair (pos 9) (pos 5)) ∷ []) true 3
    (keyed Sum 1) ≡ shown 2 (of_key (pos 8) (part 0 3 (pos 0) ∷ []) ∷ [])
zero_arrives = refl

-- each part begins anew, with its keys and its values; a cut divides a bucket
parts_begin_anew : metric_tree (under [])
    (meant 1 (pair (pos 8) (pos 1)) ∷ meant 2 (pair (pos 9) (pos 2)) ∷ asked 500 true ∷ meant 600 (pair (pos 9) (pos 3))
    ∷ meant 1000 (pair (pos 9) (pos 4)) ∷ meant 1001 (pair (pos 8) (pos 5)) ∷ []) true 1500 (keyed Sum 1)
    ≡ shown 1 (of_key (pos 9) (part 500 1000 (pos 3) ∷ part 1000 1500 (pos 4) ∷ []) ∷ [])
parts_begin_anew = refl

-- drops are told when they come, and rows once their part has closed: a report before that has drops alone, and the
-- next one rows alone
abbrev two_keys : List Step
two_keys = meant 1 (pair (pos 8) (pos 1)) ∷ meant 2 (pair (pos 9) (pos 2)) ∷ []

drops_of_the_open_part : metric_tree (under []) two_keys false 500 (keyed Sum 1) ≡ shown 1 []
drops_of_the_open_part = refl

rows_of_the_closed_part : metric_tree (under []) (two_keys ++ asked 500 false ∷ tick 1000 ∷ []) false 1000
    (keyed Sum 1) ≡ shown 0 (of_key (pos 8) (part 0 1000 (pos 1) ∷ []) ∷ [])
rows_of_the_closed_part = refl

-- a cut at a full end, after a pull: the end is crossed by the atom after it, and nothing comes in the part between
cut_at_a_full_end : metric_tree (under [])
    (meant 1 (pair (pos 8) (pos 1)) ∷ pull 1000 ∷ asked 1000 true ∷ meant 1000 (pair (pos 8) (pos 2)) ∷ []) true 1001
    (keyed Sum 1) ≡ shown 0 (of_key (pos 8) (part 1000 1001 (pos 2) ∷ []) ∷ [])
cut_at_a_full_end = refl

-- where the key's fields are of another atom, all have the one key without a value
dimensions_of_another_atom : metric_tree (under [])
    (meant 1 (record { id = 6; fields = entry 1 (Int (pos 3)) ∷ [] })
    ∷ meant 2 (record { id = 6; fields = entry 1 (Int (pos 4)) ∷ [] }) ∷ []) true 2
    (metric_of (PushedValue 6 (plain_leaf 1) Sum) (field_of_5 1) 1000 1)
    ≡ shown 0 (record {
      leaves = record { place = 0; value = None } ∷ [];
      slices = [];
      overflow = false;
      buckets = part 0 2 (pos 7) ∷ [];
    } ∷ [])
dimensions_of_another_atom = refl

-- an atom without the field of the key has a key of its own
absent_key : metric_tree (under [])
    (meant 1 (record { id = 5; fields = entry 2 (Int (pos 3)) ∷ [] }) ∷ meant 2 (pair (pos 8) (pos 4)) ∷ []) true 2
    (keyed Sum 800)
    ≡ shown 0 (record {
      leaves = record { place = 0; value = None } ∷ [];
      slices = [];
      overflow = false;
      buckets = part 0 2 (pos 3) ∷ [];
    } ∷ of_key (pos 8) (part 0 2 (pos 4) ∷ []) ∷ [])
absent_key = refl

-- the atom that starts the condition arrives, and the one that stops it doesn't
under_a_condition : metric_tree (under (switch ∷ []))
    (told_with (true ∷ true ∷ []) 1 (holding (Int (pos 1))) ∷ told_with (true ∷ []) 2 (holding (Int (pos 2)))
    ∷ told_with (true ∷ false ∷ true ∷ []) 3 (holding (Int (pos 4)))
    ∷ told_with (true ∷ []) 4 (holding (Int (pos 8))) ∷ []) true 4 (conditioned (valued Sum))
    ≡ shown 0 (of_all (part 0 4 (pos 3) ∷ []) ∷ [])
under_a_condition = refl

-- an atom with two elements of field 1
abbrev two_elements : Atom
two_elements = record {
  id = 5;
  fields = record { field = 1; index = 2; sub = 3; flags = 0; value = Int (pos 7) }
      ∷ record { field = 1; index = 4; sub = 3; flags = 0; value = Int (pos 9) } ∷ [];
}

-- a leaf of a repeated field: the part 3 of the first or the last element
first_element : metric_tree (under []) (meant 1 two_elements ∷ []) true 1
    (metric_of (PushedValue 5 (record { field = 1; position = Some First; sub = 3 }) Sum) no_fields 1000 800)
    ≡ shown 0 (of_all (part 0 1 (pos 7) ∷ []) ∷ [])
first_element = refl

last_element : metric_tree (under []) (meant 1 two_elements ∷ []) true 1
    (metric_of (PushedValue 5 (record { field = 1; position = Some Last; sub = 3 }) Sum) no_fields 1000 800)
    ≡ shown 0 (of_all (part 0 1 (pos 9) ∷ []) ∷ [])
last_element = refl

-- values by the state of the screen, which was told before the installation, and once more after it
by_states : metric_tree (beside (screen None) (screen_is 0 2 ∷ []))
    (meant 1 (holding (Int (pos 4))) ∷ logged 2 (screen_is 2 3) (false ∷ [])
    ∷ meant 3 (holding (Int (pos 5))) ∷ []) true 3
    (record (valued Sum) { slices = record { state = 0; in_what = None } ∷ [] })
    ≡ shown 0 (record { leaves = []; slices = Plain 27 (pos 2) ∷ []; overflow = false; buckets = part 0 3 (pos 4) ∷ [] }
    ∷ record { leaves = []; slices = Plain 27 (pos 3) ∷ []; overflow = false; buckets = part 0 3 (pos 5) ∷ [] } ∷ [])
by_states = refl
