-- Metrics of values, pushed or pulled: the integer of a value, and the rows of a part, by key.
use Rattle.std.specs.Prelude.{ℕ, ℤ, pos, ◌+ℤ◌, Bool, ◌&&◌, List, [], ◌∷◌, map, Option, Some, None, if◌then◌else◌}
use Rattle.std.proofs.Common.{refl}
use Rattle.std.specs.Int.{w64, w128, saturate_signed, int_min, int_max}
use Rattle.std.specs.List.{reduce}
use Rattle.std.specs.Option.{unwrap_or}
use Rattle.std.specs.Ordering.{int_eq}
use Rattle.atom_record.specs.declared.value.Value.{Value}
use Rattle.atom_record.specs.declared.value.Value.TheVariants.{Int, Long}
use Rattle.atom_record.specs.declared.value.Leaf.{Leaf}
use Rattle.atom_record.specs.declared.value.Leaf.TheVariants.{One}
use Rattle.atom_record.specs.declared.value.MetricKey.{MetricKey}
use Rattle.bucket_meaning.specs.Guard.{arrival_key}
use Rattle.bucket_meaning.specs.Rows.{Kind, not_shown}
use Rattle.config_types.specs.declared.metric.Aggregation.{Aggregation}
use Rattle.config_types.specs.declared.metric.Aggregation.TheVariants.{Sum, Min, Max}
use Rattle.metric_producer.specs.declared.row.Row.{Row}
use Rattle.metric_kinds.specs.Keys.{is_same_key}

-- the integer that a value is; texts, truths and bytes are none, and a float isn't read as a number
abbrev pub integer_of : Value → Option ℤ
integer_of (Int number) = Some number
integer_of (Long number) = Some number
integer_of _ = None

-- the integer that stands at a leaf, where one value does; there is none where nothing stands, or a list
abbrev pub integer_at : Leaf → Option ℤ
integer_at (One value) = integer_of value
integer_at _ = None

-- what two integers of a key give: their sum, which stands still at the ends of a number of 128 bits; the lesser; or
-- the greater
abbrev pub joined : Aggregation → ℤ → ℤ → ℤ
joined Sum one other = saturate_signed w128 (one +ℤ other)
joined Min one other = int_min one other
joined Max one other = int_max one other

-- what the integers of a key give, one after another; 0 where there is none
abbrev pub aggregate_of : Aggregation → List ℤ → ℤ
aggregate_of aggregation integers = unwrap_or (reduce (joined aggregation) integers) (pos 0)

-- a row, or none where its value is 0 and zeros are hidden
abbrev pub unless_hidden : Bool → Row ℤ → List (Row ℤ)
unless_hidden hides_zeros row = if hides_zeros && int_eq row.value (pos 0) then [] else row ∷ []

-- the row of a key's integers: what they give, at the ends of a number of 64 bits at most
abbrev pub value_row : Aggregation → ℕ → ℕ → MetricKey → List ℤ → Row ℤ
value_row aggregation start end key integers =
    record { key = key; start = start; end = end; value = saturate_signed w64 (aggregate_of aggregation integers) }

-- a metric of values: what arrives is a key with an integer, also one of 0, and a key's row has what its integers
-- give; a row weighs 1
abbrev pub value_kind : Aggregation → Bool → Kind (MetricKey × ℤ) MetricKey ℤ (Row ℤ)
value_kind aggregation hides_zeros = record {
  same = is_same_key;
  arrivals = λ came end. came;
  keys = λ came. map arrival_key came;
  keys_are = λ came end. refl;
  row = λ start end key integers. unless_hidden hides_zeros (value_row aggregation start end key integers);
  others = not_shown;
  weight = λ row. 1;
}
