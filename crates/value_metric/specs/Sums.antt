-- The sums of a snapshot, as they grow, and what an interval between two snapshots gives by their sums.
use Rattle.std.specs.Prelude.{ℤ, List, [], ◌∷◌, map, Option, Some, None}
use Rattle.std.specs.List.{flat_map}
use Rattle.std.specs.Map.{lookup}
use Rattle.indexmap.specs.IndexMap.{insert_entry}
use Rattle.atom_record.specs.declared.value.MetricKey.{MetricKey}
use Rattle.bucket_meaning.specs.Marks.{Mark, Came, Missed}
use Rattle.config_types.specs.declared.metric.Aggregation.TheVariants.{Sum}
use Rattle.config_types.specs.declared.parameters.DiffSpec.{DiffSpec}
use Rattle.metric_kinds.specs.Keys.{is_same_key}
use Rattle.metric_kinds.specs.Diffs.{KeyedInts, key_diff}
use Rattle.value_metric.specs.Totals.{joined_to}

-- sums with one integer more: its key keeps its place, and a new key goes last
abbrev pub with_sum : KeyedInts → MetricKey → ℤ → KeyedInts
with_sum sums key integer =
    insert_entry is_same_key sums key (joined_to Sum (lookup (is_same_key key) sums) integer)

-- what an interval gives that began and ended with these sums, or that a snapshot was missed
abbrev pub sums_marks : DiffSpec → Option KeyedInts → Option KeyedInts → List (Mark (MetricKey × ℤ))
sums_marks spec (Some starts) (Some ends) = map Came (flat_map (key_diff spec starts) ends)
sums_marks spec _ _ = Missed ∷ []

-- what the open interval gives, if there is one, by the sums of its beginning
abbrev pub opened_marks : DiffSpec → Option (Option KeyedInts) → Option KeyedInts → List (Mark (MetricKey × ℤ))
opened_marks spec None ends = []
opened_marks spec (Some starts) ends = sums_marks spec starts ends
