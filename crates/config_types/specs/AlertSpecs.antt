-- What an alert may watch for.
use Rattle.std.specs.Prelude.{ℕ, ◌*◌, ◌^◌, ◌≤◌}
use Rattle.config_types.specs.declared.parameters.AlertSpec.{AlertSpec}
use Rattle.config_types.specs.Buckets.{second_nanos}

-- the greatest bound that a metric may have: so many keys a part of it admits at most
abbrev pub greatest_bound : ℕ
greatest_bound = 3000

-- the most parts over which an alert counts
abbrev pub most_parts : ℕ
most_parts = 10

-- the greatest threshold
abbrev pub most_threshold : ℕ
most_threshold = 2 ^ 62

-- the longest time without an alarm after an alarm, in seconds
abbrev pub refractory_seconds : ℕ
refractory_seconds = 1000000

-- the same in nanoseconds
abbrev pub most_refractory : ℕ
most_refractory = refractory_seconds * second_nanos

-- an alert's numbers are in their ranges
pub record IsAlertSpec (spec : AlertSpec) : Type 0 where
  pub least_bound : 1 ≤ spec.bound
  pub most_bound : spec.bound ≤ greatest_bound
  pub least_parts : 1 ≤ spec.parts
  pub few_parts : spec.parts ≤ most_parts
  pub threshold : spec.threshold ≤ most_threshold
  pub refractory : spec.refractory ≤ most_refractory
