-- The numbers by which small choices are saved, and the choice of a number, if it is one.
use Rattle.std.specs.Prelude.{ℕ, ◌==◌, Bool, true, false, Option, Some, None, if◌then◌else◌}
use Rattle.config_types.specs.declared.metric.Aggregation.{Aggregation}
use Rattle.config_types.specs.declared.metric.Aggregation.TheVariants.{Sum, Min, Max}
use Rattle.config_types.specs.declared.metric.Direction.{Direction}
use Rattle.config_types.specs.declared.metric.Direction.TheVariants.{Increasing, Decreasing, Any}

-- the number of an aggregation
abbrev pub aggregation_number : Aggregation → ℕ
aggregation_number Sum = 0
aggregation_number Min = 1
aggregation_number Max = 2

-- the aggregation of a number
abbrev pub aggregation_by : ℕ → Option Aggregation
aggregation_by number =
    if number == 0 then Some Sum else (if number == 1 then Some Min else (if number == 2 then Some Max else None))

-- the number of the way in which values go
abbrev pub direction_number : Direction → ℕ
direction_number Increasing = 0
direction_number Decreasing = 1
direction_number Any = 2

-- the way of a number
abbrev pub direction_by : ℕ → Option Direction
direction_by number =
    if number == 0 then Some Increasing
    else (if number == 1 then Some Decreasing else (if number == 2 then Some Any else None))

-- the number of what is asked for or not
abbrev pub asked_number : Bool → ℕ
asked_number false = 0
asked_number true = 1

-- what is asked for or not, by its number
abbrev pub asked_of_number : ℕ → Option Bool
asked_of_number number = if number == 0 then Some false else (if number == 1 then Some true else None)
