-- The last moment of the log as two numbers.
use Rattle.std.specs.Prelude.{◌≡◌, ◌<◌, ◌^◌, ℕ, Bool, if◌then◌else◌}
use Rattle.hub_core.specs.declared.log_clock.LogClock.{LogClock}

-- whether pulls alone came, as a number
abbrev pub pull_number : Bool → ℕ
pull_number is_pull = if is_pull then 1 else 0

-- two numbers are those of no moment
abbrev pub IsNoMoment : ℕ → ℕ → Type 0
IsNoMoment time number = (is_pull : Bool) → time < 2 ^ 63 → ¬ (pull_number is_pull ≡ number)

-- two numbers are those of a clock
abbrev pub AreOfClock : ℕ → ℕ → LogClock → Type 0
AreOfClock time number clock = (clock.time ≡ time) × (pull_number clock.is_pull ≡ number)
