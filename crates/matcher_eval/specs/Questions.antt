-- How a judge's count of questions goes.
use Rattle.std.specs.Prelude.{ℕ, ◌+◌, ◌-◌, ◌^◌, ◌≤◌, min}

-- where a count of questions ends
abbrev pub last_tick : ℕ
last_tick = 2 ^ 64 - 1

-- One question was asked: the count is one more, or stands at its end. It never falls.
pub record IsOneTick (before now : ℕ) : Type 0 where
  pub later : before ≤ now
  pub most : now ≤ before + 1
  pub least : min (before + 1) last_tick ≤ now
