-- The numbers of a seed, what is drawn from them, and the times that they make.
use Rattle.std.specs.Prelude.{ℕ, zero, suc, ◌+◌, ◌*◌, ◌/◌, ◌%◌, ◌^◌}

-- the number after a number
unfoldable pub next_number : ℕ → ℕ
next_number number = (number * 6364136223846793005 + 1442695040888963407) % 2 ^ 64

-- the numbers of a seed, from the seed itself on
abbrev pub seed_number : ℕ → ℕ → ℕ
seed_number seed zero = seed
seed_number seed (suc i) = next_number (seed_number seed i)

-- what is drawn from a number: its upper 31 bits
abbrev pub drawn : ℕ → ℕ
drawn number = number / 2 ^ 33

-- how much time passes at a draw, in nanoseconds: whole milliseconds, less than a second
abbrev pub pause : ℕ → ℕ
pause draw = (draw % 1000) * 1000000

-- what is drawn at a step
abbrev pub draw_at : ℕ → ℕ → ℕ
draw_at seed i = drawn (seed_number seed i)

-- the time of a step, from 0 before the first one
abbrev pub step_time : ℕ → ℕ → ℕ
step_time seed zero = 0
step_time seed (suc i) = step_time seed i + pause (draw_at seed (suc i))
