-- What a contract sees of a book: its timers. And what they stand for.
use Rattle.std.specs.Prelude.{◌≡◌, ℕ, ◌+◌, ◌<◌, ◌≤◌, Bool, nat_lt, List, [], ◌∷◌, ◌++◌, length, map, All, if◌then◌else◌, slice_index_or}
use Rattle.metric_activation.specs.declared.timer.Timer.{Timer}
use Rattle.metric_activation.specs.Activations.{most_timers, most_ttl, Heard, signal_at, is_alive}
pub use Rattle.metric_activation.specs.Activations.{truth_of}

-- one start lasts no longer than it may
pub record IsTimer (timer : Timer) : Type 0 where
  pub least : 1 ≤ timer.ttl
  pub most : timer.ttl ≤ most_ttl

-- these are the activations of one metric
pub record AreTimers (timers : List Timer) : Type 0 where
  pub few : length timers ≤ most_timers
  pub short : All IsTimer timers

-- a timer that nothing started
abbrev pub idle : ℕ → Timer
idle ttl = record { ttl = ttl; end = 0 }

-- nothing started it
abbrev pub IsIdle : Timer → Type 0
IsIdle timer = timer.end ≡ 0

-- how long a start of each lasts
abbrev pub ttls_of : List Timer → List ℕ
ttls_of timers = map (λ (timer : Timer). timer.ttl) timers

-- it is alive
abbrev pub lives : ℕ → Timer → Bool
lives now timer = nat_lt now timer.end

-- what an atom makes of it
abbrev pub timer_told : ℕ → Bool → Bool → Timer → Timer
timer_told at starts cancels timer = record {
  ttl = timer.ttl;
  end = if cancels then 0 else if starts then at + timer.ttl else timer.end;
}

-- what an atom says
abbrev pub heard_of : ℕ → List Bool → List Bool → Heard
heard_of at started cancelled = record { at = at; started = started; cancelled = cancelled }

-- after what was told each timer is alive at just the times at which its activation is
abbrev pub BookStandsFor : List Timer → List Heard → Type 0
BookStandsFor timers told =
    (place : ℕ) → place < length timers → let timer = slice_index_or timers place (idle 0) in
    (now : ℕ) → lives now timer ≡ is_alive timer.ttl (map (signal_at place) told) now

-- whatever the old book stood for, the new one stands for that and this atom
abbrev pub HearsAtom : List Timer → List Timer → Heard → Type 0
HearsAtom old new atom = (told : List Heard) → BookStandsFor old told → BookStandsFor new (told ++ atom ∷ [])

-- each of the first timers is what an atom makes of it, and the others are as they were
pub record AreToldBelow (bound at : ℕ) (started cancelled : List Bool) (first now : List Timer) : Type 0 where
  pub told : (place : ℕ) → place < bound → slice_index_or now place (idle 0)
      ≡ timer_told at (truth_of started place) (truth_of cancelled place) (slice_index_or first place (idle 0))
  pub others : (place : ℕ) → bound ≤ place
      → slice_index_or now place (idle 0) ≡ slice_index_or first place (idle 0)
