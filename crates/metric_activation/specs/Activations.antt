-- When an activation is alive, and when a metric is active: read from all that atoms said, from the first one on.
use Rattle.std.specs.Prelude.{ℕ, suc, ◌+◌, Bool, true, false, not, ◌&&◌, ◌||◌, nat_lt, List, [], ◌∷◌, Option, Some, None, map, filter, slice_index_or}
use Rattle.std.specs.List.{list_any, last_or}

-- the most activations of one metric
abbrev pub most_timers : ℕ
most_timers = 8

-- the longest time that one start lasts, in nanoseconds: a million seconds
abbrev pub most_ttl : ℕ
most_ttl = 1000000000000000

-- What one atom says of one activation: when it came, whether it starts it, and whether it cancels it.
pub record Signal : Type 0 where
  pub at : ℕ
  pub starts : Bool
  pub cancels : Bool

-- it says something
abbrev pub says_something : Signal → Bool
says_something signal = signal.starts || signal.cancels

-- the last atom that said something, if there is one
abbrev pub last_said : List Signal → Option Signal
last_said signals = last_or None (filter says_something signals)

-- alive by what was said last: it was started and not cancelled, and the time is below the start's and the ttl
abbrev pub is_alive_by : ℕ → ℕ → Option Signal → Bool
is_alive_by ttl now None = false
is_alive_by ttl now (Some signal) = not signal.cancels && nat_lt now (signal.at + ttl)

-- an activation is alive at a time, after what atoms said of it
abbrev pub is_alive : ℕ → List Signal → ℕ → Bool
is_alive ttl signals now = is_alive_by ttl now (last_said signals)

-- a metric is active: it has no activation, or one of them is alive
module _ {A S : Type 0} (ttl : A → ℕ) (signal : A → S → Signal) where
  abbrev pub is_active : List A → List S → ℕ → Bool
  is_active [] steps now = true
  is_active (activation ∷ activations) steps now =
      list_any (λ one. is_alive (ttl one) (map (signal one) steps) now) (activation ∷ activations)

-- What one atom says of all activations of a metric, by their places.
pub record Heard : Type 0 where
  pub at : ℕ
  pub started : List Bool
  pub cancelled : List Bool

-- the truth at a place
abbrev pub truth_of : List Bool → ℕ → Bool
truth_of truths place = slice_index_or truths place false

-- what it says of the activation at a place
abbrev pub signal_at : ℕ → Heard → Signal
signal_at place told = record {
  at = told.at;
  starts = truth_of told.started place;
  cancels = truth_of told.cancelled place;
}

-- each of these with its place, the first of which is this
abbrev pub placed : {A : Type 0} → ℕ → List A → List (ℕ × A)
placed place [] = []
placed place (x ∷ xs) = (place, x) ∷ placed (suc place) xs

-- a metric whose activations last so long is active at a time, after what it was told
abbrev pub is_active_told : List ℕ → List Heard → ℕ → Bool
is_active_told ttls told now = is_active (λ one. one.1) (λ one atom. signal_at one.0 atom) (placed 0 ttls) told now
