-- Whether a metric is active, by the timers of its activations; and what callers need of it.
use Rattle.std.proofs.Common.{◌≡◌, ℕ, zero, suc, ◌+◌, ◌<◌, Bool, true, ◌||◌, List, [], ◌∷◌, length, get_or, map, slice_get, Some, refl, ap, subst, ◌∙◌, arith}
use Rattle.std.specs.List.{list_any}
use Rattle.metric_activation.specs.declared.timer.Timer.{Timer}
use Rattle.metric_activation.specs.Activations.{Signal, is_alive, is_active, Heard, signal_at, placed, is_active_told}
use Rattle.metric_activation.specs.Timers.{idle, ttls_of, lives, BookStandsFor}

-- the activation at a place is alive, after what was told
abbrev is_alive_told : List Heard → ℕ → ℕ × ℕ → Bool
is_alive_told told now one = is_alive one.1 (map (λ atom. signal_at one.0 atom) told) now

-- one of the timers is alive where one of the activations is
alive_from : (told : List Heard) (now first : ℕ) (timers : List Timer)
    → ((place : ℕ) → place < length timers → lives now (get_or timers place (idle 0))
    ≡ is_alive (get_or timers place (idle 0)).ttl (map (signal_at (first + place)) told) now)
    → list_any (lives now) timers ≡ list_any (is_alive_told told now) (placed first (ttls_of timers))
alive_from told now first [] each = refl
alive_from told now first (timer ∷ timers) each =
    let here : lives now timer ≡ is_alive timer.ttl (map (signal_at first) told) now =
    subst (λ n. lives now timer ≡ is_alive timer.ttl (map (signal_at n) told) now) (omega arith)
    (each zero (omega arith)) in
    let rest = alive_from told now (suc first) timers (λ place within.
    subst (λ n. lives now (get_or timers place (idle 0))
    ≡ is_alive (get_or timers place (idle 0)).ttl (map (signal_at n) told) now) (omega arith)
    (each (suc place) (omega (arith, within)))) in
    ap (λ b. b || list_any (lives now) timers) here
    ∙ ap (λ b. is_alive timer.ttl (map (signal_at first) told) now || b) rest

-- a metric with activations is active where one of the timers is alive
pub active_by : (timers : List Timer) (told : List Heard) (now : ℕ) → 0 < length timers → BookStandsFor timers told
    → list_any (lives now) timers ≡ is_active_told (ttls_of timers) told now
active_by [] told now some stands = absurd (omega (arith, some))
active_by (timer ∷ timers) told now some stands =
    alive_from told now 0 (timer ∷ timers) (λ place within.
    subst (λ n. lives now (get_or (timer ∷ timers) place (idle 0))
    ≡ is_alive (get_or (timer ∷ timers) place (idle 0)).ttl (map (signal_at n) told) now) (omega arith)
    (stands place within now))

-- and without any it is
pub active_without : (timers : List Timer) (told : List Heard) (now : ℕ) → length timers ≡ 0
    → true ≡ is_active_told (ttls_of timers) told now
active_without [] told now none = refl
active_without (timer ∷ timers) told now none = absurd (omega (arith, none))

-- what is mapped twice is mapped once
mapped_again : {S T B : Type 0} (f : T → B) (g : S → T) (h : S → B) → ((s : S) → f (g s) ≡ h s) → (steps : List S)
    → map f (map g steps) ≡ map h steps
mapped_again f g h same [] = refl
mapped_again f g h same (step ∷ steps) =
    ap (λ b. b ∷ map f (map g steps)) (same step) ∙ ap (λ l. h step ∷ l) (mapped_again f g h same steps)

-- for callers: what a metric's activations are by their own steps, they are by what a book was told of these
module _ {A S : Type 0} (ttl : A → ℕ) (signal : A → S → Signal) (tell : S → Heard) (steps : List S) (now : ℕ) where
  alive_again : (first : ℕ) (ones : List A)
      → ((place : ℕ) (one : A) → slice_get ones place ≡ Some one → (step : S)
      → signal_at (first + place) (tell step) ≡ signal one step)
      → list_any (is_alive_told (map tell steps) now) (placed first (map ttl ones))
      ≡ list_any (λ one. is_alive (ttl one) (map (signal one) steps) now) ones
  alive_again first [] each = refl
  alive_again first (one ∷ ones) each =
      let own : (step : S) → signal_at first (tell step) ≡ signal one step =
      λ step. subst (λ n. signal_at n (tell step) ≡ signal one step) (omega arith) (each zero one refl step) in
      let here : map (λ atom. signal_at first atom) (map tell steps) ≡ map (signal one) steps =
      mapped_again (signal_at first) tell (signal one) own steps in
      let rest = alive_again (suc first) ones (λ place other found step.
      subst (λ n. signal_at n (tell step) ≡ signal other step) (omega arith) (each (suc place) other found step)) in
      ap (λ signals. is_alive (ttl one) signals now
      || list_any (is_alive_told (map tell steps) now) (placed (suc first) (map ttl ones))) here
      ∙ ap (λ b. is_alive (ttl one) (map (signal one) steps) now || b) rest

  pub active_again : (ones : List A)
      → ((place : ℕ) (one : A) → slice_get ones place ≡ Some one → (step : S)
      → signal_at place (tell step) ≡ signal one step)
      → is_active_told (map ttl ones) (map tell steps) now ≡ is_active ttl signal ones steps now
  active_again [] each = refl
  active_again (one ∷ ones) each =
      alive_again 0 (one ∷ ones) (λ place other found step.
      subst (λ n. signal_at n (tell step) ≡ signal other step) (omega arith) (each place other found step))
