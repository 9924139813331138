-- What timers stand for, one more atom at a time.
use Rattle.std.proofs.Common.{◌≡◌, ℕ, zero, suc, ◌+◌, ◌<◌, ◌≤◌, ◌≢◌, Bool, true, false, nat_lt, if◌then◌else◌, List, [], ◌∷◌, ◌++◌, length, set, get_or, map, filter, Option, Some, None, All, refl, sym, ap, subst, ◌∙◌, arith, ⊎_elim}
use Rattle.std.specs.List.{last_or}
use Rattle.std.proofs.lemmas.Bool.{cases_lt, le-ltb}
use Rattle.std.proofs.lemmas.List.{map-append, get_or_default, get_or-set_same, get_or-set_other}
use Rattle.std.proofs.lemmas.List.Elements.{filter-append}
use Rattle.metric_activation.specs.declared.timer.Timer.{Timer}
use Rattle.metric_activation.specs.Activations.{most_ttl, Signal, says_something, last_said, is_alive_by, is_alive, Heard, truth_of, signal_at}
use Rattle.metric_activation.specs.Timers.{IsTimer, IsIdle, idle, ttls_of, lives, timer_told, heard_of, BookStandsFor, HearsAtom, AreToldBelow}

last_or-append : {X : Type 0} (other : Option X) (xs ys : List X)
    → last_or other (xs ++ ys) ≡ last_or (last_or other xs) ys
last_or-append other [] ys = refl
last_or-append other (x ∷ xs) ys = last_or-append (Some x) xs ys

-- what was said last, with one more signal
said_next : (signals : List Signal) (signal : Signal) (says : Bool) → says_something signal ≡ says
    → last_said (signals ++ signal ∷ []) ≡ (if says then Some signal else last_said signals)
said_next signals signal says e =
    ap (last_or None) (filter-append says_something signals (signal ∷ []))
    ∙ last_or-append None (filter says_something signals) (filter says_something (signal ∷ []))
    ∙ ap (λ b. last_or (last_said signals) (if b then signal ∷ [] else [])) e ∙ by_case says
  where
    by_case : (b : Bool) → last_or (last_said signals) (if b then signal ∷ [] else [])
        ≡ (if b then Some signal else last_said signals)
    by_case true = refl
    by_case false = refl

-- a time is never below 0
never : (now : ℕ) → nat_lt now 0 ≡ false
never now = le-ltb now 0 (omega arith)

-- a timer that an atom was told is alive when its activation is
told_lives : (signals : List Signal) (timer : Timer) (at : ℕ) (starts cancels : Bool) (now : ℕ)
    → lives now timer ≡ is_alive timer.ttl signals now
    → lives now (timer_told at starts cancels timer)
    ≡ is_alive timer.ttl (signals ++ record { at = at; starts = starts; cancels = cancels } ∷ []) now
told_lives signals timer at true true now was =
    never now ∙ sym (ap (is_alive_by timer.ttl now)
    (said_next signals (record { at = at; starts = true; cancels = true }) true refl))
told_lives signals timer at false true now was =
    never now ∙ sym (ap (is_alive_by timer.ttl now)
    (said_next signals (record { at = at; starts = false; cancels = true }) true refl))
told_lives signals timer at true false now was =
    sym (ap (is_alive_by timer.ttl now)
    (said_next signals (record { at = at; starts = true; cancels = false }) true refl))
told_lives signals timer at false false now was =
    was ∙ sym (ap (is_alive_by timer.ttl now)
    (said_next signals (record { at = at; starts = false; cancels = false }) false refl))

-- nothing was told, and nothing was started
pub none_told : (timers : List Timer) → All IsIdle timers → BookStandsFor timers []
none_told timers idles place within now =
    ap (nat_lt now) (idles place (idle 0) within) ∙ never now

-- one more signal of an activation
signals_push : (place : ℕ) (told : List Heard) (atom : Heard)
    → map (signal_at place) (told ++ atom ∷ []) ≡ map (signal_at place) told ++ signal_at place atom ∷ []
signals_push place told atom = map-append (signal_at place) told (atom ∷ [])

-- all timers were told
pub all_told : (old new : List Timer) (at : ℕ) (started cancelled : List Bool) → length new ≡ length old
    → AreToldBelow (length old) at started cancelled old new → HearsAtom old new (heard_of at started cancelled)
all_told old new at started cancelled len are told stands place within now =
    let inside : place < length old = omega (arith, len, within) in
    let timer = get_or old place (idle 0) in
    let starts = truth_of started place in
    let cancels = truth_of cancelled place in
    let is = are.told place inside in
    subst (λ t. lives now t ≡ is_alive t.ttl (map (signal_at place) (told ++ heard_of at started cancelled ∷ [])) now)
    (sym is)
    (told_lives (map (signal_at place) told) timer at starts cancels now (stands place inside now)
    ∙ ap (λ signals. is_alive timer.ttl signals now)
    (sym (signals_push place told (heard_of at started cancelled))))

-- nothing was told yet
pub none_below : (at : ℕ) (started cancelled : List Bool) (timers : List Timer)
    → AreToldBelow 0 at started cancelled timers timers
none_below at started cancelled timers = record {
  told = λ place within. absurd (omega (arith, within));
  others = λ place after. refl;
}

-- one more timer was told
pub one_told : (place at : ℕ) (started cancelled : List Bool) (first now : List Timer) (d : Timer)
    → AreToldBelow place at started cancelled first now → place < length now
    → AreToldBelow (place + 1) at started cancelled first
    (set now place (timer_told at (truth_of started place) (truth_of cancelled place) (get_or now place d)))
one_told place at started cancelled first now d are within =
    let fresh = timer_told at (truth_of started place) (truth_of cancelled place) (get_or now place d) in
    let same : get_or now place d ≡ get_or first place (idle 0) =
    get_or_default now place d (idle 0) within ∙ are.others place (omega arith) in
    record {
      told = λ k less. ⊎_elim
          (λ (before : k < place).
          let ne : k ≢ place = omega (arith, before) in
          get_or-set_other now place k fresh (idle 0) ne ∙ are.told k before)
          (λ (after : place ≤ k).
          let is : k ≡ place = omega (arith, after, less) in
          subst (λ n. get_or (set now place fresh) n (idle 0)
          ≡ timer_told at (truth_of started n) (truth_of cancelled n) (get_or first n (idle 0))) (sym is)
          (get_or-set_same now place fresh (idle 0) within
          ∙ ap (timer_told at (truth_of started place) (truth_of cancelled place)) same))
          (cases_lt k place);
      others = λ k after.
          let ne : k ≢ place = omega (arith, after) in
          get_or-set_other now place k fresh (idle 0) ne ∙ are.others k (omega (arith, after));
    }

-- a write that leaves the ttl of a timer leaves the ttls
pub ttls_stay : (timers : List Timer) (place : ℕ) (fresh d : Timer) → fresh.ttl ≡ (get_or timers place d).ttl
    → ttls_of (set timers place fresh) ≡ ttls_of timers
ttls_stay [] place fresh d e = refl
ttls_stay (timer ∷ timers) zero fresh d e = ap (λ ttl. ttl ∷ ttls_of timers) e
ttls_stay (timer ∷ timers) (suc place) fresh d e = ap (λ ttls. timer.ttl ∷ ttls) (ttls_stay timers place fresh d e)

-- a timer whose ttl stays is one
pub lasts_as_long : (old new : Timer) → new.ttl ≡ old.ttl → IsTimer old → IsTimer new
lasts_as_long old new same is = record {
  least = subst (λ n. 1 ≤ n) (sym same) is.least;
  most = subst (λ n. n ≤ most_ttl) (sym same) is.most;
}

-- for callers: an atom that says nothing of any activation leaves what the timers stand for
pub stays_silent : (timers : List Timer) (told : List Heard) (atom : Heard)
    → ((place : ℕ) → place < length timers → says_something (signal_at place atom) ≡ false)
    → BookStandsFor timers told → BookStandsFor timers (told ++ atom ∷ [])
stays_silent timers told atom silent stands place within now =
    let timer = get_or timers place (idle 0) in
    stands place within now
    ∙ sym (ap (is_alive_by timer.ttl now)
    (ap last_said (signals_push place told atom)
    ∙ said_next (map (signal_at place) told) (signal_at place atom) false (silent place within)))
