-- Runs: the stretches of a part in which a key stays in a list that changes from time to time.
use Rattle.std.specs.Prelude.{◌≡◌, ℕ, ◌+◌, ◌-◌, ◌≤◌, Bool, not, List, [], ◌∷◌, ◌++◌, map, filter, if◌then◌else◌}
use Rattle.std.specs.List.{IsDistinct}
use Rattle.std.proofs.Common.{refl, ap, ◌∙◌}
use Rattle.std.proofs.lemmas.List.{map-append}
use Rattle.bucket_meaning.specs.Guard.{is_among, arrival_key}

-- The keys that are active, in order, and from when on they are.
pub record Active (K : Type 0) : Type 0 where
  pub at : ℕ
  pub keys : List K

module _ {X : Type 0} (time : X → ℕ) where
  -- the time of the first of these, or the end
  abbrev pub next_time : List X → ℕ → ℕ
  next_time [] end = end
  next_time (now ∷ later) end = time now

  -- for how long something is so, up to an end, where each says whether it is, from its own time to the next one's
  abbrev pub time_so : (X → Bool) → List X → ℕ → ℕ
  time_so is_so [] end = 0
  time_so is_so (now ∷ later) end =
      (if is_so now then next_time later end - time now else 0) + time_so is_so later end

module _ {K : Type 0} (same : K → K → Bool) where
  -- where a run of a key that is under way ends: at the first later list without it, or at the part's end
  abbrev pub run_end : K → List (Active K) → ℕ → ℕ
  run_end key [] end = end
  run_end key (next ∷ later) end = if is_among same key next.keys then run_end key later end else next.at

  -- the keys that weren't active before
  abbrev pub newly : List K → List K → List K
  newly before keys = filter (λ key. not (is_among same key before)) keys

  -- the runs that begin in these lists, each with its length, where some keys were active before them
  abbrev pub runs_after : List K → List (Active K) → ℕ → List (K × ℕ)
  runs_after before [] end = []
  runs_after before (now ∷ later) end =
      map (λ key. (key, run_end key later end - now.at)) (newly before now.keys) ++ runs_after now.keys later end

  -- the runs of a part, by the lists that came in it: at its start all begin
  abbrev pub runs : List (Active K) → ℕ → List (K × ℕ)
  runs came end = runs_after [] came end

  -- the keys of the runs that begin in these lists
  abbrev pub run_keys_after : List K → List (Active K) → List K
  run_keys_after before [] = []
  run_keys_after before (now ∷ later) = newly before now.keys ++ run_keys_after now.keys later

  -- the keys of the runs of a part
  abbrev pub run_keys : List (Active K) → List K
  run_keys came = run_keys_after [] came

-- the keys of some keys with lengths
keys_back : {K C : Type 0} (length_of : K → C) (keys : List K)
    → map arrival_key (map (λ key. (key, length_of key)) keys) ≡ keys
keys_back length_of [] = refl
keys_back length_of (key ∷ keys) = ap (λ l. key ∷ l) (keys_back length_of keys)

module _ {K : Type 0} (same : K → K → Bool) where
  -- the keys of the runs are the same, wherever the part ends
  run_keys_after-are : (before : List K) (came : List (Active K)) (end : ℕ)
      → map arrival_key (runs_after same before came end) ≡ run_keys_after same before came
  run_keys_after-are before [] end = refl
  run_keys_after-are before (now ∷ later) end =
      let length_of : K → ℕ = λ key. run_end same key later end - now.at in
      let fresh = newly same before now.keys in
      map-append arrival_key (map (λ key. (key, length_of key)) fresh) (runs_after same now.keys later end)
      ∙ ap (λ l. l ++ map arrival_key (runs_after same now.keys later end)) (keys_back length_of fresh)
      ∙ ap (λ l. fresh ++ l) (run_keys_after-are now.keys later end)

  -- the keys of a part's runs are the same, wherever it ends
  pub run_keys-are : (came : List (Active K)) (end : ℕ) → map arrival_key (runs same came end) ≡ run_keys same came
  run_keys-are came end = run_keys_after-are [] came end

-- How long a key is active: another reading of the sum of its runs, by the stretches after which it is in the list.
module _ {K : Type 0} (same : K → K → Bool) where
  -- how long a key is active in a part
  abbrev pub active_time : K → List (Active K) → ℕ → ℕ
  active_time key came end =
      time_so (λ (now : Active K). now.at) (λ (now : Active K). is_among same key now.keys) came end

  -- in none of these lists a key stands twice
  abbrev pub AreDistinct : List (Active K) → Type 0
  AreDistinct [] = Unit {0}
  AreDistinct (now ∷ later) = IsDistinct same now.keys × AreDistinct later

-- the keys of the last list, or those before all
abbrev pub last_keys : {K : Type 0} → List K → List (Active K) → List K
last_keys before [] = before
last_keys before (now ∷ later) = last_keys now.keys later

-- the time of the last list, or the one before all
abbrev pub last_turn : {K : Type 0} → ℕ → List (Active K) → ℕ
last_turn from [] = from
last_turn from (now ∷ later) = last_turn now.at later

-- times don't fall
abbrev pub DontFall : {K : Type 0} → ℕ → List (Active K) → Type 0
DontFall from [] = Unit {0}
DontFall from (now ∷ later) = (from ≤ now.at) × DontFall now.at later
