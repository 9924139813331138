-- All that is live is caught up, one place after the other.
use Rattle.std.specs.Prelude.{◌≡◌, ◌≢◌, ℕ, List, Option, Some, None, nat_lt, slice_get}
use Rattle.std.specs.Bool.{MatchBool}
use Rattle.std.specs.Map.{values_of}
use Rattle.bucket_meaning.specs.Ends.{Moment}
use Rattle.client_engine.specs.declared.live_id.LiveId.{LiveId}
use Rattle.hub_core.specs.declared.live_instance.LiveInstance.{LiveInstance}
use Rattle.hub_core.specs.Sleeping.{WakesUp}
use Rattle.hub_core.specs.Slots.{slot_at}

-- what stands at a place
abbrev pub live_in : ℕ → List (LiveId × LiveInstance) → Option LiveInstance
live_in place rows = slice_get (values_of rows) place

module _ (moment : Moment) where
  -- what stood somewhere woke up by this moment, and has the bytes that it had
  abbrev pub FoundWoken : Option LiveInstance → Option LiveInstance → Type 0
  FoundWoken None None = Unit {0}
  FoundWoken (Some old) (Some new) = WakesUp moment old.carried.instance new.carried.instance
  FoundWoken None (Some new) = ⊥
  FoundWoken (Some old) None = ⊥

  -- what stood under each name woke up
  abbrev pub AllWoken : List (LiveId × LiveInstance) → List (LiveId × LiveInstance) → Type 0
  AllWoken olds news = (name : LiveId) → FoundWoken (slot_at name olds) (slot_at name news)

  -- What stood at one place woke up; all else is as it was.
  pub record WakesAt (place : ℕ) (olds news : List (LiveId × LiveInstance)) : Type 0 where
    pub here : FoundWoken (live_in place olds) (live_in place news)
    pub others : (other : ℕ) → other ≢ place → live_in other news ≡ live_in other olds

  -- what stood before a place woke up; all else is as it was
  abbrev pub WokenBefore : ℕ → List (LiveId × LiveInstance) → List (LiveId × LiveInstance) → Type 0
  WokenBefore end olds news =
      (place : ℕ) → MatchBool (nat_lt place end) (FoundWoken (live_in place olds) (live_in place news))
      (live_in place news ≡ live_in place olds)
