-- A hub as it is saved, and its items. Nothing here names the hub.
use Rattle.std.specs.Prelude.{◌≡◌, ◌≤◌, ◌<◌, ◌^◌, ℕ, ℤ, Bool, true, false, List, [], ◌∷◌, ◌++◌, All, count_by}
use Rattle.std.specs.List.{IsDistinct}
use Rattle.std.specs.Ordering.{int_eq}
use Rattle.flat_form.specs.declared.item.Item.{Item}
use Rattle.flat_form.specs.declared.item.Item.TheVariants.{Num}
use Rattle.flat_form.specs.Flat.{list_items}
use Rattle.pull_book.specs.PullItems.{book_items, IsPullBook}
use Rattle.state_slicer.specs.StateItems.{state_book_items, IsStateBook}
use Rattle.atom_record.specs.declared.log.PullOutcome.{PullOutcome}
use Rattle.client_engine.specs.Handed.{BookOfStates}
use Rattle.hub_core.specs.CarriedConfigs.{Saved}
use Rattle.hub_core.specs.NamedLives.{names_of}
use Rattle.hub_core.specs.SavedConfigs.{carried_items, IsCarried}
use Rattle.hub_core.specs.SavedMoments.{pull_number}
use Rattle.hub_core.specs.Slots.{same_id}

-- how many of these a client has
abbrev pub count_saved : ℤ → List Saved → ℕ
count_saved uid lives = count_by (λ (it : Saved). int_eq it.name.uid uid) lives

-- no two have one name, and no client has more than ten
pub record MayBeLive (lives : List Saved) : Type 0 where
  pub apart : IsDistinct same_id (names_of lives)
  pub few : (uid : ℤ) → count_saved uid lives ≤ 10

-- The last moment of the log, the two books, and what is live, in the order in which it stands.
pub record SavedHub : Type 0 where
  pub time : ℕ
  pub is_pull : Bool
  pub states : BookOfStates
  pub pulls : List (ℕ × PullOutcome)
  pub lives : List Saved

-- a saved hub is its moment, its books, and what is live
abbrev pub saved_items : SavedHub → List Item
saved_items it = Num it.time ∷ Num (pull_number it.is_pull)
    ∷ (state_book_items it.states ++ (book_items it.pulls ++ list_items carried_items it.lives))

-- Such a hub can be saved: its time is below the limit, both books are such, and each that is live is linked as its
-- bytes say.
pub record IsSavedHub (it : SavedHub) : Type 0 where
  pub timely : it.time < 2 ^ 63
  pub states : IsStateBook it.states
  pub pulls : IsPullBook it.pulls
  pub carried : All IsCarried it.lives
  pub lives : MayBeLive it.lives

-- the parts of a saved hub, one after the other
abbrev pub HubForm : Type 0
HubForm = ℕ × (ℕ × (BookOfStates × (List (ℕ × PullOutcome) × List Saved)))

-- those of a saved hub
abbrev pub hub_form : SavedHub → HubForm
hub_form it = (it.time, (pull_number it.is_pull, (it.states, (it.pulls, it.lives))))

-- One more goes beside these, or it may not.
pub record GoesBeside (olds : List Saved) (one : Saved) (news : List Saved) (goes : Bool) : Type 0 where
  pub added : goes ≡ true → news ≡ olds ++ one ∷ []
  pub refused : goes ≡ false → ¬ MayBeLive (olds ++ one ∷ [])

-- all of these are live, in their order
pub record AreAllLive (all lives : List Saved) : Type 0 where
  pub same : lives ≡ all
  pub may : MayBeLive all
