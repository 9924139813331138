-- A hub that is awake, what is saved of a hub, and what building one from items answers.
use Rattle.std.specs.Prelude.{◌≡◌, ◌<◌, ◌^◌, ℤ, Bool, List, length, Option, Some, Result, Ok, Err, OnOk}
use Rattle.atom_record.specs.declared.atom.Atom.{Atom}
use Rattle.config_types.specs.declared.matcher.SimpleMatcher.{SimpleMatcher}
use Rattle.flat_form.specs.Flat.{IsBuilt}
use Rattle.flat_form.specs.declared.flat_error.FlatError.{FlatError}
use Rattle.flat_form.specs.declared.flat_error.FlatError.TheVariants.{Bad, Memory}
use Rattle.flat_form.specs.declared.item.Item.{Item}
use Rattle.hub_meaning.specs.Acceptance.{LiveConfig}
use Rattle.hub_meaning.specs.LiveConfigs.{config_at, live, history_of}
use Rattle.hub_meaning.specs.SessionLog.{own}
use Rattle.session_frames.specs.declared.frame.Frame.{Frame}
use Rattle.client_engine.specs.InstanceStands.{InstanceStandsFor}
use Rattle.hub_core.specs.HubStands.{HubStandsFor}
use Rattle.hub_core.specs.NamedLives.{saved_rows}
use Rattle.hub_core.specs.SavedHubs.{SavedHub, saved_items, IsSavedHub, MayBeLive, HubForm, hub_form}
use Rattle.hub_core.specs.Slots.{live_id, slot_at}
use Rattle.hub_core.specs.declared.hub.Hub.{Hub}
use Rattle.hub_core.specs.declared.live_instance.LiveInstance.{LiveInstance}

-- a hub as it is saved: slots of matchers, what is heard, notes and counts aren't
abbrev pub saved_of : {J : Type 0} → Hub J → SavedHub
saved_of hub = record {
  time = hub.clock.time;
  is_pull = hub.clock.is_pull;
  states = hub.books.states;
  pulls = hub.books.pulls;
  lives = saved_rows hub.lives.slots.entries;
}

-- A hub has just these parts, and can be saved if they are valid.
pub record IsRestored {J : Type 0} (form : HubForm) (hub : Hub J) : Type 0 where
  pub same : hub_form (saved_of hub) ≡ form
  pub timely : hub.clock.time < 2 ^ 63
  pub lives : MayBeLive form.1.1.1.1

-- what a hub of such parts is, or that none is saved as these
abbrev pub RestoresHub : {J : Type 0} → HubForm → Result (Hub J) FlatError → Type 0
RestoresHub form (Ok hub) = IsRestored form hub
RestoresHub form (Err Bad) = (saved : SavedHub) → IsSavedHub saved → ¬ (hub_form saved ≡ form)
RestoresHub form (Err Memory) = Unit {0}

-- what building from items answers: the hub that is saved as just these, or that none is
abbrev pub BuildsHub : {J : Type 0} → List Item → Result (Hub J) FlatError → Type 0
BuildsHub items (Ok hub) = IsBuilt IsSavedHub saved_items items 0 (saved_of hub) (length items)
BuildsHub items (Err Bad) = (saved : SavedHub) → IsSavedHub saved → ¬ (saved_items saved ≡ items)
BuildsHub items (Err Memory) = Unit {0}

module _ (says : SimpleMatcher → Atom → Bool) where
  -- whatever hub is saved as these items, whatever it stands for, this one stands for
  abbrev pub StandsForSaved : {J : Type 0} → List Item → Hub J → Type 0
  StandsForSaved {J} items hub =
      (saved : Hub J) (frames : List Frame) → IsSavedHub (saved_of saved) → saved_items (saved_of saved) ≡ items
      → HubStandsFor says saved frames → HubStandsFor says hub frames

  -- what is held at an id of a client has seen all of its own frames
  abbrev pub IsAwake : ℤ → List Frame → Option LiveInstance → Option LiveConfig → Type 0
  IsAwake uid frames (Some it) (Some config) =
      InstanceStandsFor it.carried.instance (history_of says uid frames config)
  IsAwake uid frames _ _ = Unit {0}

  -- The hub stands for these frames, and nothing that is live sleeps.
  pub record HubStandsAwake {J : Type 0} (hub : Hub J) (frames : List Frame) : Type 0 where
    pub stands : HubStandsFor says hub frames
    pub awake : (uid id : ℤ) → IsAwake uid (own uid frames) (slot_at (live_id uid id) hub.lives.slots.entries)
        (config_at id (live (own uid frames)))

  -- whatever frames the old hub stands for, the new one does, and nothing sleeps, if it is so
  abbrev pub WakesAll : {J E : Type 0} → Hub J → Hub J → Result Unit E → Type 0
  WakesAll old new result =
      (frames : List Frame) → HubStandsFor says old frames → OnOk result (HubStandsAwake new frames)
