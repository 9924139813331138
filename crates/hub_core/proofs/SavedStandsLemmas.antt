-- Hubs that are saved alike stand for the same, and so does one that was caught up.
use Rattle.std.proofs.Common.{◌≡◌, ℤ, Bool, true, false, List, [], ◌∷◌, length, drop, All, Option, Some, None, Result, Ok, Err, IfOk, refl, sym, ap, subst, ◌∙◌, append-nil}
use Rattle.std.specs.Option.{option_map}
use Rattle.std.specs.Prelude.{if◌then◌else◌}
use Rattle.std.proofs.lemmas.Option.{none-some, same_Some}
use Rattle.atom_record.specs.declared.atom.Atom.{Atom}
use Rattle.bucket_clock.specs.Clock.{frame_at}
use Rattle.bucket_meaning.specs.Ends.{Moment}
use Rattle.config_types.specs.declared.matcher.SimpleMatcher.{SimpleMatcher}
use Rattle.flat_form.specs.declared.item.Item.{Item}
use Rattle.flat_form.specs.Flat.{IsBuilt}
use Rattle.flat_form.specs.declared.flat_error.FlatError.{FlatError}
use Rattle.hub_meaning.specs.Acceptance.{LiveConfig}
use Rattle.hub_meaning.specs.LiveConfigs.{config_at, live, history_of}
use Rattle.hub_meaning.specs.SessionLog.{own, log_frames}
use Rattle.pull_book.specs.PullBooks.{PullBookStandsFor}
use Rattle.session_frames.specs.declared.frame.Frame.{Frame}
use Rattle.state_slicer.specs.StateBooks.{StateBookStandsFor}
use Rattle.client_engine.specs.InstanceStands.{InstanceStandsFor}
use Rattle.client_engine.specs.declared.live_id.LiveId.{LiveId}
use Rattle.hub_core.specs.BookStands.{BooksStandFor}
use Rattle.hub_core.specs.CarriedConfigs.{Saved}
use Rattle.hub_core.specs.HubSaving.{saved_of, BuildsHub, StandsForSaved, IsAwake, HubStandsAwake}
use Rattle.hub_core.specs.HubStands.{SlotStandsFor, HubStandsFor}
use Rattle.hub_core.specs.NamedLives.{saved_row, saved_rows, AreNamed, KeepConfigs}
use Rattle.hub_core.specs.SavedHubs.{count_saved, SavedHub, saved_items, IsSavedHub}
use Rattle.hub_core.specs.Settling.{FoundWoken, AllWoken}
use Rattle.hub_core.specs.Sleeping.{moment_of_clock, StandsAsleep}
use Rattle.hub_core.specs.Slots.{live_id, same_id, slot_at, count_at}
use Rattle.hub_core.specs.declared.hub.Hub.{Hub}
use Rattle.hub_core.specs.declared.live_instance.LiveInstance.{LiveInstance}
use Rattle.hub_core.specs.declared.lives.Lives.{Lives}
use Rattle.hub_core.specs.declared.log_clock.LogClock.{LogClock}
use Rattle.hub_core.proofs.SavedRowsLemmas.{count-rows}
use Rattle.hub_core.proofs.SleepingLemmas.{asleep_awake}
use Rattle.hub_core.proofs.TableLemmas.{table_held}

-- what is saved of what is held
abbrev seen : Option LiveInstance → Option Saved
seen slot = option_map (λ (live : LiveInstance). live.carried) slot

-- what is found under a name among what is saved
abbrev found : LiveId → List Saved → Option Saved
found name [] = None
found name (one ∷ lives) = if same_id name one.name then Some one else found name lives

-- the first, or this where there is none
abbrev first_or : LiveId → List LiveId → LiveId
first_or none [] = none
first_or none (name ∷ names) = name

-- it is what is held there
found_is : (name : LiveId) (rows : List (LiveId × LiveInstance)) → AreNamed rows
    → seen (slot_at name rows) ≡ found name (saved_rows rows)
found_is name [] named = refl
found_is name (row ∷ rows) named =
    by_case (same_id name row.0) refl (found_is name rows (ap (λ (l : List LiveId). drop 1 l) named)) where
      by_case : (same : Bool) → same_id name row.0 ≡ same → seen (slot_at name rows) ≡ found name (saved_rows rows)
          → seen (slot_at name (row ∷ rows)) ≡ found name (saved_rows (row ∷ rows))
      by_case same e rest =
          let here : row.0 ≡ row.1.carried.name = ap (first_or row.0) named in
          let other : same_id name row.1.carried.name ≡ same = ap (same_id name) (sym here) ∙ e in
          ap (λ b. seen (if b then Some row.1 else slot_at name rows)) e ∙ on_same same rest
          ∙ ap (λ b. if b then Some (saved_row row) else found name (saved_rows rows)) (sym other)
        where
          on_same : (b : Bool) → seen (slot_at name rows) ≡ found name (saved_rows rows)
              → seen (if b then Some row.1 else slot_at name rows)
              ≡ (if b then Some (saved_row row) else found name (saved_rows rows))
          on_same true rest = refl
          on_same false rest = rest

-- what the type says of names and numbers
lives_named : (lives : Lives) → AreNamed lives.slots.entries
lives_named lives = lives.named

module _ (says : SimpleMatcher → Atom → Bool) where
  -- what stands for a live configuration is seen in what is saved of it
  slot_seen : (moment : Moment) (uid : ℤ) (frames : List Frame) (one other : Option LiveInstance)
      (config : Option LiveConfig) → seen one ≡ seen other → SlotStandsFor says moment uid frames one config
      → SlotStandsFor says moment uid frames other config
  slot_seen moment uid frames None None config same stands = stands
  slot_seen moment uid frames (Some one) None config same stands = absurd (none-some one.carried (sym same))
  slot_seen moment uid frames None (Some other) config same stands = absurd (none-some other.carried same)
  slot_seen moment uid frames (Some one) (Some other) None same stands = absurd stands
  slot_seen moment uid frames (Some one) (Some other) (Some config) same stands =
      let carried : one.carried ≡ other.carried = same_Some one.carried other.carried same in
      record {
        instance = subst (λ (it : Saved). StandsAsleep moment it.instance (history_of says uid frames config)) carried
            stands.instance;
        time = stands.time;
        bytes = ap (λ (it : Saved). it.config) (sym carried) ∙ stands.bytes;
      }

  -- hubs that are saved alike stand for the same
  pub same_saved : {J : Type 0} (one other : Hub J) → saved_of one ≡ saved_of other → (frames : List Frame)
      → HubStandsFor says one frames → HubStandsFor says other frames
  same_saved one other same frames stands =
      let lives : saved_rows one.lives.slots.entries ≡ saved_rows other.lives.slots.entries =
      ap (λ (it : SavedHub). it.lives) same in
      let moment : moment_of_clock one.clock ≡ moment_of_clock other.clock =
      ap (λ (it : SavedHub). frame_at it.time it.is_pull) same in
      record {
        clock = ap (λ (it : SavedHub). it.time) (sym same) ∙ stands.clock;
        books = record {
          states = subst (λ (it : SavedHub). StateBookStandsFor it.states (log_frames frames)) same stands.books.states;
          pulls = subst (λ (it : SavedHub). PullBookStandsFor it.pulls (log_frames frames)) same stands.books.pulls;
        };
        table = table_held other.lives;
        lives = record {
          slots = λ uid id.
              let name = live_id uid id in
              let mine = own uid frames in
              let alike : seen (slot_at name one.lives.slots.entries) ≡ seen (slot_at name other.lives.slots.entries) =
              found_is name one.lives.slots.entries (lives_named one.lives) ∙ ap (found name) lives
              ∙ sym (found_is name other.lives.slots.entries (lives_named other.lives)) in
              slot_seen (moment_of_clock other.clock) uid mine (slot_at name one.lives.slots.entries)
              (slot_at name other.lives.slots.entries) (config_at id (live mine)) alike
              (subst (λ (m : Moment). SlotStandsFor says m uid mine (slot_at name one.lives.slots.entries)
              (config_at id (live mine))) moment (stands.lives.slots uid id));
          counts = λ uid.
              sym (other.lives.counted uid)
              ∙ sym (count-rows uid other.lives.slots.entries (lives_named other.lives))
              ∙ ap (count_saved uid) (sym lives)
              ∙ count-rows uid one.lives.slots.entries (lives_named one.lives)
              ∙ one.lives.counted uid ∙ stands.lives.counts uid;
        };
      }

  -- so one that is built of items stands for what any of these items stands for
  pub stands_for_saved : {J : Type 0} (items : List Item) (hub : Hub J)
      → IsBuilt IsSavedHub saved_items items 0 (saved_of hub) (length items) → StandsForSaved says items hub
  stands_for_saved items hub built saved frames valid has stands =
      same_saved saved hub
      (built.only (saved_of saved) valid
      (record { after = []; here = sym has ∙ sym (append-nil (saved_items (saved_of saved))) })) frames stands

  -- whatever is built of items does
  pub built_stands : {J : Type 0} (items : List Item) (result : Result (Hub J) FlatError) → BuildsHub items result
      → IfOk result (StandsForSaved says items)
  built_stands items (Ok hub) built = stands_for_saved items hub built
  built_stands items (Err e) built = tt

  -- what was caught up stands for what it slept through
  slot_settled : (moment : Moment) (uid : ℤ) (frames : List Frame) (old new : Option LiveInstance)
      (config : Option LiveConfig) → FoundWoken moment old new
      → option_map (λ (live : LiveInstance). live.carried.config) new
      ≡ option_map (λ (live : LiveInstance). live.carried.config) old
      → SlotStandsFor says moment uid frames old config
      → IsAwake says uid frames new config × SlotStandsFor says moment uid frames new config
  slot_settled moment uid frames None None config woken bytes stands = (awake_none config, stands) where
    awake_none : (config : Option LiveConfig) → IsAwake says uid frames None config
    awake_none None = tt
    awake_none (Some config) = tt
  slot_settled moment uid frames (Some old) None config woken bytes stands = absurd woken
  slot_settled moment uid frames None (Some new) config woken bytes stands = absurd woken
  slot_settled moment uid frames (Some old) (Some new) None woken bytes stands = absurd stands
  slot_settled moment uid frames (Some old) (Some new) (Some config) woken bytes stands =
      let history = history_of says uid frames config in
      let awake : InstanceStandsFor new.carried.instance history = woken history stands.instance in (
        awake,
        record {
          instance = asleep_awake moment old.carried.instance history stands.instance new.carried.instance awake;
          time = stands.time;
          bytes = same_Some new.carried.config old.carried.config bytes ∙ stands.bytes;
        },
      )

  -- a hub of which all is caught up is awake
  pub hub_settled : {J : Type 0} (old new : Hub J) → new.clock ≡ old.clock → new.books ≡ old.books
      → AllWoken (moment_of_clock old.clock) old.lives.slots.entries new.lives.slots.entries
      → KeepConfigs old.lives.slots.entries new.lives.slots.entries → new.lives.counts ≡ old.lives.counts
      → (frames : List Frame) → HubStandsFor says old frames → HubStandsAwake says new frames
  hub_settled old new clock books woken bytes counts frames stands =
      let each : (uid id : ℤ) → _ = λ uid id.
      slot_settled (moment_of_clock old.clock) uid (own uid frames) (slot_at (live_id uid id) old.lives.slots.entries)
      (slot_at (live_id uid id) new.lives.slots.entries) (config_at id (live (own uid frames)))
      (woken (live_id uid id)) (bytes (live_id uid id)) (stands.lives.slots uid id) in
      record {
        stands = record {
          clock = ap (λ (c : _). c.time) clock ∙ stands.clock;
          books = subst (λ (b : _). BooksStandFor b (log_frames frames)) (sym books) stands.books;
          table = table_held new.lives;
          lives = record {
            slots = λ uid id.
                subst (λ (c : LogClock). SlotStandsFor says (moment_of_clock c) uid (own uid frames)
                (slot_at (live_id uid id) new.lives.slots.entries) (config_at id (live (own uid frames)))) (sym clock)
                (each uid id).1;
            counts = λ uid. ap (λ (c : _). count_at uid c.entries) counts ∙ stands.lives.counts uid;
          };
        };
        awake = λ uid id. (each uid id).0;
      }
