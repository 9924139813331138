-- The saved form of a hub that is awake is no longer than its frames weigh.
use Rattle.std.proofs.Common.{◌≡◌, ℤ, ◌≤◌, Bool, false, List, [], ◌∷◌, map, length, Option, Some, None, refl, sym, ap, subst}
use Rattle.std.specs.Prelude.{All}
use Rattle.std.specs.Int.{w32, w64, cast_unsigned}
use Rattle.std.specs.List.{AllByRecursion, IsDistinct}
use Rattle.std.specs.Map.{keys_of}
use Rattle.std.proofs.lemmas.List.Elements.{All-head, All-tail}
use Rattle.atom_record.specs.declared.atom.Atom.{Atom}
use Rattle.config_types.specs.declared.matcher.SimpleMatcher.{SimpleMatcher}
use Rattle.flat_form.specs.ItemSpelling.{spelled_items}
use Rattle.session_frames.specs.declared.frame.Frame.{Frame}
use Rattle.hub_meaning.specs.Acceptance.{LiveConfig}
use Rattle.hub_meaning.specs.LiveConfigs.{config_at, live}
use Rattle.hub_meaning.specs.SessionLog.{own}
use Rattle.saved_length.proofs.HubWithin.{live_fits, FitsLive, hub_within}
use Rattle.live_bounds.proofs.RowsApart.{Rows, AreFound, all_found, pair_of, pairs_apart}
use Rattle.saved_weight.proofs.LivesWithin.{same_name}
use Rattle.saved_weight.specs.Weigh.{weigh}
use Rattle.client_engine.specs.declared.live_id.LiveId.{LiveId}
use Rattle.hub_core.specs.declared.hub.Hub.{Hub}
use Rattle.hub_core.specs.declared.live_instance.LiveInstance.{LiveInstance}
use Rattle.hub_core.specs.CarriedConfigs.{Saved}
use Rattle.hub_core.specs.HubSaving.{saved_of, IsAwake, HubStandsAwake}
use Rattle.hub_core.specs.HubStands.{SlotStandsFor}
use Rattle.hub_core.specs.NamedLives.{saved_rows, names_of, AreNamed}
use Rattle.hub_core.specs.SavedConfigs.{carried_items, IsCarried}
use Rattle.hub_core.specs.SavedHubs.{saved_items, IsSavedHub}
use Rattle.hub_core.specs.SavedMoments.{pull_number}
use Rattle.hub_core.specs.Sleeping.{moment_of_clock}
use Rattle.hub_core.specs.Slots.{same_id, slot_at}

-- that of what is saved
abbrev pair_in : Saved → ℤ × ℤ
pair_in it = pair_of it.name

-- the first of two equal lists
first_is : (one other : LiveId) (names others : List LiveId) → one ∷ names ≡ other ∷ others → one ≡ other
first_is one other names others is = cc

-- and what is behind it
rest_is : (one other : LiveId) (names others : List LiveId) → one ∷ names ≡ other ∷ others → names ≡ others
rest_is one other names others is = cc

-- none of these is the same by its numbers
others_apart : (name : LiveId) (lives : List Saved)
    → AllByRecursion (λ other. same_id name other ≡ false) (names_of lives)
    → AllByRecursion (λ other. same_name (pair_of name) other ≡ false) (map pair_in lives)
others_apart name [] apart = tt
others_apart name (it ∷ lives) apart = (pairs_apart name it.name apart.0, others_apart name lives apart.1)

-- nor are any two of them
all_apart : (lives : List Saved) → IsDistinct same_id (names_of lives) → IsDistinct same_name (map pair_in lives)
unfolding IsDistinct
all_apart [] apart = tt
all_apart (it ∷ lives) apart = (others_apart it.name lives apart.0, all_apart lives apart.1)

module _ (says : SimpleMatcher → Atom → Bool) {J : Type 0} (hub : Hub J) (frames : List Frame)
    (stands : HubStandsAwake says hub frames) where
  -- what stands under a name takes no more than it weighs
  one_fits : (live_one : LiveInstance) → IsCarried live_one.carried
      → slot_at live_one.carried.name hub.lives.slots.entries ≡ Some live_one
      → FitsLive says frames pair_in carried_items live_one.carried
  one_fits live_one carried found =
      let it = live_one.carried in
      let uid = it.name.uid in
      let moment = moment_of_clock hub.clock in
      let config = config_at it.name.id (live (own uid frames)) in
      by config refl
      (subst (λ slot. SlotStandsFor says moment uid (own uid frames) slot config) found
      (stands.stands.lives.slots uid it.name.id))
      (subst (λ slot. IsAwake says uid (own uid frames) slot config) found (stands.awake uid it.name.id)) where
        by : (config : Option LiveConfig)
            → config_at live_one.carried.name.id (live (own live_one.carried.name.uid frames)) ≡ config
            → SlotStandsFor says (moment_of_clock hub.clock) live_one.carried.name.uid
            (own live_one.carried.name.uid frames) (Some live_one) config
            → IsAwake says live_one.carried.name.uid (own live_one.carried.name.uid frames) (Some live_one) config
            → FitsLive says frames pair_in carried_items live_one.carried
        by None is at awake = absurd at
        by (Some config) is at awake =
            let it = live_one.carried in
            record {
              config = config;
              found = is;
              fits = live_fits says frames it.name.uid config (cast_unsigned w32 it.name.uid)
                  (cast_unsigned w64 it.name.id) it.config it.instance at.bytes awake carried.instance.saved.tracks;
            }

  -- so do all
  all_fit : (rows : Rows) → AreNamed rows → AreFound hub.lives.slots.entries rows → All IsCarried (saved_rows rows)
      → AllByRecursion (FitsLive says frames pair_in carried_items) (saved_rows rows)
  all_fit [] named found carried = tt
  all_fit (row ∷ rows) named found carried =
      let own_name = first_is row.0 row.1.carried.name (keys_of rows) (names_of (saved_rows rows)) named in
      let others = rest_is row.0 row.1.carried.name (keys_of rows) (names_of (saved_rows rows)) named in (
        one_fits row.1 (All-head IsCarried row.1.carried (saved_rows rows) carried)
            (subst (λ name. slot_at name hub.lives.slots.entries ≡ Some row.1) own_name found.0),
        all_fit rows others found.1 (All-tail IsCarried row.1.carried (saved_rows rows) carried),
      )

  -- the law: its saved form has no more bytes than the frames weigh
  pub saved_within : IsSavedHub (saved_of hub)
      → length (spelled_items (saved_items (saved_of hub))) ≤ weigh says frames
  saved_within saved =
      let rows = hub.lives.slots.entries in
      let keys : IsDistinct same_id (keys_of rows) =
      subst (IsDistinct same_id) (sym hub.lives.named) saved.lives.apart in
      hub_within says frames pair_in carried_items hub.clock.time (pull_number hub.clock.is_pull) hub.books.states
      hub.books.pulls (saved_rows rows) stands.stands.books.states stands.stands.books.pulls
      (all_apart (saved_rows rows) saved.lives.apart)
      (all_fit rows hub.lives.named (all_found rows keys) saved.carried)
