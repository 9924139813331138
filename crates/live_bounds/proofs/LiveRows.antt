-- Each row of a hub is of one that is live after the frames that the hub stands for.
use Rattle.std.proofs.Common.{◌≡◌, ℤ, Bool, true, false, ◌||◌, if◌then◌else◌, List, [], ◌∷◌, map, Option, Some, None, refl, sym, ap, subst, ◌∙◌, true≢false}
use Rattle.std.specs.List.{AllByRecursion, flat_map, list_any}
use Rattle.std.specs.Ordering.{int_eq}
use Rattle.std.proofs.lemmas.Bool.Decides.{Decides-int_eq}
use Rattle.std.proofs.lemmas.List.Folds.{list_any-append}
use Rattle.atom_record.specs.declared.atom.Atom.{Atom}
use Rattle.bucket_meaning.specs.Guard.{is_among}
use Rattle.config_types.specs.declared.matcher.SimpleMatcher.{SimpleMatcher}
use Rattle.config_links.specs.declared.linked.Linked.{Linked}
use Rattle.config_links.specs.Verdict.{linked_form}
use Rattle.session_frames.specs.declared.frame.Frame.{Frame}
use Rattle.hub_meaning.specs.Acceptance.{LiveConfig}
use Rattle.hub_meaning.specs.LiveConfigs.{config_at, live}
use Rattle.hub_meaning.specs.SessionLog.{own}
use Rattle.saved_weight.specs.Weigh.{LiveOf, clients_of, lives_of_client, lives_of}
use Rattle.saved_weight.proofs.LivesWithin.{client_there}
use Rattle.client_engine.specs.declared.live_id.LiveId.{LiveId}
use Rattle.hub_core.specs.declared.hub.Hub.{Hub}
use Rattle.hub_core.specs.declared.live_instance.LiveInstance.{LiveInstance}
use Rattle.hub_core.specs.HubStands.{HubStandsFor, SlotStandsFor}
use Rattle.hub_core.specs.Sleeping.{moment_of_clock}
use Rattle.hub_core.specs.Slots.{slot_at}
use Rattle.live_bounds.proofs.DifferentLemmas.{or_right}
use Rattle.live_bounds.proofs.RowsApart.{Rows, AreFound}

-- A row is of one that is live under its name, with the matchers of that configuration.
pub record IsLiveRow (frames : List Frame) (row : LiveId × LiveInstance) : Type 0 where
  pub config : LiveConfig
  pub found : config_at row.0.id (live (own row.0.uid frames)) ≡ Some config
  pub matchers : row.1.carried.instance.matchers ≡ (linked_form config.config row.0.uid).matchers

module _ (says : SimpleMatcher → Atom → Bool) {J : Type 0} (hub : Hub J) (frames : List Frame)
    (stands : HubStandsFor says hub frames) where
  -- what is found under a name is of what is live there
  row_live : (row : LiveId × LiveInstance) → slot_at row.0 hub.lives.slots.entries ≡ Some row.1 → IsLiveRow frames row
  row_live row found =
      by (config_at row.0.id (live (own row.0.uid frames))) refl
      (subst (λ slot. SlotStandsFor says (moment_of_clock hub.clock) row.0.uid (own row.0.uid frames) slot
      (config_at row.0.id (live (own row.0.uid frames)))) found (stands.lives.slots row.0.uid row.0.id)) where
        by : (config : Option LiveConfig) → config_at row.0.id (live (own row.0.uid frames)) ≡ config
            → SlotStandsFor says (moment_of_clock hub.clock) row.0.uid (own row.0.uid frames) (Some row.1) config
            → IsLiveRow frames row
        by None is at = absurd at
        by (Some config) is at = record {
          config = config;
          found = is;
          matchers = ap (λ (linked : Linked). linked.matchers) at.instance.stands.linked;
        }

  -- so are all of them
  pub all_live : (rows : Rows) → AreFound hub.lives.slots.entries rows → AllByRecursion (IsLiveRow frames) rows
  all_live [] found = tt
  all_live (row ∷ rows) found = (row_live row found.0, all_live rows found.1)

module _ (frames : List Frame) (p : LiveOf → Bool) (uid id : ℤ) (config : LiveConfig)
    (found : config_at id (live (own uid frames)) ≡ Some config) (holds : p (uid, config) ≡ true) where
  -- what is so of a configuration is so of one among its client's
  in_own : (configs : List LiveConfig) → config_at id configs ≡ Some config
      → list_any p (map (λ (config : LiveConfig). (uid, config)) configs) ≡ true
  in_own [] there = absurd (cc)
  in_own (first ∷ configs) there = by (int_eq first.id id) there (in_own configs) where
    others : Bool
    others = list_any p (map (λ (config : LiveConfig). (uid, config)) configs)

    by : (same : Bool) → (if same then Some first else config_at id configs) ≡ Some config
        → (config_at id configs ≡ Some config → others ≡ true) → (p (uid, first) || others) ≡ true
    by true there rest =
        let same : first ≡ config = cc in
        ap (λ (c : LiveConfig). p (uid, c) || others) same ∙ ap (λ b. b || others) holds
    by false there rest = or_right (p (uid, first)) others (rest there)

  -- and among those of clients with this one
  in_clients : (clients : List ℤ) → is_among int_eq uid clients ≡ true
      → list_any p (flat_map (lives_of_client frames) clients) ≡ true
  in_clients [] among = absurd (cc)
  in_clients (client ∷ clients) among =
      list_any-append p (lives_of_client frames client) (flat_map (lives_of_client frames) clients)
      ∙ by (int_eq client uid) refl among (in_clients clients) where
        later : Bool
        later = list_any p (flat_map (lives_of_client frames) clients)

        by : (same : Bool) → int_eq client uid ≡ same → (same || is_among int_eq uid clients) ≡ true
            → (is_among int_eq uid clients ≡ true → later ≡ true)
            → (list_any p (lives_of_client frames client) || later) ≡ true
        by true is among rest =
            let same : client ≡ uid = (Decides-int_eq client uid).0 is in
            ap (λ (c : ℤ). list_any p (lives_of_client frames c) || later) same
            ∙ ap (λ b. b || later) (in_own (live (own uid frames)) found)
        by false is among rest = or_right (list_any p (lives_of_client frames client)) later (rest among)

  -- and of one among all that is live
  pub any_live : list_any p (lives_of frames) ≡ true
  any_live = in_clients (clients_of frames) (client_there frames uid id config found)

-- what is so of a row is so of one that is live: then what is so of any row is
pub rows_live : (frames : List Frame) (p : LiveOf → Bool) (r : LiveId × LiveInstance → Bool)
    → ((row : LiveId × LiveInstance) → IsLiveRow frames row → r row ≡ true → list_any p (lives_of frames) ≡ true)
    → (rows : Rows) → AllByRecursion (IsLiveRow frames) rows → list_any r rows ≡ true
    → list_any p (lives_of frames) ≡ true
rows_live frames p r each [] all any = absurd (true≢false (sym any))
rows_live frames p r each (row ∷ rows) all any =
    by (r row) refl any (rows_live frames p r each rows all.1) where
      by : (here : Bool) → r row ≡ here → (here || list_any r rows) ≡ true
          → (list_any r rows ≡ true → list_any p (lives_of frames) ≡ true) → list_any p (lives_of frames) ≡ true
      by true is any rest = each row all.0 is
      by false is any rest = rest any
