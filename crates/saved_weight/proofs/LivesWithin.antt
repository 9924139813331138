-- What stands under names that are live counts no more than all that is live, whatever is counted.
use Rattle.std.proofs.Common.{◌≡◌, ℕ, ℤ, ◌≤◌, Bool, true, false, ◌&&◌, ◌||◌, if◌then◌else◌, List, [], ◌∷◌, ◌++◌, map, Some, None, refl, sym, ap, subst, ◌∙◌, arith}
use Rattle.std.specs.Bool.{Decides}
use Rattle.std.specs.List.{AllByRecursion, flat_map, sum_by}
use Rattle.std.specs.Ordering.{int_eq}
use Rattle.std.proofs.lemmas.Bool.Decides.{Decides-int_eq}
use Rattle.bucket_meaning.proofs.GuardLemmas.{is_among-firsts}
use Rattle.bucket_meaning.specs.Guard.{is_among}
use Rattle.session_frames.specs.declared.frame.Frame.{Frame}
use Rattle.session_frames.specs.declared.frame.Frame.TheVariants.{Log, Install, Remove, Report}
use Rattle.hub_meaning.specs.Acceptance.{LiveConfig}
use Rattle.hub_meaning.specs.LiveConfigs.{config_at, live_from, live}
use Rattle.hub_meaning.specs.SessionLog.{own}
use Rattle.saved_weight.proofs.SizeLaws.{sum_by-map}
use Rattle.saved_weight.proofs.SumFound.{weight_at, AreApart, sum_found}
use Rattle.saved_weight.specs.Weigh.{commander_of, clients_of, LiveOf, lives_of_client, lives_of, name_of_live}

-- two names are the same: their clients, and their ids
abbrev pub same_name : ℤ × ℤ → ℤ × ℤ → Bool
same_name name other = int_eq other.0 name.0 && int_eq other.1 name.1

-- a name is its own
pub name_itself : (name : ℤ × ℤ) → same_name name name ≡ true
name_itself name =
    ap (λ b. b && int_eq name.1 name.1) ((Decides-int_eq name.0 name.0).1 refl) ∙ (Decides-int_eq name.1 name.1).1 refl

-- the same name is one name
pub name_exact : (name other : ℤ × ℤ) → same_name name other ≡ true → name ≡ other
name_exact name other same =
    by (int_eq other.0 name.0) (int_eq other.1 name.1) same (Decides-int_eq other.0 name.0).0
    (Decides-int_eq other.1 name.1).0 where
      by : (client id : Bool) → (client && id) ≡ true → (client ≡ true → other.0 ≡ name.0)
          → (id ≡ true → other.1 ≡ name.1) → name ≡ other
      by true true both one two =
          ap (λ (uid : ℤ). let pair : ℤ × ℤ = (uid, name.1) in pair) (sym (one refl))
          ∙ ap (λ (id : ℤ). let pair : ℤ × ℤ = (other.0, id) in pair) (sym (two refl))
      by true false both one two = absurd (cc)
      by false id both one two = absurd (cc)

-- no command of a client: nothing is live for it
none_live : (uid : ℤ) (before frames : List Frame) → is_among int_eq uid (flat_map commander_of frames) ≡ false
    → live_from before [] (own uid frames) ≡ []
none_live uid before [] none = refl
none_live uid before (Log frame ∷ frames) none = none_live uid (before ++ Log frame ∷ []) frames none
none_live uid before (Install client id bytes ∷ frames) none =
    skip (int_eq client uid) none (none_live uid before frames) where
      skip : (mine : Bool) → (mine || is_among int_eq uid (flat_map commander_of frames)) ≡ false
          → (is_among int_eq uid (flat_map commander_of frames) ≡ false → live_from before [] (own uid frames) ≡ [])
          → live_from before [] (if mine then Install client id bytes ∷ own uid frames else own uid frames) ≡ []
      skip true none rest = absurd (cc)
      skip false none rest = rest none
none_live uid before (Remove client id ∷ frames) none =
    skip (int_eq client uid) none (none_live uid before frames) where
      skip : (mine : Bool) → (mine || is_among int_eq uid (flat_map commander_of frames)) ≡ false
          → (is_among int_eq uid (flat_map commander_of frames) ≡ false → live_from before [] (own uid frames) ≡ [])
          → live_from before [] (if mine then Remove client id ∷ own uid frames else own uid frames) ≡ []
      skip true none rest = absurd (cc)
      skip false none rest = rest none
none_live uid before (Report client id cut ∷ frames) none =
    skip (int_eq client uid) none (none_live uid before frames) where
      skip : (mine : Bool) → (mine || is_among int_eq uid (flat_map commander_of frames)) ≡ false
          → (is_among int_eq uid (flat_map commander_of frames) ≡ false → live_from before [] (own uid frames) ≡ [])
          → live_from before [] (if mine then Report client id cut ∷ own uid frames else own uid frames) ≡ []
      skip true none rest = absurd (cc)
      skip false none rest = rest none

-- a client for which something is live is one of the clients
pub client_there : (frames : List Frame) (uid id : ℤ) (config : LiveConfig)
    → config_at id (live (own uid frames)) ≡ Some config → is_among int_eq uid (clients_of frames) ≡ true
client_there frames uid id config found =
    is_among-firsts int_eq Decides-int_eq uid [] (flat_map commander_of frames)
    ∙ by (is_among int_eq uid (flat_map commander_of frames)) (none_live uid [] frames) where
      never : None ≡ Some config → ⊥
      never is = cc

      by : (among : Bool) → (among ≡ false → live (own uid frames) ≡ []) → among ≡ true
      by true none = refl
      by false none = absurd (never (sym (ap (config_at id) (none refl)) ∙ found))

-- What is counted of one that is live, as its weight, is a parameter.
module _ (frames : List Frame) (weight : LiveOf → ℕ) where
  -- what is live, under its name
  abbrev named_live : LiveOf → (ℤ × ℤ) × LiveOf
  named_live it = (name_of_live it, it)

  -- what is live under a name weighs
  abbrev row_weight : (ℤ × ℤ) × LiveOf → ℕ
  row_weight row = weight row.1

  -- what some of all that is live weigh under a name
  abbrev weight_under : ℤ × ℤ → List LiveOf → ℕ
  weight_under name lives =
      weight_at same_name name_itself name_exact row_weight row_weight name (map named_live lives)

  -- what is live for another client weighs nothing under a name
  other_client : (uid id client : ℤ) (configs : List LiveConfig) (later : List LiveOf) → int_eq client uid ≡ false
      → weight_under (uid, id) (map (λ (config : LiveConfig). (client, config)) configs ++ later)
      ≡ weight_under (uid, id) later
  other_client uid id client [] later other = refl
  other_client uid id client (config ∷ configs) later other =
      let rest = other_client uid id client configs later other in
      ap (λ b. if b && int_eq config.id id then weight (client, config)
      else weight_under (uid, id) (map (λ (config : LiveConfig). (client, config)) configs ++ later)) other ∙ rest

  -- what is live for the client itself weighs what is found at the id
  own_client : (uid id : ℤ) (configs : List LiveConfig) (later : List LiveOf) (config : LiveConfig)
      → config_at id configs ≡ Some config
      → weight_under (uid, id) (map (λ (config : LiveConfig). (uid, config)) configs ++ later)
      ≡ weight (uid, config)
  own_client uid id [] later config found = absurd (cc)
  own_client uid id (first ∷ configs) later config found =
      ap (λ b. if b && int_eq first.id id then weight (uid, first)
      else weight_under (uid, id) (map (λ (config : LiveConfig). (uid, config)) configs ++ later))
      ((Decides-int_eq uid uid).1 refl)
      ∙ by (int_eq first.id id) found (own_client uid id configs later config) where
        by : (same : Bool) → (if same then Some first else config_at id configs) ≡ Some config
            → (config_at id configs ≡ Some config
            → weight_under (uid, id) (map (λ (config : LiveConfig). (uid, config)) configs ++ later)
            ≡ weight (uid, config))
            → (if same then weight (uid, first)
            else weight_under (uid, id) (map (λ (config : LiveConfig). (uid, config)) configs ++ later))
            ≡ weight (uid, config)
        by true found rest =
            let same : first ≡ config = cc in ap (λ (c : LiveConfig). weight (uid, c)) same
        by false found rest = rest found

  -- among all clients it weighs that
  among_clients : (uid id : ℤ) (config : LiveConfig) → config_at id (live (own uid frames)) ≡ Some config
      → (clients : List ℤ) → is_among int_eq uid clients ≡ true
      → weight_under (uid, id) (flat_map (lives_of_client frames) clients) ≡ weight (uid, config)
  among_clients uid id config found [] among = absurd (cc)
  among_clients uid id config found (client ∷ clients) among =
      by (int_eq client uid) refl among (among_clients uid id config found clients) where
        later : List LiveOf
        later = flat_map (lives_of_client frames) clients

        by : (same : Bool) → int_eq client uid ≡ same → (same || is_among int_eq uid clients) ≡ true
            → (is_among int_eq uid clients ≡ true
            → weight_under (uid, id) later ≡ weight (uid, config))
            → weight_under (uid, id) (lives_of_client frames client ++ later) ≡ weight (uid, config)
        by true is among rest =
            let same : client ≡ uid = (Decides-int_eq client uid).0 is in
            ap (λ (c : ℤ). weight_under (uid, id) (lives_of_client frames c ++ later)) same
            ∙ own_client uid id (live (own uid frames)) later config found
        by false is among rest =
            other_client uid id client (live (own client frames)) later is ∙ rest among

  -- What stands under a name is live there, and takes no more than that weighs.
  pub record IsFoundLive {A : Type 0} (size : (ℤ × ℤ) × A → ℕ) (row : (ℤ × ℤ) × A) : Type 0 where
    pub config : LiveConfig
    pub found : config_at row.0.1 (live (own row.0.0 frames)) ≡ Some config
    pub within : size row ≤ weight (row.0.0, config)

  -- so much weighs what is found
  found_weighs : {A : Type 0} (size : (ℤ × ℤ) × A → ℕ) (row : (ℤ × ℤ) × A) → IsFoundLive size row
      → size row ≤ weight_under row.0 (lives_of frames)
  found_weighs size row is =
      let uid = row.0.0 in
      let id = row.0.1 in
      subst (λ w. size row ≤ w)
      (sym (among_clients uid id is.config is.found (clients_of frames)
      (client_there frames uid id is.config is.found)))
      is.within

  -- rows under names apart, each of which is live, take no more than all that is live weighs
  pub lives_within : {A : Type 0} (size : (ℤ × ℤ) × A → ℕ) (rows : List ((ℤ × ℤ) × A))
      → AreApart same_name name_itself name_exact size row_weight rows
      → AllByRecursion (IsFoundLive size) rows
      → sum_by size rows ≤ sum_by weight (lives_of frames)
  lives_within {A = A} size rows apart found =
      let lives = lives_of frames in
      let least = sum_found same_name name_itself name_exact size row_weight rows (map named_live lives) apart
      (each rows found) in
      let same = sum_by-map row_weight named_live lives in
      omega (arith, least, same)
    where
      each : (rows : List ((ℤ × ℤ) × A)) → AllByRecursion (IsFoundLive size) rows
          → AllByRecursion (λ row. size row ≤ weight_under row.0 (lives_of frames)) rows
      each [] found = tt
      each (row ∷ rows) found = (found_weighs size row found.0, each rows found.1)
