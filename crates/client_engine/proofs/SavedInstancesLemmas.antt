-- For the build of an instance, which is saved as its base, the time of its last report, its tables, and what each
-- metric has.
use Rattle.std.proofs.Common.{◌≡◌, ℕ, List, [], ◌∷◌, ◌++◌, length, map, All, Ok, Err, refl, sym, ap, subst, ◌∙◌}
use Rattle.std.proofs.lemmas.List.{length-map}
use Rattle.std.proofs.lemmas.List.Elements.{All-nil, All-cons, All-head, All-tail, All-map}
use Rattle.std.proofs.lemmas.List.Folds.{flat_map-map}
use Rattle.std.specs.List.{flat_map}
use Rattle.config_links.specs.declared.linked.Linked.{Linked}
use Rattle.flat_form.specs.declared.item.Item.{Item}
use Rattle.flat_form.specs.declared.item.Item.TheVariants.{Num}
use Rattle.flat_form.specs.declared.flat_error.FlatError.{FlatError}
use Rattle.flat_form.specs.declared.flat_error.FlatError.TheVariants.{Bad, Memory}
use Rattle.flat_form.specs.Flat.{StandsAt, Anything, IsValidPair, IsBuilt, Builds, number_items, pair_items, list_items}
use Rattle.flat_form.proofs.FlatLaws as laws
use Rattle.predicate_state.specs.PredicateItems.{predicate_items, IsPredicateTable}
use Rattle.known_conditions.proofs.SavedListsLemmas.{adds_two}
use Rattle.client_engine.specs.Running.{Running, linked_of}
use Rattle.client_engine.specs.SavedInstances.{held_in, held_items, IsHeldLane, track_items, IsSavedTrack, instance_items, IsSavedInstance, InstanceForm, instance_form, BuildsInstance}
use Rattle.client_engine.specs.Tracks.{metric_in}
use Rattle.client_engine.specs.declared.track.Track.{Track}

-- the items of what is saved of an instance
abbrev form_items : InstanceForm → List Item
form_items = pair_items number_items (pair_items number_items
    (pair_items (list_items predicate_items) (list_items held_items)))

-- all of it is valid
abbrev IsForm : InstanceForm → Type 0
IsForm = IsValidPair Anything (IsValidPair Anything (IsValidPair (All IsPredicateTable) (All IsHeldLane)))

-- tracks have the items of what they have
tracks_held : (tracks : List Track) → list_items track_items tracks ≡ list_items held_items (map held_in tracks)
tracks_held tracks =
    ap (λ count. Num count ∷ flat_map track_items tracks) (sym (length-map tracks held_in))
    ∙ ap (λ l. Num (length (map held_in tracks)) ∷ l) (sym (flat_map-map held_items held_in tracks))

-- an instance has the items of what is saved of it
as_form : (it : Running) → instance_items it ≡ form_items (instance_form it)
as_form it =
    ap (λ l. Num it.base ∷ Num it.last ∷ (list_items predicate_items it.known.tables ++ l)) (tracks_held it.tracks)

-- tracks with the same metrics and the same of what each has are the same
same_tracks : (one other : List Track) → map metric_in one ≡ map metric_in other → map held_in one ≡ map held_in other
    → one ≡ other
same_tracks [] [] metrics held = refl
same_tracks [] (track ∷ tracks) metrics held = absurd cc
same_tracks (track ∷ tracks) [] metrics held = absurd cc
same_tracks (track ∷ tracks) (later ∷ others) metrics held =
    let metric : track.metric ≡ later.metric = cc in
    let first : held_in track ≡ held_in later = cc in
    let others_metrics : map metric_in tracks ≡ map metric_in others = cc in
    let others_held : map held_in tracks ≡ map held_in others = cc in
    let rest : tracks ≡ others = same_tracks tracks others others_metrics others_held in
    let same : track ≡ later = λ i. record { metric = metric i; lane = (first i).0; acts = (first i).1 } in
    λ i. same i ∷ rest i

-- instances of one configuration of which the same is saved are the same
same_instance : (one other : Running) → linked_of one ≡ linked_of other → instance_form one ≡ instance_form other
    → one ≡ other
same_instance one other linked form =
    let tracks : one.tracks ≡ other.tracks = same_tracks one.tracks other.tracks
    (ap (λ (l : Linked). l.metrics) linked) (ap (λ (f : InstanceForm). f.1.1.1) form) in
    λ i. record {
      matchers = (linked i).matchers;
      known = record { predicates = (linked i).predicates; tables = (form i).1.1.0 };
      states = (linked i).states;
      tracks = tracks i;
      alerts = (linked i).alerts;
      base = (form i).0;
      last = (form i).1.0;
    }

module _ (linked : Linked) (items : List Item) (place : ℕ) where
  -- what is saved of an instance is valid
  form_valid : (it : Running) → IsSavedInstance linked it → IsForm (instance_form it)
  form_valid it is = (tt, (tt, (is.tables, All-map IsHeldLane held_in it.tracks is.tracks)))

  -- where nothing of the kind stands, no instance does
  pub instance_fails : (e : FlatError) → Builds IsForm form_items items place (Err e)
      → Builds (IsSavedInstance linked) instance_items items place (Err e)
  instance_fails e fails =
      laws.form_fails IsForm form_items (IsSavedInstance linked) instance_items instance_form as_form form_valid items
      place e fails

  module _ (form : InstanceForm) (next : ℕ) (one : IsBuilt IsForm form_items items place form next) where
    -- where it was saved of no instance of this configuration, none stands there
    pub no_instance : (e : FlatError) → BuildsInstance linked form (Err e)
        → Builds (IsSavedInstance linked) instance_items items place (Err e)
    no_instance Bad never = λ it is there.
        never it is
        (one.only (instance_form it) (form_valid it is) (subst (StandsAt items place) (as_form it) there))
    no_instance Memory none = tt

    -- the tracks of an instance of which valid things are saved have valid things
    held_valid : (tracks : List Track) → All IsHeldLane (map held_in tracks) → All IsSavedTrack tracks
    held_valid [] all = All-nil IsSavedTrack
    held_valid (track ∷ tracks) all =
        All-cons IsSavedTrack track tracks (All-head IsHeldLane (held_in track) (map held_in tracks) all)
        (held_valid tracks (All-tail IsHeldLane (held_in track) (map held_in tracks) all))

    -- the instance of this configuration of which it was saved stands there
    pub instance_built : (it : Running) → BuildsInstance linked form (Ok it)
        → IsBuilt (IsSavedInstance linked) instance_items items place it next
    instance_built it built =
        let whole : IsForm (instance_form it) = subst IsForm (sym built.1.1) one.is_valid in
        laws.form_built IsForm form_items (IsSavedInstance linked) instance_items instance_form as_form form_valid items
        place form next one it (record {
          linked_is = built.0;
          specs = built.1.0;
          tables = whole.1.1.0;
          tracks = held_valid it.tracks whole.1.1.1;
        }) built.1.1
        (λ other is same. same_instance other it (is.linked_is ∙ sym built.0) (same ∙ sym built.1.1))

-- what is added for an instance: the two times, the tables, and the tracks
pub adds_all : (it : Running) (old one two new : List Item) → one ≡ old ++ (Num it.base ∷ Num it.last ∷ [])
    → two ≡ one ++ list_items predicate_items it.known.tables → new ≡ two ++ list_items track_items it.tracks
    → new ≡ old ++ instance_items it
adds_all it old one two new times tables tracks =
    adds_two old one new (Num it.base ∷ Num it.last ∷ [])
    (list_items predicate_items it.known.tables ++ list_items track_items it.tracks) times
    (adds_two one two new (list_items predicate_items it.known.tables) (list_items track_items it.tracks) tables tracks)
