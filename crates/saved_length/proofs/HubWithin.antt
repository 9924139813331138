-- The saved form of a hub is no longer than its session weighs: for whatever holds its parts.
use Rattle.std.proofs.Common.{◌≡◌, ℕ, ℤ, ◌+◌, ◌≤◌, Bool, false, List, [], ◌∷◌, ◌++◌, map, length, Some, ap, arith}
use Rattle.std.specs.Prelude.{All}
use Rattle.std.specs.List.{AllByRecursion, IsDistinct, sum_by}
use Rattle.atom_record.specs.declared.atom.Atom.{Atom}
use Rattle.atom_record.specs.declared.log.PullOutcome.{PullOutcome}
use Rattle.atom_record.specs.declared.value.Leaf.{Leaf}
use Rattle.client_engine.specs.InstanceStands.{InstanceStandsFor}
use Rattle.client_engine.specs.Running.{Running}
use Rattle.client_engine.specs.SavedInstances.{IsSavedTrack, instance_items}
use Rattle.config_types.specs.declared.matcher.SimpleMatcher.{SimpleMatcher}
use Rattle.dim_table.specs.Table.{Table}
use Rattle.flat_form.specs.Bounded.{items_bounded}
use Rattle.flat_form.specs.Flat.{list_items}
use Rattle.flat_form.specs.ItemSpelling.{spelled_items}
use Rattle.flat_form.specs.declared.item.Item.{Item}
use Rattle.flat_form.specs.declared.item.Item.TheVariants.{Num, Chunk}
use Rattle.hub_meaning.specs.Acceptance.{LiveConfig}
use Rattle.hub_meaning.specs.LiveConfigs.{config_at, live, install_bytes, history_of}
use Rattle.hub_meaning.specs.SessionLog.{log_frames, own}
use Rattle.pull_book.specs.PullBooks.{PullBookStandsFor}
use Rattle.pull_book.specs.PullItems.{book_items}
use Rattle.saved_length.proofs.InstanceWithin.{instance_size}
use Rattle.saved_weight.proofs.LivesWithin.{same_name, name_itself, name_exact, IsFoundLive, lives_within}
use Rattle.saved_weight.proofs.SizeLaws.{full_size, full-cons, full-number, full-append, full-list, sum_by-map}
use Rattle.saved_weight.proofs.SumFound.{AreApart}
use Rattle.saved_weight.proofs.TablesWithin.{state_book_within, pull_book_within}
use Rattle.saved_weight.specs.Weigh.{LiveOf, lives_of, live_weight, weigh}
use Rattle.session_frames.specs.declared.frame.Frame.{Frame}
use Rattle.state_slicer.specs.StateBooks.{StateBookStandsFor}
use Rattle.state_slicer.specs.StateItems.{state_book_items}

module _ (says : SimpleMatcher → Atom → Bool) (frames : List Frame) where
  -- a live configuration with two numbers, its bytes and its instance takes no more than it weighs
  pub live_fits : (uid : ℤ) (config : LiveConfig) (one other : ℕ) (bytes : List ℕ) (it : Running)
      → bytes ≡ install_bytes (own uid frames) config
      → InstanceStandsFor it (history_of says uid (own uid frames) config) → All IsSavedTrack it.tracks
      → full_size (Num one ∷ Num other ∷ Chunk bytes ∷ instance_items it) ≤ live_weight says frames (uid, config)
  live_fits uid config one other bytes it same stands saved =
      let instance = instance_size it (history_of says uid (own uid frames) config) stands saved in
      let chunk : List Item = Chunk bytes ∷ instance_items it in
      let first = full-cons (Chunk bytes) (instance_items it) in
      let second = full-number other chunk in
      let third = full-number one (Num other ∷ chunk) in
      let as_long = ap length same in
      omega (arith, instance, first, second, third, as_long)

  module _ {L : Type 0} (name : L → ℤ × ℤ) (items_of : L → List Item) where
    -- One of these is live under its name, and takes no more than that weighs.
    pub record FitsLive (it : L) : Type 0 where
      pub config : LiveConfig
      pub found : config_at (name it).1 (live (own (name it).0 frames)) ≡ Some config
      pub fits : full_size (items_of it) ≤ live_weight says frames ((name it).0, config)

    -- each with its name
    abbrev named : L → (ℤ × ℤ) × L
    named it = (name it, it)

    -- what one takes
    abbrev size_of : (ℤ × ℤ) × L → ℕ
    size_of row = full_size (items_of row.1)

    -- what all that is live weigh
    abbrev row_weight : (ℤ × ℤ) × LiveOf → ℕ
    row_weight row = live_weight says frames row.1

    -- a name isn't among the names of others
    apart_from : (own_name : ℤ × ℤ) (lives : List L)
        → AllByRecursion (λ other. same_name own_name other ≡ false) (map name lives)
        → AllByRecursion (λ (other : (ℤ × ℤ) × L). same_name own_name other.0 ≡ false) (map named lives)
    apart_from own_name [] apart = tt
    apart_from own_name (it ∷ lives) apart = (apart.0, apart_from own_name lives apart.1)

    -- names apart are rows apart
    rows_apart : (lives : List L) → IsDistinct same_name (map name lives)
        → AreApart same_name name_itself name_exact size_of row_weight (map named lives)
    unfolding IsDistinct
    rows_apart [] apart = tt
    rows_apart (it ∷ lives) apart = (apart_from (name it) lives apart.0, rows_apart lives apart.1)

    -- each is found
    all_found : (lives : List L) → AllByRecursion FitsLive lives
        → AllByRecursion (IsFoundLive frames (live_weight says frames) size_of) (map named lives)
    all_found [] fit = tt
    all_found (it ∷ lives) fit =
        (record { config = fit.0.config; found = fit.0.found; within = fit.0.fits }, all_found lives fit.1)

    -- what is live, under names apart, takes a number and no more than all that is live weighs
    lives_fit : (lives : List L) → IsDistinct same_name (map name lives) → AllByRecursion FitsLive lives
        → full_size (list_items items_of lives) ≤ 9 + sum_by (live_weight says frames) (lives_of frames)
    lives_fit lives apart fit =
        let all = full-list items_of lives in
        let same = sum_by-map size_of named lives in
        let less = lives_within frames (live_weight says frames) size_of (map named lives) (rows_apart lives apart)
        (all_found lives fit) in
        omega (arith, all, same, less)

    -- two numbers, both books and what is live have no more bytes than the session weighs
    pub hub_within : (one other : ℕ) (states : Table ℕ (Table (List Leaf) ℤ)) (pulls : List (ℕ × PullOutcome))
        (lives : List L) → StateBookStandsFor states (log_frames frames)
        → PullBookStandsFor pulls (log_frames frames) → IsDistinct same_name (map name lives)
        → AllByRecursion FitsLive lives
        → length (spelled_items (Num one ∷ Num other
        ∷ (state_book_items states ++ (book_items pulls ++ list_items items_of lives)))) ≤ weigh says frames
    hub_within one other states pulls lives state_book pull_book apart fit =
        let log = log_frames frames in
        let books_and_lives = state_book_items states ++ (book_items pulls ++ list_items items_of lives) in
        let rest : List Item = Num other ∷ books_and_lives in
        let spelled = items_bounded (Num one ∷ rest) in
        let first = full-number one rest in
        let second = full-number other books_and_lives in
        let two = full-append (state_book_items states) (book_items pulls ++ list_items items_of lives) in
        let three = full-append (book_items pulls) (list_items items_of lives) in
        let of_states = state_book_within states log state_book in
        let of_pulls = pull_book_within pulls log pull_book in
        let of_lives = lives_fit lives apart fit in
        omega (arith, spelled, first, second, two, three, of_states, of_pulls, of_lives)
