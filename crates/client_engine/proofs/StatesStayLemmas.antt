-- What stays of the slices of what is read after an atom: all of them where it tells no state by which they are made,
-- or the state of another key.
use Rattle.std.proofs.Common.{◌≡◌, ℕ, Bool, false, ◌&&◌, ◌||◌, List, [], ◌∷◌, ◌++◌, slice_get, Option, Some, None, refl, ap, sym, subst, ◌∙◌}
use Rattle.std.specs.List.{list_any}
use Rattle.atom_record.specs.declared.atom.Atom.{Atom}
use Rattle.atom_record.specs.declared.log.LogFrame.{LogFrame}
use Rattle.atom_record.specs.declared.log.LogFrame.TheVariants.{AtomAt}
use Rattle.atom_record.specs.declared.value.Leaf.{Leaf}
use Rattle.book_meaning.specs.Snapshots.{same_atom_id}
use Rattle.book_meaning.specs.States.{same_dims, puts_back, primary_key, decides}
use Rattle.config_links.specs.declared.linked.LSlice.{LSlice}
use Rattle.config_links.specs.declared.linked.LState.{LState}
use Rattle.state_slicer.specs.Slices.{slice_of}
use Rattle.state_slicer.proofs.StayLemmas.{state_stays}
use Rattle.metric_meaning.specs.Readings.{LeafReading}
use Rattle.metric_meaning.specs.StateSlices.{state_key, slice_by, named_slice, named_slices}
use Rattle.metric_meaning.proofs.TouchedLemmas.{neither}
use Rattle.client_engine.specs.Telling.{decides_slice, decides_one, TellsKey}
use Rattle.known_conditions.specs.Touchers.{is_told_by, tells_one}
use Rattle.client_engine.specs.declared.told.Told.{Told}

module _ (log : List LogFrame) (at : ℕ) (atom : Atom) where
  abbrev more : List LogFrame
  more = log ++ AtomAt at atom ∷ []

  -- an atom leaves the slice by a state that it doesn't decide
  slice_stays : (state : LState) (key : List Leaf) → decides state.atom_id key atom ≡ false
      → slice_by more (Some state) key ≡ slice_by log (Some state) key
  slice_stays state key off = ap (λ value. slice_of state value ∷ []) (state_stays state.atom_id key log at atom off)

  -- so it leaves one by a state of another id
  slice_untold : (found : Option LState) (key : List Leaf) → is_told_by atom.id found ≡ false
      → slice_by more found key ≡ slice_by log found key
  slice_untold None key off = refl
  slice_untold (Some state) key off =
      slice_stays state key (ap (λ b. b && (puts_back atom || same_dims (primary_key atom) key)) off)

  -- and one by the state of another key
  slice_apart : (id : ℕ) (told : List Leaf) → id ≡ atom.id → told ≡ primary_key atom → puts_back atom ≡ false
      → (found : Option LState) (key : List Leaf) → decides_slice id told found key ≡ false
      → slice_by more found key ≡ slice_by log found key
  slice_apart id told id_is told_is stays None key off = refl
  slice_apart id told id_is told_is stays (Some state) key off =
      slice_stays state key
      (ap (λ b. same_atom_id atom.id state.atom_id && (b || same_dims (primary_key atom) key)) stays
      ∙ ap (λ i. same_atom_id i state.atom_id && same_dims (primary_key atom) key) (sym id_is)
      ∙ ap (λ t. same_atom_id id state.atom_id && same_dims t key) (sym told_is)
      ∙ off)

  module _ (states : List LState) (reading : LeafReading) where
    -- it leaves all slices, where it leaves each of which a test says so
    all_stay : (test : LSlice → Bool)
        → ((slice : LSlice) → test slice ≡ false → named_slice states more reading slice
        ≡ named_slice states log reading slice)
        → (slices : List LSlice) → list_any test slices ≡ false
        → named_slices states more reading slices ≡ named_slices states log reading slices
    all_stay test each [] off = refl
    all_stay test each (slice ∷ slices) off =
        let both = neither (test slice) (list_any test slices) off in
        ap (λ l. l ++ named_slices states more reading slices) (each slice both.0)
        ∙ ap (λ l. named_slice states log reading slice ++ l) (all_stay test each slices both.1)

-- an atom that tells none of the states of these slices leaves the slices of what is read
pub slices_stay : (states : List LState) (log : List LogFrame) (at : ℕ) (atom : Atom) (reading : LeafReading)
    (slices : List LSlice) → tells_one states atom.id slices ≡ false
    → named_slices states (log ++ AtomAt at atom ∷ []) reading slices ≡ named_slices states log reading slices
slices_stay states log at atom reading slices untold =
    all_stay log at atom states reading (λ (slice : LSlice). is_told_by atom.id (slice_get states slice.state))
    (λ slice off. slice_untold log at atom (slice_get states slice.state) (state_key slice.in_what reading) off)
    slices untold

-- so does one that tells the state of a key by which none of them is made
pub slices_untold : (states : List LState) (log : List LogFrame) (at : ℕ) (atom : Atom) (reading : LeafReading)
    (slices : List LSlice) (told : Told) → TellsKey states slices atom told
    → decides_one told.states.now told.id told.key reading told.slices.now ≡ false
    → named_slices states (log ++ AtomAt at atom ∷ []) reading slices ≡ named_slices states log reading slices
slices_untold states log at atom reading slices told tells off =
    all_stay log at atom states reading
    (λ (slice : LSlice). decides_slice told.id told.key (slice_get states slice.state)
    (state_key slice.in_what reading))
    (λ slice apart. slice_apart log at atom told.id told.key tells.id_is tells.key_is tells.stays
    (slice_get states slice.state) (state_key slice.in_what reading) apart)
    slices
    (subst (λ those. decides_one those told.id told.key reading slices ≡ false) tells.states_are
    (subst (λ those. decides_one told.states.now told.id told.key reading those ≡ false) tells.slices_are off))
