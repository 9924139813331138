-- The slice by one of the states, and the slices so far.
use Rattle.std.proofs.Common.{◌≡◌, ℕ, ◌+◌, ◌<◌, List, [], ◌∷◌, ◌++◌, length, drop, get_or, Some, None, sym, ap, ◌∙◌, append_assoc}
use Rattle.std.specs.Prelude.{slice_get}
use Rattle.std.proofs.lemmas.List.{drop_more}
use Rattle.atom_record.specs.declared.log.LogFrame.{LogFrame}
use Rattle.atom_record.specs.declared.value.Leaf.{Leaf}
use Rattle.atom_record.specs.declared.value.Slice.{Slice}
use Rattle.config_links.specs.declared.linked.LState.{LState}
use Rattle.config_links.specs.declared.linked.LSlice.{LSlice}
use Rattle.book_meaning.specs.States.{state_value}
use Rattle.state_slicer.specs.Slices.{slice_of}
use Rattle.metric_meaning.specs.Readings.{LeafReading}
use Rattle.metric_meaning.specs.StateSlices.{state_key, slice_by, named_slice, named_slices}

module _ (states : List LState) (log : List LogFrame) (reading : LeafReading) where
  -- a state at the place has its slice
  pub slice_there : (by : LSlice) (state : LState) (key : List Leaf) → slice_get states by.state ≡ Some state
      → key ≡ state_key by.in_what reading
      → slice_of state (state_value state.atom_id key log) ∷ [] ≡ named_slice states log reading by
  slice_there by state key there is =
      ap (λ k. slice_by log (Some state) k) is ∙ ap (λ found. slice_by log found (state_key by.in_what reading))
      (sym there)

  -- none has none
  pub slice_past : (by : LSlice) → slice_get states by.state ≡ None → [] ≡ named_slice states log reading by
  slice_past by past = ap (λ found. slice_by log found (state_key by.in_what reading)) (sym past)

  -- one more slice
  pub slices_more : (slices : List LSlice) (index : ℕ) (by : LSlice) → index < length slices
      → by ≡ get_or slices index by
      → named_slice states log reading by ++ named_slices states log reading (drop (index + 1) slices)
      ≡ named_slices states log reading (drop index slices)
  slices_more slices index by within is =
      ap (λ one. named_slice states log reading one ++ named_slices states log reading (drop (index + 1) slices)) is
      ∙ ap (named_slices states log reading) (sym (drop_more slices index by within))

  -- the slices so far, one more
  pub slices_on : (slices : List LSlice) (index : ℕ) (by : LSlice) (shown more : List Slice) → index < length slices
      → by ≡ get_or slices index by
      → shown ++ named_slices states log reading (drop index slices) ≡ named_slices states log reading slices
      → more ≡ shown ++ named_slice states log reading by
      → more ++ named_slices states log reading (drop (index + 1) slices) ≡ named_slices states log reading slices
  slices_on slices index by shown more within is before more_is =
      let rest = named_slices states log reading (drop (index + 1) slices) in
      ap (λ l. l ++ rest) more_is ∙ append_assoc shown (named_slice states log reading by) rest
      ∙ ap (λ l. shown ++ l) (slices_more slices index by within is) ∙ before
