-- The state slices of a metric are sound where none of its reasons on them holds.
use Rattle.std.proofs.Common.{◌≡◌, ◌≢◌, ℕ, ◌<◌, ◌≤◌, Bool, true, false, not, ◌&&◌, ◌==◌, List, [], ◌∷◌, map, length, Option, Some, None, slice_get, if◌then◌else◌, All, AllPairs, refl, ap, subst, arith}
use Rattle.std.specs.Prelude.{ℤ}
use Rattle.std.specs.Ordering.{int_eq}
use Rattle.std.specs.Option.{option_map}
use Rattle.std.specs.List.{AllByRecursion, list_any, list_all, find}
use Rattle.std.proofs.lemmas.Bool.Decides.{Decides-eqb}
use Rattle.std.proofs.lemmas.List.Elements.{All-from_recursion}
use Rattle.config_types.specs.declared.metric.StateLinkDef.{StateLinkDef}
use Rattle.distinct.specs.Repeats.{repeat_in, AreApart}
use Rattle.distinct.proofs.ApartLemmas.{apart_without_repeat}
use Rattle.link_rules.specs.declared.entities.Kind.{Kind}
use Rattle.link_rules.specs.declared.entities.Kind.TheVariants.{Event, Count, Value, Gauge, Duration}
use Rattle.link_rules.specs.EntityIds.{place_in}
use Rattle.config_links.specs.declared.linked.LSlice.{LSlice}
use Rattle.config_links.specs.declared.scope.Scope.{Scope}
use Rattle.config_links.specs.declared.sets.StateLinkSets.{StateLinkSets}
use Rattle.config_links.specs.LinkReasons.{may_stand, set_or_none}
use Rattle.config_links.specs.LinkScopes.{state_atom, told_atom}
use Rattle.config_links.specs.MetricTrees.{state_link_stands, sets_of_state_link}
use Rattle.config_links.specs.MetricLinks.{are_as_many}
use Rattle.config_links.specs.MetricSlices.{is_atom, fits_state, rise, sliced_atoms, slice_fields, linked_slice, linked_slices}
use Rattle.config_links.specs.SoundConfig.{IsSoundSet, HasFields, IsSoundSlice, slice_atom}
use Rattle.config_links.proofs.SoundParts.{left_holds, right_holds, set_is_sound, apart_mapped}
use Rattle.config_links.proofs.SoundNames.{Known, led_to, place_below, not_zero}

-- the fields of a state link: a set with some leaves
abbrev pub HasSet : StateLinkSets → Type 0
HasSet sets = IsSoundSet sets.in_what × (1 ≤ length sets.in_what.leaves)

fields_step : (is : Bool) (sets : StateLinkSets) (found : Option StateLinkSets) → HasSet sets
    → HasFields (option_map (λ (sets : StateLinkSets). sets.in_what) found)
    → HasFields (option_map (λ (sets : StateLinkSets). sets.in_what) (if is then Some sets else found))
fields_step true sets found has others = has
fields_step false sets found has others = others

-- the link that is found has a set
fields_of : (links : List StateLinkSets) (atom : ℕ) → AllByRecursion HasSet links → HasFields (slice_fields links atom)
fields_of [] atom all = tt
fields_of (sets ∷ links) atom all =
    fields_step (is_atom atom sets.atom_id) sets (find (λ (sets : StateLinkSets). is_atom atom sets.atom_id) links)
    all.0
    (fields_of links atom all.1)

-- a state link that stands and fits has a set
sets_of : (defs : List StateLinkDef) (atoms : List ℕ) → list_all state_link_stands defs ≡ true
    → list_all (fits_state atoms) (map sets_of_state_link defs) ≡ true
    → AllByRecursion HasSet (map sets_of_state_link defs)
sets_of [] atoms stand fit = tt
sets_of (def ∷ defs) atoms stand fit =
    let in_what = set_or_none def.in_what in
    let in_state = set_or_none def.in_state in
    let stands = left_holds (state_link_stands def) (list_all state_link_stands defs) stand in
    let fits = left_holds (fits_state atoms (sets_of_state_link def))
    (list_all (fits_state atoms) (map sets_of_state_link defs)) fit in
    let even = left_holds (are_as_many in_what in_state) (is_atom in_state.atom_id def.atom_id && rise in_state.leaves)
    (right_holds (list_any (λ atom. is_atom atom def.atom_id) atoms) _ fits) in (
      (
        set_is_sound def.in_what (left_holds (may_stand def.in_what) (may_stand def.in_state) stands),
        not_zero (length in_what.leaves) (left_holds (not (length in_what.leaves == 0))
            (length in_what.leaves == length in_state.leaves) even),
      ),
      sets_of defs atoms (right_holds (state_link_stands def) _ stand)
          (right_holds (fits_state atoms (sets_of_state_link def)) _ fit),
    )

-- what holds of no slices, and of slices by the states of these ids, holds of those of each kind
pub of_each_kind : (P : List LSlice → Type 0) (scope : Scope) (links : List StateLinkSets) (ids : List ℤ) → P []
    → P (map (linked_slice scope links) ids)
    → (kind : Kind) → P (linked_slices scope kind links ids)
of_each_kind P scope links ids none all Event = none
of_each_kind P scope links ids none all (Count overflow) = all
of_each_kind P scope links ids none all (Value value) = all
of_each_kind P scope links ids none all (Gauge gauge) = none
of_each_kind P scope links ids none all (Duration max_sparse) = all

module _ (scope : Scope) (many : length scope.ids.states ≤ length scope.states) (links : List StateLinkSets) where
  slices_by : (ids : List ℤ) → AllByRecursion (Known scope.ids.states) ids → AllByRecursion HasSet links
      → AllByRecursion (IsSoundSlice (length scope.states)) (map (linked_slice scope links) ids)
  slices_by [] known all = tt
  slices_by (id ∷ ids) known all =
      let below : place_in scope.ids.states id < length scope.ids.states = place_below (int_eq id) scope.ids.states
      known.0 in (
        record { within = omega (arith, below, many); fields = fields_of links (state_atom scope id) all },
        slices_by ids known.1 all,
      )

  -- slices by states that are known
  pub slices_sound : (kind : Kind) (ids : List ℤ) → AllByRecursion (Known scope.ids.states) ids
      → AllByRecursion HasSet links
      → All (IsSoundSlice (length scope.states)) (linked_slices scope kind links ids)
  slices_sound kind ids known all =
      of_each_kind (All (IsSoundSlice (length scope.states))) scope links ids (λ i d within. absurd (omega arith))
      (All-from_recursion (IsSoundSlice (length scope.states)) (map (linked_slice scope links) ids)
      (slices_by ids known all)) kind

  -- the atom of a slice is that of its state
  same_atoms : (ids : List ℤ) → AllByRecursion (Known scope.ids.states) ids
      → sliced_atoms scope ids ≡ map (slice_atom scope.states) (map (linked_slice scope links) ids)
  same_atoms [] known = refl
  same_atoms (id ∷ ids) known =
      let here : state_atom scope id ≡ told_atom (slice_get scope.states (place_in scope.ids.states id)) =
      ap told_atom (led_to scope.states scope.ids.states id known.0) in
      let later = same_atoms ids known.1 in
      cc

  -- no two slices are of the same atom
  abbrev AreOfOtherAtoms : List LSlice → Type 0
  AreOfOtherAtoms = AllPairs (λ (slice later : LSlice). slice_atom scope.states slice ≢ slice_atom scope.states later)

  pub slices_apart : (kind : Kind) (ids : List ℤ) → AllByRecursion (Known scope.ids.states) ids
      → repeat_in (λ one other. one == other) (sliced_atoms scope ids) ≡ None
      → AreOfOtherAtoms (linked_slices scope kind links ids)
  slices_apart kind ids known none =
      of_each_kind AreOfOtherAtoms scope links ids (λ i j d before within. absurd (omega arith))
      (apart_mapped (slice_atom scope.states) (map (linked_slice scope links) ids)
      (subst AreApart (same_atoms ids known)
      (apart_without_repeat (λ one other. one == other) Decides-eqb (sliced_atoms scope ids) none))) kind

pub has_sets : (defs : List StateLinkDef) (atoms : List ℕ) → list_all state_link_stands defs ≡ true
    → list_all (fits_state atoms) (map sets_of_state_link defs) ≡ true
    → AllByRecursion HasSet (map sets_of_state_link defs)
has_sets defs atoms stand fit = sets_of defs atoms stand fit
