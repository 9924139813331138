-- What live configurations hold of the table, from change to change.
use Rattle.std.proofs.Common.{◌≡◌, ℕ, ◌+◌, ◌<◌, ◌≤◌, Bool, true, false, cond, List, [], ◌∷◌, length, get_or, position, Option, Some, None, refl, sym, ap, subst, ◌∙◌, arith}
use Rattle.std.proofs.Props.{props}
use mathlib.Core.Logic.{∥∥₁_elim}
use Rattle.std.specs.List.{All}
use Rattle.std.specs.Map.{keys_of, values_of, set_value}
use Rattle.std.proofs.lemmas.List.{get_or-map, length-map}
use Rattle.std.proofs.lemmas.List.Elements.{All-nil, All-cons, All-head, All-tail, All-weaker}
use Rattle.std.proofs.lemmas.List.Sorted.{IsPermutation-swap_remove, All-permutation}
use Rattle.std.proofs.lemmas.List.Sums.{sum_by-cons, sum_by-swap_remove}
use Rattle.std.proofs.lemmas.Option.{get_or_from_slice_get, slice_get-get_or, same_Some}
use Rattle.indexmap.specs.IndexMap.{insert_entry, swap_remove_entry}
use Rattle.indexmap.proofs.MapLemmas.{Found-position, Missing-position, swap_remove_entry-found, swap_remove_entry-missing}
use Rattle.config_links.specs.declared.linked.LMatcher.{LMatcher}
use Rattle.config_links.specs.declared.linked.Linked.{Linked}
use Rattle.heard_ids.specs.declared.hearing.Hearing.{Hearing}
use Rattle.heard_ids.specs.Hearing.{heard_ids, hears_all}
use Rattle.link_graph.specs.Links.{AreInRange, HasNoCycle}
use Rattle.matcher_truths.specs.MatcherTruths.{named_places}
use Rattle.matcher_table.specs.Slots.{times_among}
use Rattle.matcher_table.specs.Tables.{SlotTable, outside_uses}
use Rattle.matcher_table.specs.Contents.{contents_of}
use Rattle.matcher_table.proofs.IndexLaws.{matchers_set}
use Rattle.held_slots.specs.Holdings.{HoldMatchers}
use Rattle.held_slots.specs.HoldingSteps.{KeepsLive, AddsUses, ReleasesAll}
use Rattle.held_slots.proofs.HoldingLaws.{hold_keeps, release_keeps}
use Rattle.client_engine.specs.declared.live_id.LiveId.{LiveId}
use Rattle.hub_core.specs.declared.live_instance.LiveInstance.{LiveInstance}
use Rattle.hub_core.specs.declared.lives.Lives.{Lives}
use Rattle.hub_core.specs.SharedTable.{IsHeldIn, AllHeld, places_holding, IsHeldTable, slots_of, HasSameSlots}
use Rattle.hub_core.specs.Slots.{same_id, slot_at}
use Rattle.hub_core.proofs.HeldLemmas.{nothing}

-- a table that is merely held is held
pub held_is : (table : SlotTable) (rows : List (LiveId × LiveInstance)) → ∥ IsHeldTable table rows ∥₁
    → IsHeldTable table rows
held_is table rows held = record {
  all = ∥∥₁_elim held (hlevel (props, matchers_set)) (λ held. held.all);
  uses = λ s. ∥∥₁_elim held (hlevel props) (λ held. held.uses s);
}

-- the facts of the type
pub table_held : (lives : Lives) → IsHeldTable (contents_of lives.table) lives.slots.entries
table_held lives = held_is (contents_of lives.table) lives.slots.entries lives.held

-- nothing holds nothing
pub none_held : (table : SlotTable) → ((s : ℕ) → outside_uses table s ≡ 0) → IsHeldTable table []
none_held table none = record {
  all = All-nil (λ (row : LiveId × LiveInstance). IsHeldIn table row.1);
  uses = none;
}

-- the places of one row more
pub places-cons : (s : ℕ) (row : LiveId × LiveInstance) (rows : List (LiveId × LiveInstance))
    → places_holding s (row ∷ rows) ≡ times_among s row.1.slots + places_holding s rows
places-cons s row rows = sum_by-cons (λ (row : LiveId × LiveInstance). times_among s row.1.slots) row rows

-- a row is held in a table
abbrev RowHeld : SlotTable → LiveId × LiveInstance → Type 0
RowHeld table row = IsHeldIn table row.1

-- what has the same slots is held as before
same_held : (table : SlotTable) (old new : LiveInstance) → HasSameSlots old new
    → IsHeldIn table old → IsHeldIn table new
same_held table old new same held =
    let linked = same.carried.linked in
    let matchers : new.carried.instance.matchers ≡ old.carried.instance.matchers =
    ap (λ (l : Linked). l.matchers) linked in
    record {
      slots = subst (λ (slots : List ℕ). HoldMatchers table slots new.carried.instance.matchers) (sym same.slots)
          (subst (HoldMatchers table old.slots) (sym matchers) held.slots);
      in_range = subst (λ (ms : List LMatcher). AreInRange (named_places ms)) (sym matchers) held.in_range;
      no_cycle = subst (λ (ms : List LMatcher). HasNoCycle (named_places ms)) (sym matchers) held.no_cycle;
      hears = record {
        ids = ap (λ (h : Hearing). h.ids) same.hearing ∙ held.hears.ids ∙ ap heard_ids (sym linked);
        all = ap (λ (h : Hearing). h.all) same.hearing ∙ held.hears.all ∙ ap hears_all (sym linked);
      };
    }

-- an item of a list, whatever stands for one past its end
get_or-own : {A : Type 0} (xs : List A) (i : ℕ) (d : A) → i < length xs → get_or xs i d ≡ get_or xs i (get_or xs i d)
get_or-own xs i d within =
    sym (get_or_from_slice_get xs i (get_or xs i d) (get_or xs i d) (slice_get-get_or xs i d within))

module _ (name : LiveId) where
  -- a configuration that goes in is held, and so are the others
  pub all-insert : (table : SlotTable) (live : LiveInstance) → IsHeldIn table live
      → (rows : List (LiveId × LiveInstance))
      → AllHeld table rows → AllHeld table (insert_entry same_id rows name live)
  all-insert table live held [] all = All-cons (RowHeld table) (name, live) [] held (All-nil (RowHeld table))
  all-insert table live held (row ∷ rows) all =
      by_case (same_id name row.0) (all-insert table live held rows (All-tail (RowHeld table) row rows all)) where
        by_case : (same : Bool) → AllHeld table (insert_entry same_id rows name live)
            → AllHeld table (cond same ((row.0, live) ∷ rows) (row ∷ insert_entry same_id rows name live))
        by_case true rest =
            All-cons (RowHeld table) (row.0, live) rows held (All-tail (RowHeld table) row rows all)
        by_case false rest =
            All-cons (RowHeld table) row (insert_entry same_id rows name live)
            (All-head (RowHeld table) row rows all) rest

  -- its places come, and those of the one that stood there go
  pub places-insert : (s : ℕ) (live : LiveInstance) (rows : List (LiveId × LiveInstance))
      → places_holding s (insert_entry same_id rows name live) + times_among s (slots_of (slot_at name rows))
      ≡ places_holding s rows + times_among s live.slots
  places-insert s live [] = omega (arith, places-cons s (name, live) [])
  places-insert s live (row ∷ rows) = by_case (same_id name row.0) (places-insert s live rows) where
    by_case : (same : Bool)
        → places_holding s (insert_entry same_id rows name live) + times_among s (slots_of (slot_at name rows))
        ≡ places_holding s rows + times_among s live.slots
        → places_holding s (cond same ((row.0, live) ∷ rows) (row ∷ insert_entry same_id rows name live))
        + times_among s (slots_of (cond same (Some row.1) (slot_at name rows)))
        ≡ places_holding s (row ∷ rows) + times_among s live.slots
    by_case true rest = omega (arith, places-cons s (row.0, live) rows, places-cons s row rows)
    by_case false rest =
        omega (arith, places-cons s row (insert_entry same_id rows name live), places-cons s row rows, rest)

  -- a configuration that has the slots of the one that stood there is held as that was
  pub all-set_value : (table : SlotTable) (old new : LiveInstance) → HasSameSlots old new
      → (rows : List (LiveId × LiveInstance)) → slot_at name rows ≡ Some old → AllHeld table rows
      → AllHeld table (set_value (same_id name) rows new)
  all-set_value table old new same [] is all = absurd (cc)
  all-set_value table old new same (row ∷ rows) is all =
      by_case (same_id name row.0) is
      (λ is'. all-set_value table old new same rows is' (All-tail (RowHeld table) row rows all)) where
        by_case : (passes : Bool) → cond passes (Some row.1) (slot_at name rows) ≡ Some old
            → (slot_at name rows ≡ Some old → AllHeld table (set_value (same_id name) rows new))
            → AllHeld table (cond passes ((row.0, new) ∷ rows) (row ∷ set_value (same_id name) rows new))
        by_case true is' rest =
            let was : row.1 ≡ old = same_Some row.1 old is' in
            All-cons (RowHeld table) (row.0, new) rows
            (same_held table old new same (subst (IsHeldIn table) was (All-head (RowHeld table) row rows all)))
            (All-tail (RowHeld table) row rows all)
        by_case false is' rest =
            All-cons (RowHeld table) row (set_value (same_id name) rows new) (All-head (RowHeld table) row rows all)
            (rest is')

  pub places-set_value : (s : ℕ) (old new : LiveInstance) → HasSameSlots old new
      → (rows : List (LiveId × LiveInstance)) → slot_at name rows ≡ Some old
      → places_holding s (set_value (same_id name) rows new) ≡ places_holding s rows
  places-set_value s old new same [] is = refl
  places-set_value s old new same (row ∷ rows) is =
      by_case (same_id name row.0) is (places-set_value s old new same rows) where
        by_case : (passes : Bool) → cond passes (Some row.1) (slot_at name rows) ≡ Some old
            → (slot_at name rows ≡ Some old
            → places_holding s (set_value (same_id name) rows new) ≡ places_holding s rows)
            → places_holding s (cond passes ((row.0, new) ∷ rows) (row ∷ set_value (same_id name) rows new))
            ≡ places_holding s (row ∷ rows)
        by_case true is' rest =
            let was : row.1 ≡ old = same_Some row.1 old is' in
            omega (
              arith,
              places-cons s (row.0, new) rows,
              places-cons s row rows,
              ap (times_among s) same.slots,
              ap (λ (live : LiveInstance). times_among s live.slots) was,
            )
        by_case false is' rest =
            omega (arith, places-cons s row (set_value (same_id name) rows new), places-cons s row rows, rest is')

  -- what is taken out leaves the others as they are
  pub all_out : (IsSo : LiveId × LiveInstance → Type 0) (rows : List (LiveId × LiveInstance)) → All IsSo rows
      → All IsSo (swap_remove_entry (same_id name) rows)
  all_out IsSo rows all = by_place (position (same_id name) (keys_of rows)) refl where
    by_place : (place : Option ℕ) → position (same_id name) (keys_of rows) ≡ place
        → All IsSo (swap_remove_entry (same_id name) rows)
    by_place None e = subst (All IsSo) (sym (swap_remove_entry-missing (same_id name) rows e)) all
    by_place (Some i) e =
        let d : LiveId × LiveInstance = (name, nothing) in
        let within : i < length rows = (Found-position (same_id name) rows i e).within in
        let x : LiveId × LiveInstance = get_or rows i d in
        subst (All IsSo) (sym (swap_remove_entry-found (same_id name) rows i x e))
        (All-tail IsSo x _ (All-permutation IsSo rows _
        (IsPermutation-swap_remove rows i x within (get_or-own rows i d within)) all))

  -- its places go
  pub places-swap_remove : (s : ℕ) (rows : List (LiveId × LiveInstance))
      → places_holding s (swap_remove_entry (same_id name) rows) + times_among s (slots_of (slot_at name rows))
      ≡ places_holding s rows
  places-swap_remove s rows = by_place (position (same_id name) (keys_of rows)) refl where
    by_place : (place : Option ℕ) → position (same_id name) (keys_of rows) ≡ place
        → places_holding s (swap_remove_entry (same_id name) rows) + times_among s (slots_of (slot_at name rows))
        ≡ places_holding s rows
    by_place None e =
        let none : times_among s (slots_of (slot_at name rows)) ≡ 0 =
        ap (λ (o : Option LiveInstance). times_among s (slots_of o)) (Missing-position (same_id name) rows e).value in
        omega (arith, none, ap (places_holding s) (swap_remove_entry-missing (same_id name) rows e))
    by_place (Some i) e =
        let d : LiveId × LiveInstance = (name, nothing) in
        let found = Found-position (same_id name) rows i e in
        let within : i < length rows = found.within in
        let value : slot_at name rows ≡ Some (get_or rows i d).1 =
        found.value ∙ slice_get-get_or (values_of rows) i nothing
        (omega (arith, length-map rows (λ (row : LiveId × LiveInstance). row.1), within))
        ∙ ap (λ (live : LiveInstance). Some live)
        (get_or-map (λ (row : LiveId × LiveInstance). row.1) rows i d nothing within) in
        omega (
          arith,
          ap (λ (o : Option LiveInstance). times_among s (slots_of o)) value,
          ap (places_holding s) (swap_remove_entry-found (same_id name) rows i d e),
          sum_by-swap_remove (λ (row : LiveId × LiveInstance). times_among s row.1.slots) rows i d within,
        )

-- what is held of a table is held after an install of another
pub all-hold : (old new : SlotTable) → KeepsLive old new → (rows : List (LiveId × LiveInstance)) → AllHeld old rows
    → AllHeld new rows
all-hold old new keeps rows all =
    All-weaker (RowHeld old) (RowHeld new) (λ row held. record {
      slots = hold_keeps old new row.1.slots row.1.carried.instance.matchers keeps held.slots;
      in_range = held.in_range;
      no_cycle = held.no_cycle;
      hears = held.hears;
    }) rows all

-- and after a release of another, where each place that holds a slot is an outside use
pub all-release : (old new : SlotTable) (released : List ℕ) → ReleasesAll old released new
    → (rows : List (LiveId × LiveInstance)) → ((s : ℕ) → places_holding s rows ≤ outside_uses new s)
    → AllHeld old rows → AllHeld new rows
all-release old new released releases [] enough all = All-nil (RowHeld new)
all-release old new released releases (row ∷ rows) enough all =
    let held = All-head (RowHeld old) row rows all in
    All-cons (RowHeld new) row rows (record {
      slots = release_keeps old new released row.1.slots row.1.carried.instance.matchers
          (λ s some. omega (arith, places-cons s row rows, enough s)) releases held.slots;
      in_range = held.in_range;
      no_cycle = held.no_cycle;
      hears = held.hears;
    })
    (all-release old new released releases rows (λ s. omega (arith, places-cons s row rows, enough s))
    (All-tail (RowHeld old) row rows all))

-- A configuration comes in: its matchers are interned, and the table is held by it, too.
pub interned : (name : LiveId) (live : LiveInstance) (rows : List (LiveId × LiveInstance)) (first held : SlotTable)
    → IsHeldTable first rows → IsHeldIn held live → AddsUses first live.slots held → KeepsLive first held
    → IsHeldTable held ((name, live) ∷ rows)
interned name live rows first held before here uses keeps = record {
  all = All-cons (RowHeld held) (name, live) rows here (all-hold first held keeps rows before.all);
  uses = λ s. omega (arith, places-cons s (name, live) rows, uses s, before.uses s);
}

-- It goes in, and then what stood there is released.
module _ (name : LiveId) (live : LiveInstance) (rows : List (LiveId × LiveInstance)) (held : SlotTable)
    (before : IsHeldTable held ((name, live) ∷ rows)) where
  -- what stood there may be released
  pub insert-may_release : (s : ℕ) → times_among s (slots_of (slot_at name rows)) ≤ outside_uses held s
  insert-may_release s =
      omega (arith, places-insert name s live rows, before.uses s, places-cons s (name, live) rows)

  pub insert-held : (last : SlotTable) → ReleasesAll held (slots_of (slot_at name rows)) last
      → IsHeldTable last (insert_entry same_id rows name live)
  insert-held last releases =
      let same : (s : ℕ) → outside_uses last s ≡ places_holding s (insert_entry same_id rows name live) =
      λ s. omega (
        arith,
        places-insert name s live rows,
        before.uses s,
        places-cons s (name, live) rows,
        releases.outside s,
      ) in
      record {
        all = all-release held last (slots_of (slot_at name rows)) releases (insert_entry same_id rows name live)
            (λ s. omega (arith, same s))
            (all-insert name held live (All-head (RowHeld held) (name, live) rows before.all) rows
            (All-tail (RowHeld held) (name, live) rows before.all));
        uses = same;
      }

-- A configuration is taken out, and then released.
module _ (name : LiveId) (rows : List (LiveId × LiveInstance)) (first last : SlotTable)
    (before : IsHeldTable first rows) where
  pub take_out-may_release : (s : ℕ) → times_among s (slots_of (slot_at name rows)) ≤ outside_uses first s
  take_out-may_release s = omega (arith, places-swap_remove name s rows, before.uses s)

  pub take_out-held : ReleasesAll first (slots_of (slot_at name rows)) last
      → IsHeldTable last (swap_remove_entry (same_id name) rows)
  take_out-held releases =
      let same : (s : ℕ) → outside_uses last s ≡ places_holding s (swap_remove_entry (same_id name) rows) =
      λ s. omega (arith, places-swap_remove name s rows, before.uses s, releases.outside s) in
      record {
        all = all-release first last (slots_of (slot_at name rows)) releases (swap_remove_entry (same_id name) rows)
            (λ s. omega (arith, same s)) (all_out name (RowHeld first) rows before.all);
        uses = same;
      }
