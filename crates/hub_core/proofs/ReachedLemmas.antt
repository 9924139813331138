-- Each live slot of a held table is held by some configuration.
use Rattle.std.proofs.Common.{◌≡◌, ◌≢◌, ℕ, zero, suc, ◌+◌, ◌-◌, ◌<◌, ◌≤◌, List, [], ◌∷◌, length, map, get_or, Option, Some, None, sym, ap, subst, ◌∙◌, arith, inl, inr}
use Rattle.std.specs.List.{slice_get, Contains, flat_map}
use Rattle.std.proofs.lemmas.Bool.{cases_eq}
use Rattle.std.proofs.lemmas.List.{length-map, get_or-map}
use Rattle.std.proofs.lemmas.List.Elements.{All-head, All-tail}
use Rattle.std.proofs.lemmas.List.Sums.{sum_by-cons}
use Rattle.atom_record.specs.declared.atom.Atom.{Atom}
use Rattle.config_types.specs.declared.matcher.SimpleMatcher.{SimpleMatcher}
use Rattle.config_links.specs.declared.linked.LMatcher.{LMatcher}
use Rattle.config_links.specs.declared.linked.LMatcher.TheVariants as linked
use Rattle.config_links.specs.SoundConfig.{named_matchers}
use Rattle.link_graph.specs.Links.{Refers}
use Rattle.link_graph.specs.Unrolling.{unroll}
use Rattle.link_graph.proofs.NodeLemmas.{children_of as named_at}
use Rattle.matcher_truths.specs.MatcherTruths.{named_places}
use Rattle.matcher_table.specs.declared.shared.SharedMatcher.{SharedMatcher}
use Rattle.matcher_table.specs.declared.shared.SharedMatcher.TheVariants.{Simple, Combination}
use Rattle.matcher_table.specs.Slots.{matcher_at, children_of, times_among, child_uses}
use Rattle.matcher_table.specs.Tables.{SlotTable, outside_uses}
use Rattle.matcher_table.specs.TableFacts.{IsSoundTable}
use Rattle.matcher_table.specs.Trees.{Tree, Trees, NoMatcher, Leaf, Branch, NoTrees, MoreTrees, trees_of, tree_from, tree_step, slot_tree}
use Rattle.matcher_table.proofs.Counting.{one_if_other, places-cons, place_of, counted_at}
use Rattle.held_slots.specs.Holdings.{in_slots}
use Rattle.held_slots.proofs.HoldingLaws.{there}
use Rattle.held_slots.proofs.PlanLaws.{contained}
use Rattle.client_engine.specs.declared.live_id.LiveId.{LiveId}
use Rattle.hub_core.specs.declared.live_instance.LiveInstance.{LiveInstance}
use Rattle.hub_core.specs.SharedTable.{IsHeldIn, AllHeld, places_holding, IsHeldTable}
use Rattle.hub_core.specs.DifferentMatchers.{asked_matcher, asked_matchers}
use Rattle.hub_core.proofs.TableLemmas.{places-cons as row_places}
use Rattle.hub_core.proofs.CopyLemmas.{copies, copies-append}

-- how deep a tree is
abbrev mutual
  pub depth : Tree → ℕ
  depth NoMatcher = 0
  depth (Leaf matcher) = 1
  depth (Branch op trees) = suc (depths trees)

  pub depths : Trees → ℕ
  depths NoTrees = 0
  depths (MoreTrees tree trees) = depth tree + (depths trees - depth tree)

depths_most : (f : ℕ → Tree) (n : ℕ) → ((y : ℕ) → depth (f y) ≤ n) → (xs : List ℕ) → depths (trees_of (map f xs)) ≤ n
depths_most f n most [] = omega arith
depths_most f n most (x ∷ xs) = omega (arith, most x, depths_most f n most xs)

depths_least : (f : ℕ → Tree) (y : ℕ) (xs : List ℕ) → 0 < times_among y xs → depth (f y) ≤ depths (trees_of (map f xs))
depths_least f y [] some = absurd (omega arith)
depths_least f y (x ∷ xs) some =
    elim (cases_eq x y) [
      | inl same ↦ omega (arith, ap (λ (k : ℕ). depth (f k)) same)
      | inr other ↦ omega (arith, depths_least f y xs (omega (arith, places-cons y x xs, one_if_other y x other)))
    ]

from_most : (f : ℕ → Tree) (n : ℕ) → ((y : ℕ) → depth (f y) ≤ n) → (o : Option SharedMatcher)
    → depth (tree_from f o) ≤ suc n
from_most f n most None = omega arith
from_most f n most (Some (Simple matcher)) = omega arith
from_most f n most (Some (Combination op children)) = omega (arith, depths_most f n most children)

-- a tree that is followed so deep is no deeper
unrolled_most : (slots : List (Option SharedMatcher)) (n s : ℕ) → depth (unroll (tree_step slots) NoMatcher n s) ≤ n
unrolled_most slots zero s = omega arith
unrolled_most slots (suc n) s =
    from_most (unroll (tree_step slots) NoMatcher n) n (unrolled_most slots n) (matcher_at slots s)

-- a tree is deeper than those in it
pub from_least : (f : ℕ → Tree) (y : ℕ) (o : Option SharedMatcher) → 0 < times_among y (children_of o)
    → suc (depth (f y)) ≤ depth (tree_from f o)
from_least f y None some = absurd (omega arith)
from_least f y (Some (Simple matcher)) some = absurd (omega arith)
from_least f y (Some (Combination op children)) some = omega (arith, depths_least f y children some)

-- what is named is named by some slot
some_parent : (s : ℕ) (slots : List (Option SharedMatcher)) → 0 < child_uses slots s
    → (p : ℕ) × (0 < times_among s (children_of (matcher_at slots p)))
some_parent s [] some = absurd (omega arith)
some_parent s (o ∷ slots) some =
    elim (cases_eq (times_among s (children_of o)) 0) [
      | inl none ↦
          let later = some_parent s slots
          (omega (arith, sum_by-cons (λ shared. times_among s (children_of shared)) o slots)) in
          (suc later.0, later.1)
      | inr here ↦ (0, omega arith)
    ]

parent_live : (s : ℕ) (o : Option SharedMatcher) → 0 < times_among s (children_of o) → o ≢ None
parent_live s o some gone =
    let none : times_among s (children_of o)
    ≡ 0 = ap (λ (x : Option SharedMatcher). times_among s (children_of x)) gone in
    omega arith

-- A table in which what has an outside use names only what has one.
module _ (table : SlotTable) (sound : IsSoundTable table)
    (closed : (p s : ℕ) → 0 < outside_uses table p → 0 < times_among s (children_of (matcher_at table.slots p))
    → 0 < outside_uses table s) where
  next : (s : ℕ) → matcher_at table.slots s ≢ None
      → ((p : ℕ) → matcher_at table.slots p ≢ None
      → suc (depth (slot_tree table.slots s)) ≤ depth (slot_tree table.slots p) → 0 < outside_uses table p)
      → 0 < outside_uses table s
  next s live above =
      elim (cases_eq (outside_uses table s) 0) [
        | inr some ↦ omega arith
        | inl none ↦
            let parent = some_parent s table.slots (omega (arith, sound.used s live)) in
            let p_live : matcher_at table.slots parent.0 ≢ None =
            parent_live s (matcher_at table.slots parent.0) parent.1 in
            closed parent.0 s (above parent.0 p_live
            (subst (λ (t : Tree). suc (depth (slot_tree table.slots s)) ≤ depth t) (sym (sound.trees parent.0 p_live))
            (from_least (slot_tree table.slots) s (matcher_at table.slots parent.0) parent.1))) parent.1
      ]

  climb : (n s : ℕ) → matcher_at table.slots s ≢ None → length table.slots ≤ depth (slot_tree table.slots s) + n
      → 0 < outside_uses table s
  climb zero s live deep =
      next s live (λ p p_live deeper.
      absurd (omega (arith, deep, deeper, unrolled_most table.slots (length table.slots) p)))
  climb (suc n) s live deep =
      next s live (λ p p_live deeper. climb n p p_live (omega (arith, deep, deeper)))

  -- each live slot has an outside use
  pub all_used : (s : ℕ) → matcher_at table.slots s ≢ None → 0 < outside_uses table s
  all_used s live = climb (length table.slots) s live (omega arith)

-- a configuration that holds a slot at a place, among others
pub record Holder (table : SlotTable) (rows : List (LiveId × LiveInstance)) (s : ℕ) : Type 0 where
  pub live : LiveInstance
  pub held : IsHeldIn table live
  pub place : ℕ
  pub within : place < length live.slots
  pub is : get_or live.slots place 0 ≡ s
  pub places : (t : ℕ) → times_among t live.slots ≤ places_holding t rows
  pub asked : (atom : Atom) (matcher : SimpleMatcher)
      → copies matcher (flat_map (asked_matcher atom) live.carried.instance.matchers)
      ≤ copies matcher (asked_matchers atom rows)

-- a slot that a place holds has a holder
pub holder_of : (table : SlotTable) (rows : List (LiveId × LiveInstance)) (s : ℕ) → AllHeld table rows
    → 0 < places_holding s rows → Holder table rows s
holder_of table [] s all some = absurd (omega arith)
holder_of table (row ∷ rows) s all some =
    let P : LiveId × LiveInstance → Type 0 = λ row. IsHeldIn table row.1 in
    let asked : (atom : Atom) (matcher : SimpleMatcher) → copies matcher (asked_matchers atom (row ∷ rows))
    ≡ copies matcher (flat_map (asked_matcher atom) row.1.carried.instance.matchers) + copies matcher
    (asked_matchers atom rows) =
    λ atom matcher. copies-append matcher (flat_map (asked_matcher atom) row.1.carried.instance.matchers)
    (asked_matchers atom rows) in
    elim (cases_eq (times_among s row.1.slots) 0) [
      | inr here ↦
          let at = place_of s row.1.slots (omega arith) in
          record {
            live = row.1;
            held = All-head P row rows all;
            place = at.0;
            within = at.1;
            is = at.2;
            places = λ t. omega (arith, row_places t row rows);
            asked = λ atom matcher. omega (arith, asked atom matcher);
          }
      | inl none ↦
          let later = holder_of table rows s (All-tail P row rows all) (omega (arith, row_places s row rows)) in
          record {
            live = later.live;
            held = later.held;
            place = later.place;
            within = later.within;
            is = later.is;
            places = λ t. omega (arith, row_places t row rows, later.places t);
            asked = λ atom matcher. omega (arith, asked atom matcher, later.asked atom matcher);
          }
    ]

-- the matcher at a place that holds a slot
module _ (table : SlotTable) (rows : List (LiveId × LiveInstance)) (s : ℕ) (h : Holder table rows s) where
  below : h.place < length h.live.carried.instance.matchers
  below = omega (arith, h.within, h.held.slots.each)

  pub found : (m : LMatcher) × (slice_get h.live.carried.instance.matchers h.place ≡ Some m)
  found = there h.live.carried.instance.matchers h.place below

  abbrev pub own : LMatcher
  own = found.0

  pub own_at : slice_get h.live.carried.instance.matchers h.place ≡ Some own
  own_at = found.1

  pub stands : matcher_at table.slots s ≡ Some (in_slots h.live.slots own)
  stands = ap (matcher_at table.slots) (sym h.is) ∙ h.held.slots.same h.place own own_at

  names : (m : LMatcher) (c : ℕ) → 0 < times_among c (children_of (Some (in_slots h.live.slots m)))
      → (k : ℕ) × Contains (named_matchers m) k × (get_or h.live.slots k 0 ≡ c)
  names (linked.Simple simple) c some = absurd (omega arith)
  names (linked.Combo op children) c some =
      let f : ℕ → ℕ = λ place. get_or h.live.slots place 0 in
      let at = place_of c (map f children) some in
      let within : at.0 < length children = omega (arith, length-map children f, at.1) in (
        get_or children at.0 0,
        contained children (get_or children at.0 0) (counted_at children at.0 within),
        sym (get_or-map f children at.0 0 0 within) ∙ at.2,
      )

  -- what it names is held too
  pub names_held : (c : ℕ) → 0 < times_among c (children_of (matcher_at table.slots s)) → 0 < places_holding c rows
  names_held c some =
      let named = names own c (subst (λ (o : Option SharedMatcher). 0 < times_among c (children_of o)) stands some) in
      let refers : Refers (named_places h.live.carried.instance.matchers) h.place named.0 =
      subst (λ (xs : List ℕ). Contains xs named.0)
      (sym (named_at named_matchers h.live.carried.instance.matchers h.place own own_at)) named.1 in
      let within : named.0 < length h.live.slots =
      omega (
        arith,
        h.held.in_range h.place named.0 refers,
        length-map h.live.carried.instance.matchers named_matchers,
        h.held.slots.each,
      ) in
      let counted : 0 < times_among c h.live.slots =
      subst (λ (k : ℕ). 0 < times_among k h.live.slots) named.2 (counted_at h.live.slots named.0 within) in
      omega (arith, counted, h.places c)

-- each live slot of a held table is held at some place
module _ (table : SlotTable) (rows : List (LiveId × LiveInstance)) (sound : IsSoundTable table)
    (held : IsHeldTable table rows) where
  closed : (p s : ℕ) → 0 < outside_uses table p → 0 < times_among s (children_of (matcher_at table.slots p))
      → 0 < outside_uses table s
  closed p s some named =
      let holder = holder_of table rows p held.all (omega (arith, held.uses p)) in
      omega (arith, names_held table rows p holder s named, held.uses s)

  pub live_holder : (s : ℕ) → matcher_at table.slots s ≢ None → Holder table rows s
  live_holder s live =
      holder_of table rows s held.all (omega (arith, all_used table sound closed s live, held.uses s))
