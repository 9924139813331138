-- What a configuration holds stays held, and has the trees of its own matchers.
use Rattle.std.proofs.Common.{◌≡◌, ◌≢◌, ℕ, zero, suc, ◌<◌, List, [], ◌∷◌, length, map, get_or, Option, Some, None, refl, sym, ap, subst, ◌∙◌, arith, inl, inr}
use Rattle.std.specs.List.{slice_get, Contains}
use Rattle.std.proofs.lemmas.Bool.{cases_eq}
use Rattle.std.proofs.lemmas.List.{length-map}
use Rattle.std.proofs.lemmas.Option.{slice_get_within}
use Rattle.atom_record.specs.declared.atom.Atom.{Atom}
use Rattle.std.specs.Prelude.{Bool}
use Rattle.config_types.specs.declared.matcher.SimpleMatcher.{SimpleMatcher}
use Rattle.config_links.specs.declared.linked.LMatcher.{LMatcher}
use Rattle.config_links.specs.declared.linked.LMatcher.TheVariants.{Simple, Combo}
use Rattle.config_links.specs.SoundConfig.{named_matchers}
use Rattle.link_graph.specs.Links.{Refers, AreInRange, HasNoCycle}
use Rattle.link_graph.specs.Depth.{EndsWithin}
use Rattle.link_graph.specs.Unrolling.{LooksDown}
use Rattle.link_graph.proofs.DepthLaws.{ends_from_no_cycle}
use Rattle.link_graph.proofs.NodeLemmas.{map_same, children_of}
use Rattle.link_graph.proofs.UnrollingLaws.{equation}
use Rattle.matcher_truths.specs.MatcherTruths.{named_places}
use Rattle.matcher_table.specs.declared.shared.SharedMatcher.{SharedMatcher}
use Rattle.matcher_table.specs.Slots.{matcher_at, times_among}
use Rattle.matcher_table.specs.Tables.{SlotTable, outside_uses}
use Rattle.matcher_table.specs.Steps.{Interns}
use Rattle.matcher_table.specs.Trees.{Tree, NoMatcher, Branch, trees_of, tree_from, slot_tree}
use Rattle.matcher_table.specs.Truths.{Evaluates}
use Rattle.matcher_table.specs.TableFacts.{IsSoundTable}
use Rattle.matcher_table.proofs.Counting.{counted_at}
use Rattle.matcher_table.proofs.HeldLaws.{some_live}
use Rattle.held_slots.specs.Holdings.{in_slots, HoldMatchers, matcher_tree_from, matcher_tree_step, matcher_tree}
use Rattle.held_slots.specs.HoldingSteps.{KeepsLive, ReleasesAll}

-- at each place of a list something stands
pub there : (matchers : List LMatcher) (p : ℕ) → p < length matchers → (m : LMatcher) × (slice_get matchers p ≡ Some m)
there [] p h = absurd (omega arith)
there (m ∷ matchers) zero h = (m, refl)
there (m ∷ matchers) (suc p) h = there matchers p (omega arith)

-- a held slot is live
pub held_live : (table : SlotTable) (slots : List ℕ) (matchers : List LMatcher) → HoldMatchers table slots matchers
    → (place : ℕ) → place < length matchers → matcher_at table.slots (get_or slots place 0) ≢ None
held_live table slots matchers holds place h =
    let m = there matchers place h in
    some_live (matcher_at table.slots (get_or slots place 0)) (in_slots slots m.0) (holds.same place m.0 m.1)

-- where what is held stands as before, it is held as before
stays_held : (old new : SlotTable) (slots : List ℕ) (matchers : List LMatcher)
    → ((place : ℕ) → place < length matchers
    → matcher_at new.slots (get_or slots place 0) ≡ matcher_at old.slots (get_or slots place 0))
    → HoldMatchers old slots matchers → HoldMatchers new slots matchers
stays_held old new slots matchers same holds = record {
  each = holds.each;
  same = λ place matcher is. same place (slice_get_within matchers place matcher is)
      ∙ holds.same place matcher is;
}

-- an intern changes no slot that is live
pub intern_keeps_live : (old new : SlotTable) (shared : SharedMatcher) (slot : ℕ) → Interns old shared slot new
    → KeepsLive old new
intern_keeps_live old new shared slot interns s live =
    elim (cases_eq s slot) [
      | inr other ↦ interns.others.kept s other
      | inl same ↦
          elim interns.either [
            | inl is ↦ ap (matcher_at new.slots) same ∙ interns.here ∙ sym (ap (matcher_at old.slots) same ∙ is)
            | inr gone ↦ absurd (live (ap (matcher_at old.slots) same ∙ gone))
          ]
    ]

-- an install of another configuration keeps what is held
pub hold_keeps : (old new : SlotTable) (slots : List ℕ) (matchers : List LMatcher) → KeepsLive old new
    → HoldMatchers old slots matchers → HoldMatchers new slots matchers
hold_keeps old new slots matchers keeps holds =
    stays_held old new slots matchers
    (λ place h. keeps (get_or slots place 0) (held_live old slots matchers holds place h)) holds

-- a release of another configuration does where each slot that is held has an outside use
pub release_keeps : (old new : SlotTable) (released slots : List ℕ) (matchers : List LMatcher)
    → ((s : ℕ) → 0 < times_among s slots → 0 < outside_uses new s) → ReleasesAll old released new
    → HoldMatchers old slots matchers → HoldMatchers new slots matchers
release_keeps old new released slots matchers used releases holds =
    stays_held old new slots matchers (λ place h. releases.stays (get_or slots place 0)
    (used (get_or slots place 0) (counted_at slots place (omega (arith, holds.each))))) holds

-- an evaluation does
pub evaluation_keeps : (says : SimpleMatcher → Atom → Bool) (atom : Atom) (old new : SlotTable) (slots : List ℕ)
    (matchers : List LMatcher) → Evaluates says atom old new → HoldMatchers old slots matchers
    → HoldMatchers new slots matchers
evaluation_keeps says atom old new slots matchers evaluates holds =
    stays_held old new slots matchers
    (λ place h. ap (λ (xs : List (Option SharedMatcher)). matcher_at xs (get_or slots place 0)) evaluates.slots) holds

module _ (matchers : List LMatcher) where
  same_tree : (f g : ℕ → Tree) (m : LMatcher) → ((y : ℕ) → Contains (named_matchers m) y → f y ≡ g y)
      → matcher_tree_from f (Some m) ≡ matcher_tree_from g (Some m)
  same_tree f g (Simple simple) same = refl
  same_tree f g (Combo op children) same = ap (λ (ts : List Tree). Branch op (trees_of ts)) (map_same f g children same)

  refers : (x y : ℕ) (m : LMatcher) → slice_get matchers x ≡ Some m → Contains (named_matchers m) y
      → Refers (named_places matchers) x y
  refers x y m is named =
      subst (λ (xs : List ℕ). Contains xs y) (sym (children_of named_matchers matchers x m is)) named

  same_found : (f g : ℕ → Tree) (x : ℕ) (found : Option LMatcher) → slice_get matchers x ≡ found
      → ((y : ℕ) → Refers (named_places matchers) x y → f y ≡ g y)
      → matcher_tree_from f found ≡ matcher_tree_from g found
  same_found f g x None is same = refl
  same_found f g x (Some m) is same = same_tree f g m (λ y named. same y (refers x y m is named))

  -- a tree comes from the trees of what is named, and from no others
  down : LooksDown (named_places matchers) (matcher_tree_step matchers)
  down f g x same = same_found f g x (slice_get matchers x) refl same

  many : length (named_places matchers) ≡ length matchers
  many = length-map matchers named_matchers

  map_twice : (f : ℕ → Tree) (g : ℕ → ℕ) (xs : List ℕ) → map f (map g xs) ≡ map (λ x. f (g x)) xs
  map_twice f g [] = refl
  map_twice f g (x ∷ xs) = ap (λ (ts : List Tree). f (g x) ∷ ts) (map_twice f g xs)

  module _ (in_range : AreInRange (named_places matchers)) (no_cycle : HasNoCycle (named_places matchers))
      (table : SlotTable) (slots : List ℕ) (sound : IsSoundTable table)
      (holds : HoldMatchers table slots matchers) where
    own_equation : (x : ℕ) → x < length matchers
        → matcher_tree matchers x ≡ matcher_tree_from (matcher_tree matchers) (slice_get matchers x)
    own_equation x h =
        equation (named_places matchers) (matcher_tree_step matchers) NoMatcher down (length (named_places matchers)) x
        (length matchers) (ends_from_no_cycle (named_places matchers) no_cycle in_range x (omega (arith, many)))
        (omega (arith, many))

    by_matcher : (m : LMatcher)
        → ((c : ℕ) → Contains (named_matchers m) c → slot_tree table.slots (get_or slots c 0) ≡ matcher_tree matchers c)
        → tree_from (slot_tree table.slots) (Some (in_slots slots m))
        ≡ matcher_tree_from (matcher_tree matchers) (Some m)
    by_matcher (Simple simple) below = refl
    by_matcher (Combo op children) below =
        ap (λ (ts : List Tree). Branch op (trees_of ts))
        (map_twice (slot_tree table.slots) (λ c. get_or slots c 0) children
        ∙ map_same (λ c. slot_tree table.slots (get_or slots c 0)) (matcher_tree matchers) children below)

    matcher_tree_within : (n p : ℕ) → EndsWithin (named_places matchers) n p → p < length matchers
        → slot_tree table.slots (get_or slots p 0) ≡ matcher_tree matchers p
    matcher_tree_within zero p ends h = absurd ends
    matcher_tree_within (suc n) p ends h =
        let m = there matchers p h in
        sound.trees (get_or slots p 0) (held_live table slots matchers holds p h)
        ∙ ap (tree_from (slot_tree table.slots)) (holds.same p m.0 m.1)
        ∙ by_matcher m.0 (λ c named. matcher_tree_within n c (ends c (refers p c m.0 m.1 named))
        (omega (arith, in_range p c (refers p c m.0 m.1 named), many)))
        ∙ sym (own_equation p h ∙ ap (matcher_tree_from (matcher_tree matchers)) m.1)

    -- a held slot has the tree of the configuration's own matcher
    pub held_tree : (p : ℕ) → p < length matchers → slot_tree table.slots (get_or slots p 0) ≡ matcher_tree matchers p
    held_tree p h =
        matcher_tree_within (length (named_places matchers)) p
        (ends_from_no_cycle (named_places matchers) no_cycle in_range p (omega (arith, many))) h
