-- What answers about making a slot rest on.
use Rattle.std.proofs.Common.{◌≡◌, ◌≢◌, ◌⊎◌, ℕ, ◌<◌, ◌≤◌, Bool, false, List, [], length, get_or, Option, None, sym, ap, subst, ◌∙◌, arith, inl, inr}
use Rattle.std.specs.List.{All}
use Rattle.std.proofs.lemmas.Bool.{cases_eq}
use Rattle.std.proofs.lemmas.List.{get_or_default}
use Rattle.matcher_table.specs.declared.shared.SharedMatcher.{SharedMatcher}
use Rattle.matcher_table.specs.Slots.{matcher_at, times_among}
use Rattle.matcher_table.specs.declared.store.Store.{Store}
use Rattle.matcher_table.specs.Finding.{slot_for}
use Rattle.matcher_table.specs.Hanging.{slots_under, atom_ids}
use Rattle.matcher_table.specs.StoreParts.{AreSlotsHeld, AreReady, StoreStands}
use Rattle.matcher_table.proofs.HeldLaws.{held_longer}
use Rattle.matcher_table.proofs.IndexLaws.{indexed_as}
use Rattle.matcher_table.proofs.ReadyLaws.{ready_as}
use Rattle.matcher_table.proofs.Counting.{counted_at}

-- what holds of all that is counted holds of all places
pub all_there : (xs : List ℕ) (n : ℕ) → ((x : ℕ) → 0 < times_among x xs → x < n) → All (λ x. x < n) xs
all_there xs n f k d h = subst (λ (y : ℕ). y < n) (get_or_default xs k 0 d h) (f (get_or xs k 0) (counted_at xs k h))

pub held_as : (slots slots' : List (Option SharedMatcher)) (order order' outside uses : List ℕ) (results : List Bool)
    → slots' ≡ slots → order' ≡ order → AreSlotsHeld slots order outside uses results
    → AreSlotsHeld slots' order' outside uses results
held_as slots slots' order order' outside uses results same_slots same_order held =
    subst (λ (xs : List (Option SharedMatcher)). AreSlotsHeld xs order' outside uses results) (sym same_slots)
    (subst (λ (xs : List ℕ). AreSlotsHeld slots xs outside uses results) (sym same_order) held)

-- each live slot has a use, the new one too
pub made_used : (slots slots' : List (Option SharedMatcher)) (slot : ℕ) (outside outside' uses uses' order : List ℕ)
    → ((k : ℕ) → k ≢ slot → matcher_at slots' k ≡ matcher_at slots k)
    → ((s : ℕ) → s ≢ slot → get_or outside' s 0 ≡ get_or outside s 0) → 0 < get_or outside' slot 0
    → ((s : ℕ) → get_or uses s 0 ≤ get_or uses' s 0)
    → ((s : ℕ) → matcher_at slots s ≢ None
    → ((0 < get_or outside s 0) ⊎ (0 < get_or uses s 0)) ⊎ (0 < times_among s []))
    → (s : ℕ) → matcher_at slots' s ≢ None → (0 < get_or outside' s 0) ⊎ (0 < get_or uses' s 0)
made_used slots slots' slot outside outside' uses uses' order others same new more used s live =
    elim (cases_eq s slot) [
      | inl is ↦ inl (subst (λ (k : ℕ). 0 < get_or outside' k 0) (sym is) new)
      | inr other ↦
          elim (used s (λ gone. live (others s other ∙ gone))) [
            | inr counted ↦ absurd (omega arith)
            | inl has ↦
                elim has [
                  | inl outer ↦ inl (omega (arith, same s other))
                  | inr child ↦ inr (omega (arith, more s))
                ]
          ]
    ]

-- some lists of a store are longer, and nothing else is other
pub record Lengthens (old new : Store) : Type 0 where
  pub slots : new.bodies.slots ≡ old.bodies.slots
  pub index : (wanted : SharedMatcher) → slot_for new.index wanted ≡ slot_for old.index wanted
  pub order : new.order.items ≡ old.order.items
  pub outside_long : length old.outside.items ≤ length new.outside.items
  pub outside : (s : ℕ) → get_or new.outside.items s 0 ≡ get_or old.outside.items s 0
  pub uses_long : length old.uses.items ≤ length new.uses.items
  pub uses : (s : ℕ) → get_or new.uses.items s 0 ≡ get_or old.uses.items s 0
  pub results_long : length old.results.items ≤ length new.results.items
  pub results : (s : ℕ) → get_or new.results.items s false ≡ get_or old.results.items s false
  pub idle_long : length old.idle.items ≤ length new.idle.items
  pub idle : (s : ℕ) → get_or new.idle.items s false ≡ get_or old.idle.items s false
  pub hanging : new.hanging ≡ old.hanging
  pub settled : new.settled ≡ old.settled
  pub last : new.last ≡ old.last

-- a store with longer lists keeps what it kept
pub lengthened : (old new : Store) → StoreStands old 0 → Lengthens old new → StoreStands new 0
lengthened old new stands longer = record {
  held = held_as old.bodies.slots new.bodies.slots old.order.items new.order.items _ _ _ longer.slots longer.order
      (held_longer stands.held new.outside.items new.uses.items new.results.items longer.outside_long longer.uses_long
      longer.results_long longer.outside longer.uses);
  indexed = indexed_as stands.indexed new.bodies.slots new.index longer.slots longer.index;
  ready =
      subst (λ (n : ℕ). AreReady new.bodies.slots (slots_under new.hanging) (atom_ids new.hanging) new.order.items n
      new.last new.idle.items new.results.items) (sym longer.settled)
      (subst (λ (n : ℕ). AreReady new.bodies.slots (slots_under new.hanging) (atom_ids new.hanging) new.order.items
      old.settled n new.idle.items new.results.items) (sym longer.last)
      (ready_as stands.ready new.bodies.slots (slots_under new.hanging) (atom_ids new.hanging) new.order.items
      new.idle.items new.results.items longer.slots (λ id. ap (λ lists. slots_under lists id) longer.hanging)
      (λ s. ap (λ lists. atom_ids lists s) longer.hanging) longer.order longer.idle_long longer.idle longer.results));
  used = λ s live.
      elim (stands.used s (λ gone. live (ap (λ xs. matcher_at xs s) longer.slots ∙ gone))) [
        | inr counted ↦ absurd (omega arith)
        | inl has ↦
            elim has [
              | inl outer ↦ inl (inl (omega (arith, longer.outside s)))
              | inr child ↦ inl (inr (omega (arith, longer.uses s)))
            ]
      ];
}
