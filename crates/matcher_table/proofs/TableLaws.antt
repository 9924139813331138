-- What a table's calls rest on.
use Rattle.std.proofs.Common.{◌≡◌, ◌≢◌, ◌⊎◌, ℕ, ◌+◌, ◌<◌, Bool, List, length, take, map, get_or, Option, Some, None, refl, sym, ap, subst, ◌∙◌, arith, inl, inr}
use Rattle.std.proofs.Props.{props}
use Rattle.std.specs.List.{All}
use Rattle.std.proofs.lemmas.Bool.{cases_eq}
use Rattle.std.proofs.lemmas.List.{length-map, get_or-map}
use mathlib.Core.Logic.{∥∥₁_elim}
use Rattle.matcher_table.specs.declared.shared.SharedMatcher.{SharedMatcher}
use Rattle.matcher_table.specs.declared.shared.SharedMatcher.TheVariants.{Simple, Combination}
use Rattle.matcher_table.specs.declared.store.Store.{Store}
use Rattle.matcher_table.specs.declared.table.Slot.{Slot}
use Rattle.matcher_table.specs.Slots.{matcher_at, times_among}
use Rattle.matcher_table.specs.Tables.{IsUnchanged}
use Rattle.matcher_table.specs.Steps.{Interns, Releases}
use Rattle.matcher_table.specs.Trees.{slot_tree}
use Rattle.matcher_table.specs.Truths.{MayAskAbout}
use Rattle.matcher_table.specs.TableFacts.{IsSoundTable, KeepsTrees}
use Rattle.matcher_table.specs.StoreParts.{AreSlotsHeld, StoreStands, IsUsed, table_in}
use Rattle.matcher_table.proofs.Counting.{place_of}
use Rattle.matcher_table.proofs.HeldLaws.{cases_live}
use Rattle.matcher_table.proofs.IndexLaws.{matchers_set, one_slot}
use Rattle.matcher_table.proofs.TreeLaws.{trees_meet_their_step, named_live, tree_kept}

module _ {slots : List (Option SharedMatcher)} {order outside uses : List ℕ} {results : List Bool}
    (held : AreSlotsHeld slots order outside uses results) where
  may_ask : (s : ℕ) (o : Option SharedMatcher) → matcher_at slots s ≡ o → MayAskAbout o
  may_ask s None e = tt
  may_ask s (Some (Simple matcher)) e = held.askable s matcher e
  may_ask s (Some (Combination op children)) e = tt

  pub all_askable : (s : ℕ) → MayAskAbout (matcher_at slots s)
  all_askable s = may_ask s (matcher_at slots s) refl

-- where no slot may do without a use, each live one has one
has_use : (store : Store) (s : ℕ) → IsUsed store s ⊎ (0 < times_among s (take 0 store.order.items))
    → 0 < get_or store.outside.items s 0 + get_or store.uses.items s 0
has_use store s (inr counted) = absurd (omega arith)
has_use store s (inl (inl outer)) = omega arith
has_use store s (inl (inr child)) = omega arith

-- what merely stands stands
pub had : (store : Store) → ∥ StoreStands store 0 ∥₁ → StoreStands store 0
had store merely = record {
  held = ∥∥₁_elim merely (hlevel props) (λ it. it.held);
  indexed = ∥∥₁_elim merely (hlevel (props, matchers_set)) (λ it. it.indexed);
  ready = ∥∥₁_elim merely (hlevel props) (λ it. it.ready);
  used = λ s live.
      let some : 0 < get_or store.outside.items s 0 + get_or store.uses.items s 0 =
      ∥∥₁_elim merely (hlevel props) (λ it. has_use store s (it.used s live)) in
      elim (cases_eq (get_or store.outside.items s 0) 0) [
        | inl none ↦ inl (inr (omega arith))
        | inr more ↦ inl (inl (omega arith))
      ];
}

-- what callers may know of every table
pub sound_table : (store : Store) → StoreStands store 0 → IsSoundTable (table_in store)
sound_table store stands = record {
  used = λ s live. omega (arith, has_use store s (stands.used s live), stands.held.uses_are s);
  unused = λ s gone. omega (arith, stands.held.none_outside s gone, stands.held.none_below s gone);
  apart = λ s t live same. elim (cases_live (matcher_at store.bodies.slots s)) [
    | inl none ↦ absurd (live none)
    | inr there ↦ one_slot stands.indexed s t there.0 there.1 (sym same ∙ there.1)
  ];
  children = λ s c named. named_live stands.held s c named;
  trees = λ s live. trees_meet_their_step stands.held s live;
}

pub unchanged_trees : (old new : Store) → IsUnchanged (table_in old) (table_in new)
    → KeepsTrees (table_in old) (table_in new)
unchanged_trees old new same s was live = ap (λ (xs : List (Option SharedMatcher)). slot_tree xs s) same.slots

-- what was live stands for the same after an intern
interned_same : (old new : Store) (shared : SharedMatcher) (slot : ℕ)
    → Interns (table_in old) shared slot (table_in new)
    → (s : ℕ) → matcher_at old.bodies.slots s ≢ None → matcher_at old.bodies.slots s ≡ matcher_at new.bodies.slots s
interned_same old new shared slot interns s live =
    elim (cases_eq s slot) [
      | inr other ↦ sym (interns.others.kept s other)
      | inl same ↦
          elim interns.either [
            | inl there ↦ ap (matcher_at old.bodies.slots) same ∙ there ∙ sym interns.here
                ∙ sym (ap (matcher_at new.bodies.slots) same)
            | inr gone ↦ absurd (live (ap (matcher_at old.bodies.slots) same ∙ gone))
          ]
    ]

pub interned_trees : (old new : Store) (shared : SharedMatcher) (slot : ℕ) → StoreStands old 0 → StoreStands new 0
    → Interns (table_in old) shared slot (table_in new) → KeepsTrees (table_in old) (table_in new)
interned_trees old new shared slot first last interns s was live =
    sym (tree_kept last.held first.held (interned_same old new shared slot interns) s was)

pub released_trees : (old new : Store) (slot : ℕ) → StoreStands old 0 → StoreStands new 0
    → Releases (table_in old) slot (table_in new) → KeepsTrees (table_in old) (table_in new)
released_trees old new slot first last releases s was live = tree_kept first.held last.held releases.kept s live

-- what slots name is live, where each of the slots is
pub children_live : (slots : List (Option SharedMatcher)) (children : List Slot) (xs : List ℕ)
    → xs ≡ map (λ (slot : Slot). slot.number) children
    → All (λ (slot : Slot). matcher_at slots slot.number ≢ None) children
    → (y : ℕ) → 0 < times_among y xs → matcher_at slots y ≢ None
children_live slots children xs is all y counted =
    let none : Slot = record { number = 0 } in
    let at = place_of y (map (λ (slot : Slot). slot.number) children)
    (subst (λ (ys : List ℕ). 0 < times_among y ys) is counted) in
    let within : at.0 < length children = omega (arith, at.1, length-map children (λ (slot : Slot). slot.number)) in
    let e : get_or (map (λ (slot : Slot). slot.number) children) at.0 0 ≡ (get_or children at.0 none).number =
    get_or-map (λ (slot : Slot). slot.number) children at.0 none 0 within in
    subst (λ (k : ℕ). matcher_at slots k ≢ None) (sym e ∙ at.2) (all at.0 none within)
