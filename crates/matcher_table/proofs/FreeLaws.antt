-- What stays true where slots without a use are freed, one after another.
use Rattle.std.proofs.Common.{◌≡◌, ◌≢◌, ℕ, ◌+◌, ◌<◌, ◌≤◌, List, length, get_or, set, take, Option, None, false, refl, sym, ap, subst, ◌∙◌, arith, inl, inr}
use Rattle.std.specs.List.{remove}
use Rattle.std.proofs.lemmas.Bool.{cases_eq, cases_lt}
use Rattle.std.proofs.lemmas.List.{take_all}
use Rattle.matcher_table.specs.declared.shared.SharedMatcher.{SharedMatcher}
use Rattle.matcher_table.specs.declared.hanging.AtomSlots.{AtomSlots}
use Rattle.matcher_table.specs.declared.store.Store.{Store}
use Rattle.matcher_table.specs.Slots.{matcher_at, children_of, times_among}
use Rattle.matcher_table.specs.Steps.{Releases}
use Rattle.matcher_table.specs.StoreParts.{AreSlotsHeld, AreReady, StoreStands, StoreIsHeld, StoreIsIndexed, StoreIsReady, IsUsed, UsedFrom, Frees, LosesSlot, ChangesOutside, table_in}
use Rattle.matcher_table.specs.Hanging.{slots_under, atom_ids, UnhangsFrom}
use Rattle.matcher_table.proofs.Counting.{one_if_other, places_more, take_remove_below}
use Rattle.matcher_table.proofs.IndexLaws.{indexed_freed, some_same}
use Rattle.matcher_table.proofs.HeldLaws.{cases_live, held_freed, freed_others, now_gone, live_before, order_live, outside_live, live_listed}
use Rattle.matcher_table.proofs.ReadyLaws.{ready_freed}

-- all that is live stands in the order
pub used_from_all : (store : Store) → StoreIsHeld store → UsedFrom store (length store.order.items)
used_from_all store held s live =
    inr (subst (λ (xs : List ℕ). 0 < times_among s xs)
    (sym (take_all (length store.order.items) store.order.items (omega arith))) (live_listed held s live))

-- a slot with a use needs no sweep
pub used_lower : (store : Store) (at : ℕ) → at < length store.order.items → IsUsed store (get_or store.order.items at 0)
    → UsedFrom store (at + 1) → UsedFrom store at
used_lower store at within used from s live =
    elim (from s live) [
      | inl has ↦ inl has
      | inr counted ↦
          elim (cases_eq s (get_or store.order.items at 0)) [
            | inl same ↦ inl (subst (IsUsed store) (sym same) used)
            | inr other ↦
                inr (omega (
                  arith,
                  places_more s store.order.items at within,
                  one_if_other s (get_or store.order.items at 0) (λ e. other (sym e)),
                ))
          ]
    ]

pub frees_none : (store : Store) → Frees store store
frees_none store = record {
  outside = refl;
  results = refl;
  fewer = λ s. omega arith;
  kept = λ s live. refl;
  stays = λ s more. refl;
  next = inl (refl, refl);
}

pub frees_more : (a b c : Store) → Frees a b → Frees b c → Frees a c
frees_more a b c p q = record {
  outside = q.outside ∙ p.outside;
  results = q.results ∙ p.results;
  fewer = λ s. omega (arith, p.fewer s, q.fewer s);
  kept = λ s live. q.kept s live ∙ p.kept s (λ gone. live (q.kept s live ∙ gone));
  stays = λ s more. q.stays s (subst (λ (xs : List ℕ). 0 < get_or xs s 0) (sym p.outside) more) ∙ p.stays s more;
  next = elim q.next [
    | inl same ↦
        elim p.next [
          | inl before ↦ inl (same.0 ∙ before.0, same.1 ∙ before.1)
          | inr freed ↦
              inr (
                λ gone. freed.0 (ap (matcher_at a.bodies.slots) (sym same.1) ∙ gone),
                ap (λ (xs : List (Option SharedMatcher)). matcher_at xs c.bodies.vacant_key) same.0
                    ∙ ap (matcher_at b.bodies.slots) same.1 ∙ freed.1,
              )
        ]
    | inr freed ↦
        inr (λ gone. freed.0 (p.kept c.bodies.vacant_key freed.0 ∙ gone), freed.1)
  ];
}

-- One slot without a use is gone. Before it was taken out its lists were let go of, and the front that was settled.
module _ (old new : Store) (at : ℕ) (hanging : AtomSlots) (settled : ℕ) (stands : StoreStands old (at + 1))
    (within : at < length old.order.items) (unused : ¬ IsUsed old (get_or old.order.items at 0))
    (out : LosesSlot (record old { hanging = hanging; settled = settled }) new at) where
  no_uses : get_or old.uses.items (get_or old.order.items at 0) 0 ≡ 0
  no_uses = elim (cases_eq (get_or old.uses.items (get_or old.order.items at 0) 0) 0) [
    | inl none ↦ none
    | inr some ↦ absurd (unused (inr (omega arith)))
  ]

  no_outside : get_or old.outside.items (get_or old.order.items at 0) 0 ≡ 0
  no_outside = elim (cases_eq (get_or old.outside.items (get_or old.order.items at 0) 0) 0) [
    | inl none ↦ none
    | inr some ↦ absurd (unused (inl (omega arith)))
  ]

  others : (k : ℕ) → k ≢ get_or old.order.items at 0 → matcher_at new.bodies.slots k ≡ matcher_at old.bodies.slots k
  others = freed_others stands.held new.bodies.slots at
      (get_or old.order.items at 0) new.uses.items within refl out.slots no_uses
      no_outside out.uses out.same

  gone : matcher_at new.bodies.slots (get_or old.order.items at 0) ≡ None
  gone = now_gone stands.held new.bodies.slots at
      (get_or old.order.items at 0) new.uses.items within refl out.slots no_uses
      no_outside out.uses out.same

  was_live : matcher_at old.bodies.slots (get_or old.order.items at 0) ≢ None
  was_live = order_live stands.held at within

  before : (s : ℕ) → matcher_at new.bodies.slots s ≢ None
      → (s ≢ get_or old.order.items at 0) × (matcher_at old.bodies.slots s ≢ None)
  before = live_before stands.held new.bodies.slots at
      (get_or old.order.items at 0) new.uses.items within refl out.slots no_uses
      no_outside out.uses out.same

  freed_held : StoreIsHeld new
  freed_held =
      subst (λ (xs : List ℕ). AreSlotsHeld new.bodies.slots xs new.outside.items new.uses.items new.results.items)
      (sym out.order)
      (subst (λ (os : List ℕ). AreSlotsHeld new.bodies.slots
      (remove old.order.items at) os new.uses.items new.results.items)
      (sym out.outside)
      (subst (λ rs. AreSlotsHeld new.bodies.slots (remove old.order.items at) old.outside.items new.uses.items rs)
      (sym out.results)
      (held_freed stands.held new.bodies.slots at
      (get_or old.order.items at 0) new.uses.items within refl out.slots no_uses
      no_outside out.uses out.same)))

  -- the index loses the slot's matcher alone
  freed_indexed : StoreIsIndexed new
  freed_indexed = elim (cases_live (matcher_at old.bodies.slots (get_or old.order.items at 0))) [
    | inl none ↦ absurd (was_live none)
    | inr live ↦
        indexed_freed stands.indexed new.bodies.slots new.index (get_or old.order.items at 0) live.0 live.1 gone others
        (out.gone live.0 live.1) (λ wanted other. out.stay wanted
        (λ e. other (some_same wanted live.0 (sym e ∙ live.1))))
  ]

  -- the lists of its ids lose it, and what stays keeps its idle truth
  freed_ready : UnhangsFrom old.hanging (get_or old.order.items at 0) hanging
      → (at < old.settled → settled + 1 ≡ old.settled) → (old.settled ≤ at → settled ≡ old.settled) → StoreIsReady new
  freed_ready unhangs above below =
      let unhangs_new : UnhangsFrom old.hanging (get_or old.order.items at 0) new.hanging =
      subst (UnhangsFrom old.hanging (get_or old.order.items at 0)) (sym out.hanging) unhangs in
      let under = slots_under new.hanging in
      let ids = atom_ids new.hanging in
      let removed : AreSlotsHeld new.bodies.slots (remove old.order.items at) new.outside.items new.uses.items
      old.results.items =
      subst (λ bs. AreSlotsHeld new.bodies.slots (remove old.order.items at) new.outside.items new.uses.items bs)
      out.results
      (subst (λ (xs : List ℕ). AreSlotsHeld new.bodies.slots xs new.outside.items new.uses.items new.results.items)
      out.order freed_held) in
      subst (λ (xs : List ℕ). AreReady new.bodies.slots under ids xs new.settled new.last new.idle.items
      new.results.items) (sym out.order)
      (subst (λ (n : ℕ). AreReady new.bodies.slots under ids (remove old.order.items at) new.settled n new.idle.items
      new.results.items) (sym out.last)
      (subst (λ bs. AreReady new.bodies.slots under ids (remove old.order.items at) new.settled old.last bs
      new.results.items) (sym out.idle)
      (subst (λ bs. AreReady new.bodies.slots under ids (remove old.order.items at) new.settled old.last
      old.idle.items bs) (sym out.results)
      (ready_freed old.hanging new.hanging stands.ready stands.held at
      (get_or old.order.items at 0) new.settled removed within gone
      others (sym (stands.held.uses_are (get_or old.order.items at 0)) ∙ no_uses) unhangs_new
      (λ before. omega (arith, out.settled, above before)) (λ later. out.settled ∙ below later)))))

  pub freed_frees : Frees old new
  freed_frees = record {
    outside = out.outside;
    results = out.results;
    fewer = λ s. omega (arith, out.uses s);
    kept = λ s live. others s (before s live).0;
    stays = λ s more.
        let differs : s ≢ get_or old.order.items at 0 = λ e.
        let none : get_or old.outside.items s 0 ≡ 0 =
        ap (λ (k : ℕ). get_or old.outside.items k 0) e ∙ no_outside in
        omega arith in
        others s differs;
    next = inr (
      λ none. was_live (ap (matcher_at old.bodies.slots) (sym out.next) ∙ none),
      ap (matcher_at new.bodies.slots) out.next ∙ gone,
    );
  }

  front : take at new.order.items ≡ take at old.order.items
  front = ap (take at) out.order ∙ take_remove_below old.order.items at at within (omega arith)

  in_front : (s : ℕ) → 0 < times_among s (take at old.order.items) → 0 < times_among s (take at new.order.items)
  in_front s counted = subst (λ (xs : List ℕ). 0 < times_among s xs) (sym front) counted

  freed_used : UsedFrom new at
  freed_used s live =
      let was = before s live in
      elim (stands.used s was.1) [
        | inr counted ↦
            inr (in_front s (omega (
              arith,
              places_more s old.order.items at within,
              one_if_other s (get_or old.order.items at 0) (λ e. was.0 (sym e)),
            )))
        | inl has ↦
            elim has [
              | inl outer ↦ inl (inl (subst (λ (xs : List ℕ). 0 < get_or xs s 0) (sym out.outside) outer))
              | inr child ↦
                  elim (cases_lt 0 (times_among s (children_of (matcher_at old.bodies.slots
                  (get_or old.order.items at 0))))) [
                    | inl named ↦ inr (in_front s (stands.held.after at s within named))
                    | inr none ↦ inl (inr (omega (arith, out.uses s)))
                  ]
            ]
      ]

  pub freed_stands : UnhangsFrom old.hanging (get_or old.order.items at 0) hanging
      → (at < old.settled → settled + 1 ≡ old.settled) → (old.settled ≤ at → settled ≡ old.settled)
      → StoreStands new at
  freed_stands unhangs above below = record {
    held = freed_held;
    indexed = freed_indexed;
    ready = freed_ready unhangs above below;
    used = freed_used;
  }

-- one outside use fewer, of a slot that keeps another use
module _ (old new : Store) (slot : ℕ) (held : StoreIsHeld old) (had : 0 < get_or old.outside.items slot 0)
    (changes : ChangesOutside old new slot)
    (lower : get_or new.outside.items slot 0 + 1 ≡ get_or old.outside.items slot 0) where
  slots_same : new.bodies.slots ≡ old.bodies.slots
  slots_same = ap (λ b. b.slots) changes.bodies

  next_same : new.bodies.vacant_key ≡ old.bodies.vacant_key
  next_same = ap (λ b. b.vacant_key) changes.bodies

  kept_same : (s : ℕ) → matcher_at new.bodies.slots s ≡ matcher_at old.bodies.slots s
  kept_same s = ap (λ (xs : List (Option SharedMatcher)). matcher_at xs s) slots_same

  slot_live : matcher_at old.bodies.slots slot ≢ None
  slot_live = outside_live held slot had

  pub lowered_releases : Releases (table_in old) slot (table_in new)
  lowered_releases = record {
    outside = lower;
    others = changes.others;
    kept = λ s live. kept_same s;
    stays = λ s more. kept_same s;
    results = λ s live. ap (λ rs. get_or rs s false) changes.results;
    none_freed = λ live. (slots_same, next_same);
    one_freed = λ none others. absurd (slot_live (sym (kept_same slot) ∙ none));
  }

  pub lowered_used : UsedFrom old 0 → IsUsed new slot → UsedFrom new 0
  lowered_used from used s live =
      elim (cases_eq s slot) [
        | inl same ↦ inl (subst (IsUsed new) (sym same) used)
        | inr other ↦
            elim (from s (λ none. live (kept_same s ∙ none))) [
              | inr counted ↦ absurd (omega arith)
              | inl has ↦
                  elim has [
                    | inl outer ↦ inl (inl (omega (arith, changes.others s other)))
                    | inr child ↦ inl (inr (subst (λ (xs : List ℕ). 0 < get_or xs s 0) (sym changes.uses) child))
                  ]
            ]
      ]

  -- and of a slot that keeps none
  module _ (end : Store) (unused : ¬ IsUsed new slot) (frees : Frees new end) (used : UsedFrom end 0) where
    gone_at_end : ¬ (matcher_at end.bodies.slots slot ≢ None)
    gone_at_end live =
        elim (used slot live) [
          | inr counted ↦ omega arith
          | inl has ↦
              elim has [
                | inl outer ↦ unused (inl (subst (λ (xs : List ℕ). 0 < get_or xs slot 0) frees.outside outer))
                | inr child ↦ unused (inr (omega (arith, frees.fewer slot)))
              ]
        ]

    key_is : matcher_at end.bodies.slots slot ≡ None
        → ((s : ℕ) → s ≢ slot → matcher_at end.bodies.slots s ≡ matcher_at old.bodies.slots s)
        → end.bodies.vacant_key ≡ slot
    key_is none others =
        elim frees.next [
          | inl same ↦
              absurd (slot_live (sym (kept_same slot)
              ∙ sym (ap (λ (xs : List (Option SharedMatcher)). matcher_at xs slot) same.0) ∙ none))
          | inr freed ↦
              elim (cases_eq end.bodies.vacant_key slot) [
                | inl is ↦ is
                | inr other ↦
                    absurd (freed.0 (kept_same end.bodies.vacant_key ∙ sym (others end.bodies.vacant_key other)
                    ∙ freed.1))
              ]
        ]

    pub swept_releases : Releases (table_in old) slot (table_in end)
    swept_releases = record {
      outside = ap (λ (xs : List ℕ). get_or xs slot 0 + 1) frees.outside ∙ lower;
      others = λ s other. ap (λ (xs : List ℕ). get_or xs s 0) frees.outside ∙ changes.others s other;
      kept = λ s live. frees.kept s live ∙ kept_same s;
      stays = λ s more. frees.stays s (subst (λ (xs : List ℕ). 0 < get_or xs s 0) frees.outside more) ∙ kept_same s;
      results = λ s live. ap (λ rs. get_or rs s false) (frees.results ∙ changes.results);
      none_freed = λ live. absurd (gone_at_end live);
      one_freed = key_is;
    }
