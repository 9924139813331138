-- What stays true of a store where slots are made and freed.
use Rattle.std.proofs.Common.{◌≡◌, ◌≢◌, ◌⊎◌, ℕ, ◌+◌, ◌<◌, ◌≤◌, Bool, false, cond, List, [], ◌∷◌, ◌++◌, length, get_or, set, take, Option, Some, None, is_some, refl, sym, ap, subst, ◌∙◌, arith, inl, inr}
use Rattle.std.specs.Bool.{IsTrue}
use Rattle.std.specs.List.{sum_by, count_by, remove}
use Rattle.std.proofs.lemmas.Bool.{cases_eq, cases_lt}
use Rattle.std.proofs.lemmas.List.{take-append-le, take_all, length_push, get_or_append_left, get_or_push, get_or_past, get_or-set_same, get_or-set_other, length-take-le, get_or-take}
use Rattle.std.proofs.lemmas.List.Edits.{length-remove, get_or-remove_below, get_or-remove_above}
use Rattle.std.proofs.lemmas.List.Sums.{get_or-le-sum_by, sum_by-cons, count_by-le-length}
use Rattle.config_types.specs.declared.matcher.SimpleMatcher.{SimpleMatcher}
use Rattle.config_types.specs.Askable.{IsAskable}
use Rattle.matcher_table.specs.declared.shared.SharedMatcher.{SharedMatcher}
use Rattle.matcher_table.specs.declared.shared.SharedMatcher.TheVariants.{Simple}
use Rattle.matcher_table.specs.Slots.{matcher_at, children_of, times_among, child_uses, live_count}
use Rattle.matcher_table.specs.StoreParts.{AreSlotsHeld}
use Rattle.matcher_table.proofs.Counting.{one_if, one_if_same, one_if_other, places_push, places-remove, counted_at, take_remove_below, take_remove_above, sum_updates}

-- false isn't true
pub no_truth : IsTrue false → ⊥
no_truth h = cc

-- either nothing stands there, or something does
pub cases_live : (o : Option SharedMatcher) → (o ≡ None) ⊎ ((shared : SharedMatcher) × (o ≡ Some shared))
cases_live None = inl refl
cases_live (Some shared) = inr (shared, refl)

pub some_live : (o : Option SharedMatcher) (shared : SharedMatcher) → o ≡ Some shared → o ≢ None
some_live o shared e n = cc

pub live_is_one : (o : Option SharedMatcher) → o ≢ None → live_count o ≡ 1
live_is_one None live = absurd (live refl)
live_is_one (Some shared) live = refl

pub counted_live : (o : Option SharedMatcher) → 0 < live_count o → o ≢ None
counted_live None h = absurd (omega arith)
counted_live (Some shared) h = λ n. cc

pub vacant_is_none : (o : Option SharedMatcher) → o ≡ None → live_count o ≡ 0
vacant_is_none o e = ap live_count e

-- the live slots, counted in two ways
pub counts_live : (slots : List (Option SharedMatcher)) → sum_by live_count slots ≡ count_by is_some slots
counts_live [] = refl
counts_live (None ∷ slots) =
    omega (
      arith,
      sum_by-cons live_count None slots,
      sum_by-cons (λ (o : Option SharedMatcher). cond (is_some o) 1 0) None slots,
      counts_live slots,
    )
counts_live (Some shared ∷ slots) =
    omega (
      arith,
      sum_by-cons live_count (Some shared) slots,
      sum_by-cons (λ (o : Option SharedMatcher). cond (is_some o) 1 0) (Some shared) slots,
      counts_live slots,
    )

-- a slot past the end isn't live
pub live_within : (slots : List (Option SharedMatcher)) (s : ℕ) → matcher_at slots s ≢ None → s < length slots
live_within slots s live =
    elim (cases_lt s (length slots)) [ inl here ↦ here | inr past ↦ absurd (live (get_or_past slots s None past)) ]

-- where a slot's uses change by what another slot names
pub uses_change : (slots slots' : List (Option SharedMatcher)) (key s : ℕ)
    → ((k : ℕ) → k ≢ key → matcher_at slots' k ≡ matcher_at slots k)
    → child_uses slots' s + times_among s (children_of (matcher_at slots key))
    ≡ child_uses slots s + times_among s (children_of (matcher_at slots' key))
uses_change slots slots' key s same =
    sum_updates (λ (o : Option SharedMatcher). times_among s (children_of o)) refl slots slots' key same

-- what a slot names has a child use
pub named_used : (slots : List (Option SharedMatcher)) (x c : ℕ) → 0 < times_among c (children_of (matcher_at slots x))
    → 0 < child_uses slots c
named_used slots x c named =
    elim (cases_lt x (length slots)) [
      | inl here ↦ omega (
        arith,
        get_or-le-sum_by (λ (o : Option SharedMatcher). times_among c
            (children_of o)) slots x None here,
      )
      | inr past ↦
          let gone : times_among c (children_of (matcher_at slots x)) ≡ 0 =
          ap (λ (o : Option SharedMatcher). times_among c (children_of o)) (get_or_past slots x None past) in
          absurd (omega arith)
    ]

module _ {slots : List (Option SharedMatcher)} {order outside uses : List ℕ} {results : List Bool}
    (held : AreSlotsHeld slots order outside uses results) where
  -- a live slot stands in the order
  pub live_listed : (s : ℕ) → matcher_at slots s ≢ None → 0 < times_among s order
  live_listed s live = omega (arith, held.listed s, live_is_one (matcher_at slots s) live)

  -- what stands in the order is live
  pub listed_live : (s : ℕ) → 0 < times_among s order → matcher_at slots s ≢ None
  listed_live s counted = counted_live (matcher_at slots s) (omega (arith, held.listed s))

  pub order_live : (i : ℕ) → i < length order → matcher_at slots (get_or order i 0) ≢ None
  order_live i h = listed_live (get_or order i 0) (counted_at order i h)

  -- no more slots are live than there are
  pub order_short : length order ≤ length slots
  order_short = omega (arith, held.once, count_by-le-length is_some slots)

  -- what has an outside use is live
  pub outside_live : (s : ℕ) → 0 < get_or outside s 0 → matcher_at slots s ≢ None
  outside_live s h gone = omega (arith, held.none_outside s gone)

  -- other outside uses, of live slots alone
  pub held_outside : (outside' : List ℕ) → length outside' ≡ length outside
      → ((s : ℕ) → matcher_at slots s ≡ None → get_or outside' s 0 ≡ get_or outside s 0)
      → AreSlotsHeld slots order outside' uses results
  held_outside outside' long same = record {
    uses_are = held.uses_are;
    none_outside = λ s gone. same s gone ∙ held.none_outside s gone;
    none_below = held.none_below;
    listed = held.listed;
    once = held.once;
    after = held.after;
    room_outside = λ s live. omega (arith, held.room_outside s live);
    room_uses = held.room_uses;
    room_results = held.room_results;
    askable = held.askable;
  }

  -- more room
  pub held_longer : (outside' uses' : List ℕ) (results' : List Bool) → length outside ≤ length outside'
      → length uses ≤ length uses' → length results ≤ length results'
      → ((s : ℕ) → get_or outside' s 0 ≡ get_or outside s 0) → ((s : ℕ) → get_or uses' s 0 ≡ get_or uses s 0)
      → AreSlotsHeld slots order outside' uses' results'
  held_longer outside' uses' results' long_o long_u long_r same_o same_u = record {
    uses_are = λ s. same_u s ∙ held.uses_are s;
    none_outside = λ s gone. same_o s ∙ held.none_outside s gone;
    none_below = held.none_below;
    listed = held.listed;
    once = held.once;
    after = held.after;
    room_outside = λ s live. omega (arith, held.room_outside s live);
    room_uses = λ s live. omega (arith, held.room_uses s live);
    room_results = λ s live. omega (arith, held.room_results s live);
    askable = held.askable;
  }

  -- a new slot, with one outside use
  module _ (slots' : List (Option SharedMatcher)) (slot : ℕ) (shared : SharedMatcher) (outside' uses' : List ℕ)
      (results' : List Bool)
      (was : matcher_at slots slot ≡ None) (here : matcher_at slots' slot ≡ Some shared)
      (others : (k : ℕ) → k ≢ slot → matcher_at slots' k ≡ matcher_at slots k)
      (one_more : count_by is_some slots' ≡ count_by is_some slots + 1)
      (children : (c : ℕ) → 0 < times_among c (children_of (Some shared)) → matcher_at slots c ≢ None)
      (askable : (matcher : SimpleMatcher) → shared ≡ Simple matcher → IsAskable matcher)
      (counted : (s : ℕ) → get_or uses' s 0 ≡ get_or uses s 0 + times_among s (children_of (Some shared)))
      (long_uses : length uses ≤ length uses') (room_uses : slot < length uses')
      (long_outside : length outside ≤ length outside') (room_outside : slot < length outside')
      (same_outside : (s : ℕ) → s ≢ slot → get_or outside' s 0 ≡ get_or outside s 0)
      (long_results : length results ≤ length results') (room_results : slot < length results') where
    uses_now : (s : ℕ) → child_uses slots' s ≡ child_uses slots s + times_among s (children_of (Some shared))
    uses_now s =
        let before : times_among s (children_of (matcher_at slots slot)) ≡ 0 =
        ap (λ (o : Option SharedMatcher). times_among s (children_of o)) was in
        let after : times_among s (children_of (matcher_at slots' slot)) ≡ times_among s (children_of (Some shared)) =
        ap (λ (o : Option SharedMatcher). times_among s (children_of o)) here in
        omega (arith, uses_change slots slots' slot s others)

    -- what isn't live afterwards wasn't before, and is no child
    not_before : (s : ℕ) → matcher_at slots' s ≡ None → matcher_at slots s ≡ None
    not_before s gone =
        elim (cases_eq s slot) [
          | inl same ↦ ap (matcher_at slots) same ∙ was
          | inr other ↦ sym (others s other) ∙ gone
        ]

    not_named : (s : ℕ) → matcher_at slots s ≡ None → times_among s (children_of (Some shared)) ≡ 0
    not_named s gone =
        elim (cases_eq (times_among s (children_of (Some shared))) 0) [
          | inl none ↦ none
          | inr some ↦ absurd (children s (omega arith) gone)
        ]

    other_than : (s : ℕ) → matcher_at slots' s ≡ None → s ≢ slot
    other_than s gone same =
        let there : matcher_at slots' s ≡ Some shared = ap (matcher_at slots') same ∙ here in
        cc

    live_cases : (s : ℕ) → matcher_at slots' s ≢ None → (s ≡ slot) ⊎ ((s ≢ slot) × (matcher_at slots s ≢ None))
    live_cases s live =
        elim (cases_eq s slot) [
          | inl same ↦ inl same
          | inr other ↦ inr (other, λ gone. live (others s other ∙ gone))
        ]

    listed_now : (s : ℕ) → times_among s (order ++ slot ∷ []) ≡ live_count (matcher_at slots' s)
    listed_now s =
        elim (cases_eq s slot) [
          | inl same ↦
              let one : one_if s slot ≡ 1 = one_if_same s slot (sym same) in
              let gone : live_count (matcher_at slots s) ≡ 0 =
              vacant_is_none (matcher_at slots s) (ap (matcher_at slots) same ∙ was) in
              let now : live_count (matcher_at slots' s) ≡ 1 = ap (λ (x : ℕ). live_count (matcher_at slots' x)) same
              ∙ ap live_count here in
              omega (arith, places_push s slot order, held.listed s)
          | inr other ↦
              let none : one_if s slot ≡ 0 = one_if_other s slot (λ e. other (sym e)) in
              let now : live_count (matcher_at slots' s) ≡ live_count (matcher_at slots s) = ap live_count
              (others s other) in
              omega (arith, places_push s slot order, held.listed s)
        ]

    -- children stand in the order before
    after_now : (i c : ℕ) → i < length (order ++ slot ∷ [])
        → 0 < times_among c (children_of (matcher_at slots' (get_or (order ++ slot ∷ []) i 0)))
        → 0 < times_among c (take i (order ++ slot ∷ []))
    after_now i c h named =
        let front : take i (order ++ slot ∷ []) ≡ take i order =
        take-append-le i order (slot ∷ []) (omega (arith, length_push order slot)) in
        elim (cases_lt i (length order)) [
          | inl old ↦
              let at : get_or (order ++ slot ∷ []) i 0 ≡ get_or order i 0 =
              get_or_append_left order (slot ∷ []) 0 i old in
              let differs : get_or order i 0 ≢ slot = λ e. order_live i old (ap (matcher_at slots) e ∙ was) in
              let same : matcher_at slots' (get_or (order ++ slot ∷ []) i 0) ≡ matcher_at slots (get_or order i 0) =
              ap (matcher_at slots') at ∙ others (get_or order i 0) differs in
              let before : 0 < times_among c (children_of (matcher_at slots (get_or order i 0))) =
              subst (λ (o : Option SharedMatcher). 0 < times_among c (children_of o)) same named in
              subst (λ (xs : List ℕ). 0 < times_among c xs) (sym front) (held.after i c old before)
          | inr last ↦
              let at : get_or (order ++ slot ∷ []) i 0 ≡ slot =
              get_or_push order slot 0 i (omega (arith, length_push order slot)) in
              let same : matcher_at slots' (get_or (order ++ slot ∷ []) i 0) ≡ Some shared = ap
              (matcher_at slots') at ∙ here in
              let child : 0 < times_among c (children_of (Some shared)) =
              subst (λ (o : Option SharedMatcher). 0 < times_among c (children_of o)) same named in
              let all : take i order ≡ order = take_all i order last in
              subst (λ (xs : List ℕ). 0 < times_among c xs) (sym (front ∙ all)) (live_listed c (children c child))
        ]

    pub held_made : AreSlotsHeld slots' (order ++ slot ∷ []) outside' uses' results'
    held_made = record {
      uses_are = λ s. counted s ∙ ap (λ (n : ℕ). n + times_among s (children_of (Some shared))) (held.uses_are s)
          ∙ sym (uses_now s);
      none_outside = λ s gone. same_outside s (other_than s gone) ∙ held.none_outside s (not_before s gone);
      none_below = λ s gone. omega (
        arith,
        uses_now s,
        held.none_below s (not_before s gone),
        not_named s (not_before s gone),
      );
      listed = listed_now;
      once = length_push order slot ∙ ap (λ (n : ℕ). n + 1) held.once ∙ sym one_more;
      after = after_now;
      room_outside = λ s live. elim (live_cases s live) [
        | inl same ↦ omega arith
        | inr old ↦ omega (arith, held.room_outside s old.1)
      ];
      room_uses = λ s live. elim (live_cases s live) [
        | inl same ↦ omega arith
        | inr old ↦ omega (arith, held.room_uses s old.1)
      ];
      room_results = λ s live. elim (live_cases s live) [
        | inl same ↦ omega arith
        | inr old ↦ omega (arith, held.room_results s old.1)
      ];
      askable = λ s matcher e. elim (cases_eq s slot) [
        | inl same ↦
            let there : matcher_at slots' s ≡ Some shared = ap (matcher_at slots') same ∙ here in
            let is : shared ≡ Simple matcher = cc in
            askable matcher is
        | inr other ↦ held.askable s matcher (sym (others s other) ∙ e)
      ];
    }

  -- a slot that is gone
  module _ (slots' : List (Option SharedMatcher)) (at x : ℕ) (uses' : List ℕ) (within : at < length order)
      (is_x : x ≡ get_or order at 0) (written : slots' ≡ set slots x None)
      (unused : get_or uses x 0 ≡ 0) (none_outside : get_or outside x 0 ≡ 0)
      (counted : (s : ℕ) → get_or uses' s 0 + times_among s (children_of (matcher_at slots x)) ≡ get_or uses s 0)
      (long : length uses' ≡ length uses) where
    live_x : matcher_at slots x ≢ None
    live_x gone = order_live at within (ap (matcher_at slots) (sym is_x) ∙ gone)

    there : x < length slots
    there = live_within slots x live_x

    pub now_gone : matcher_at slots' x ≡ None
    now_gone = ap (λ (xs : List (Option SharedMatcher)). matcher_at xs x) written
        ∙ get_or-set_same slots x None None there

    pub freed_others : (k : ℕ) → k ≢ x → matcher_at slots' k ≡ matcher_at slots k
    freed_others k other = ap (λ (xs : List (Option SharedMatcher)). matcher_at xs k) written
        ∙ get_or-set_other slots x k None None other

    uses_freed : (s : ℕ) → child_uses slots' s + times_among s (children_of (matcher_at slots x)) ≡ child_uses slots s
    uses_freed s =
        let none : times_among s (children_of (matcher_at slots' x)) ≡ 0 =
        ap (λ (o : Option SharedMatcher). times_among s (children_of o)) now_gone in
        omega (arith, uses_change slots slots' x s freed_others)

    -- what is live stays, or is the one that is gone
    pub live_before : (s : ℕ) → matcher_at slots' s ≢ None → (s ≢ x) × (matcher_at slots s ≢ None)
    live_before s live =
        let differs : s ≢ x = λ e. live (ap (matcher_at slots') e ∙ now_gone) in
        (differs, λ gone. live (freed_others s differs ∙ gone))

    unnamed_freed : (y c : ℕ) → 0 < times_among c (children_of (matcher_at slots y)) → c ≢ x
    unnamed_freed y c named e =
        let used : 0 < child_uses slots c = named_used slots y c named in
        let none : child_uses slots c ≡ 0 = ap (child_uses slots) e ∙ sym (held.uses_are x) ∙ unused in
        omega arith

    listed_freed : (s : ℕ) → times_among s (remove order at) ≡ live_count (matcher_at slots' s)
    listed_freed s =
        elim (cases_eq s x) [
          | inl same ↦
              let one : one_if s (get_or order at 0) ≡ 1 = one_if_same s (get_or order at 0) (sym is_x ∙ sym same) in
              let was : live_count (matcher_at slots s) ≡ 1 =
              ap (λ (k : ℕ). live_count (matcher_at slots k)) same ∙ live_is_one (matcher_at slots x) live_x in
              let now : live_count (matcher_at slots' s) ≡ 0 =
              ap (λ (k : ℕ). live_count (matcher_at slots' k)) same ∙ vacant_is_none (matcher_at slots' x) now_gone in
              omega (arith, places-remove s order at within, held.listed s)
          | inr other ↦
              let none : one_if s (get_or order at 0) ≡ 0 =
              one_if_other s (get_or order at 0) (λ e. other (sym e ∙ sym is_x)) in
              let now : live_count (matcher_at slots' s) ≡ live_count (matcher_at slots s) =
              ap live_count (freed_others s other) in
              omega (arith, places-remove s order at within, held.listed s)
        ]

    once_freed : length (remove order at) ≡ count_by is_some slots'
    once_freed =
        let one : live_count (matcher_at slots x) ≡ 1 = live_is_one (matcher_at slots x) live_x in
        let gone : live_count (matcher_at slots' x) ≡ 0 = vacant_is_none (matcher_at slots' x) now_gone in
        let sums : sum_by live_count slots' + live_count (matcher_at slots x)
        ≡ sum_by live_count slots + live_count (matcher_at slots' x) =
        sum_updates live_count refl slots slots' x freed_others in
        omega (arith, length-remove order at within, held.once, counts_live slots, counts_live slots')

    after_freed : (i c : ℕ) → i < length (remove order at)
        → 0 < times_among c (children_of (matcher_at slots' (get_or (remove order at) i 0)))
        → 0 < times_among c (take i (remove order at))
    after_freed i c h named =
        let shorter : length (remove order at) + 1 ≡ length order = length-remove order at within in
        let y = get_or (remove order at) i 0 in
        let differs : y ≢ x = λ e.
        let none : times_among c (children_of (matcher_at slots' y)) ≡ 0 =
        ap (λ (k : ℕ). times_among c (children_of (matcher_at slots' k))) e
        ∙ ap (λ (o : Option SharedMatcher). times_among c (children_of o)) now_gone in
        omega arith in
        let before : 0 < times_among c (children_of (matcher_at slots y)) =
        subst (λ (o : Option SharedMatcher). 0 < times_among c (children_of o)) (freed_others y differs) named in
        elim (cases_lt i at) [
          | inl lower ↦
              let same : get_or (remove order at) i 0 ≡ get_or order i 0 =
              get_or-remove_below order at 0 i lower within in
              let at_i : 0 < times_among c (children_of (matcher_at slots (get_or order i 0))) =
              subst (λ (k : ℕ). 0 < times_among c (children_of (matcher_at slots k))) same before in
              subst (λ (xs : List ℕ). 0 < times_among c xs) (sym (take_remove_below order at i within (omega arith)))
              (held.after i c (omega arith) at_i)
          | inr upper ↦
              let same : get_or (remove order at) i 0 ≡ get_or order (i + 1) 0 =
              get_or-remove_above order at 0 i upper within in
              let at_i : 0 < times_among c (children_of (matcher_at slots (get_or order (i + 1) 0))) =
              subst (λ (k : ℕ). 0 < times_among c (children_of (matcher_at slots k))) same before in
              let stands : 0 < times_among c (take (i + 1) order) = held.after (i + 1) c (omega arith) at_i in
              let long_front : length (take (i + 1) order) ≡ i + 1 = length-take-le (i + 1) order (omega arith) in
              let is_at : get_or (take (i + 1) order) at 0 ≡ x = get_or-take (i + 1) order at 0 (omega arith)
              ∙ sym is_x in
              let none : one_if c (get_or (take (i + 1) order) at 0) ≡ 0 =
              one_if_other c (get_or (take (i + 1) order) at 0) (λ e. unnamed_freed y c before (sym e ∙ is_at)) in
              subst (λ (xs : List ℕ). 0 < times_among c xs) (sym (take_remove_above order at i upper (omega arith)))
              (omega (arith, places-remove c (take (i + 1) order) at (omega arith)))
        ]

    pub held_freed : AreSlotsHeld slots' (remove order at) outside uses' results
    held_freed = record {
      uses_are = λ s. omega (arith, counted s, uses_freed s, held.uses_are s);
      none_outside = λ s gone. elim (cases_eq s x) [
        | inl same ↦ ap (λ (k : ℕ). get_or outside k 0) same ∙ none_outside
        | inr other ↦ held.none_outside s (sym (freed_others s other) ∙ gone)
      ];
      none_below = λ s gone. elim (cases_eq s x) [
        | inl same ↦
            let none : child_uses slots s ≡ 0 = ap (child_uses slots) same ∙ sym (held.uses_are x) ∙ unused in
            omega (arith, uses_freed s)
        | inr other ↦ omega (arith, uses_freed s, held.none_below s (sym (freed_others s other) ∙ gone))
      ];
      listed = listed_freed;
      once = once_freed;
      after = after_freed;
      room_outside = λ s live. held.room_outside s (live_before s live).1;
      room_uses = λ s live. omega (arith, held.room_uses s (live_before s live).1);
      room_results = λ s live. held.room_results s (live_before s live).1;
      askable = λ s matcher e.
          let at_s = live_before s (some_live (matcher_at slots' s) (Simple matcher) e) in
          held.askable s matcher (sym (freed_others s at_s.0) ∙ e);
    }
