-- What stays true of the lists of ids and of the idle truths where slots are made, freed and evaluated.
use Rattle.std.proofs.Common.{◌≡◌, ◌≢◌, ◌⊎◌, ℕ, ◌+◌, ◌<◌, ◌≤◌, Bool, true, false, List, [], ◌∷◌, ◌++◌, length, get_or, set, take, Option, Some, None, refl, sym, ap, subst, ◌∙◌, arith, inl, inr}
use Rattle.std.specs.List.{remove}
use Rattle.std.proofs.lemmas.Bool.{cases_eq, cases_lt}
use Rattle.std.proofs.lemmas.Bool.Decides.{nat_tests}
use Rattle.std.proofs.lemmas.List.{take-append-le, length_push, length-set, length-take-le, get_or-set_same, get_or-set_other}
use Rattle.std.proofs.lemmas.List.Edits.{length-remove}
use Rattle.atom_record.specs.declared.atom.Atom.{Atom}
use Rattle.config_types.specs.declared.matcher.SimpleMatcher.{SimpleMatcher}
use Rattle.matcher_eval.specs.AtomTests.{number_set}
use Rattle.matcher_eval.specs.Combined.{combined_truth}
use Rattle.matcher_table.specs.declared.shared.SharedMatcher.{SharedMatcher}
use Rattle.matcher_table.specs.declared.shared.SharedMatcher.TheVariants.{Simple, Combination}
use Rattle.matcher_table.specs.declared.hanging.AtomSlots.{AtomSlots}
use Rattle.matcher_table.specs.Slots.{matcher_at, children_of, times_among, child_uses, live_count}
use Rattle.matcher_table.specs.Trees.{slot_tree, tree_from}
use Rattle.matcher_table.specs.Truths.{tree_truth, has_id_of, IsEnough}
use Rattle.matcher_table.specs.Idle.{idle_truth, idle_with}
use Rattle.matcher_table.specs.Hanging.{slots_under, atom_ids, LeavesList, HangsUnder, UnhangsFrom}
use Rattle.matcher_table.specs.StoreParts.{AreSlotsHeld, AreRested, AreReady}
use Rattle.matcher_table.proofs.Counting.{one_if_other, places_push, places-remove, take_remove_below, take_remove_above}
use Rattle.matcher_table.proofs.HeldLaws.{live_listed, listed_live, named_used, counted_live}
use Rattle.matcher_table.proofs.TreeLaws.{map_along, named_live, trees_meet_their_step, tree_kept}
use Rattle.matcher_table.proofs.HangingLaws.{front_less, has_left}
use Rattle.matcher_table.proofs.IdleLaws.{idle-tree_from, idle_outside}
use Rattle.matcher_table.proofs.EnoughLaws.{enough_joined, enough_apart, enough_taken, enough_without}

-- an atom of an id
abbrev atom_of : ℕ → Atom
atom_of id = record { id = id; fields = [] }

module _ {slots : List (Option SharedMatcher)} {under ids : ℕ → List ℕ} {order : List ℕ} {settled last : ℕ}
    {idle results : List Bool} (ready : AreReady slots under ids order settled last idle results) where
  -- what stands in the list of an id is live, and stands there once
  pub once_under : (s id : ℕ) → times_among s (under id) ≤ live_count (matcher_at slots s)
  once_under s id = (ready.enough (atom_of id)).once s

  pub at_most_once : (s id : ℕ) → times_among s (under id) ≤ 1
  at_most_once s id = omega (arith, once_under s id, one_at_most (matcher_at slots s))
    where
      one_at_most : (o : Option SharedMatcher) → live_count o ≤ 1
      one_at_most None = omega arith
      one_at_most (Some shared) = omega arith

  pub vacant_under : (s : ℕ) → matcher_at slots s ≡ None → (id : ℕ) → times_among s (under id) ≡ 0
  vacant_under s gone id =
      let none : live_count (matcher_at slots s) ≡ 0 = ap live_count gone in
      omega (arith, once_under s id)

  pub under_live : (s id : ℕ) → 0 < times_among s (under id) → matcher_at slots s ≢ None
  under_live s id among = counted_live (matcher_at slots s) (omega (arith, once_under s id))

  -- lists that are the same, with more room
  pub ready_as : (slots' : List (Option SharedMatcher)) (under' ids' : ℕ → List ℕ) (order' : List ℕ)
      (idle' results' : List Bool) → slots' ≡ slots → ((id : ℕ) → under' id ≡ under id) → ((s : ℕ) → ids' s ≡ ids s)
      → order' ≡ order → length idle ≤ length idle' → ((s : ℕ) → get_or idle' s false ≡ get_or idle s false)
      → ((s : ℕ) → get_or results' s false ≡ get_or results s false)
      → AreReady slots' under' ids' order' settled last idle' results'
  ready_as slots' under' ids' order' idle' results' same_slots same_under same_ids same_order long same_idle
      same_results =
      record {
        enough = λ atom.
            subst (λ (xs : List (Option SharedMatcher)). IsEnough xs atom (under' atom.id)) (sym same_slots)
            (subst (λ (xs : List ℕ). IsEnough slots atom xs) (sym (same_under atom.id)) (ready.enough atom));
        rested = record {
          known = λ s id among.
              subst (λ (xs : List ℕ). 0 < times_among id xs) (sym (same_ids s))
              (ready.rested.known s id (subst (λ (xs : List ℕ). 0 < times_among s xs) (same_under id) among));
          idle_are = λ s live. same_idle s ∙ ready.rested.idle_are s (was_live s live)
              ∙ sym (ap (λ (xs : List (Option SharedMatcher)). idle_truth (slot_tree xs s)) same_slots);
          room = λ s live. omega (arith, ready.rested.room s (was_live s live));
          front = omega (arith, ready.rested.front, ap length same_order);
          rest = λ s among apart. same_results s
              ∙ ready.rested.rest s
              (subst (λ (xs : List ℕ). 0 < times_among s (take settled xs)) same_order among)
              (sym (ap (times_among s) (same_under last)) ∙ apart)
              ∙ sym (same_idle s);
        };
      }
    where
      was_live : (s : ℕ) → matcher_at slots' s ≢ None → matcher_at slots s ≢ None
      was_live s live gone = live (ap (λ (xs : List (Option SharedMatcher)). matcher_at xs s) same_slots ∙ gone)

  -- a matcher that hangs under its ids before it stands in its slot
  module _ (lists lists' : AtomSlots) (slot : ℕ) (shared : SharedMatcher) (was : matcher_at slots slot ≡ None)
      (is_under : (id : ℕ) → slots_under lists id ≡ under id) (is_ids : (s : ℕ) → atom_ids lists s ≡ ids s)
      (hangs : HangsUnder lists slot shared lists') where
    joined : (id : ℕ) → 0 < times_among id (atom_ids lists' slot) → slots_under lists' id ≡ under id ++ slot ∷ []
    joined id has = hangs.joined id has ∙ ap (λ (xs : List ℕ). xs ++ slot ∷ []) (is_under id)

    apart_from : (id : ℕ) → times_among id (atom_ids lists' slot) ≡ 0 → slots_under lists' id ≡ under id
    apart_from id none = hangs.apart id none ∙ is_under id

    -- other slots stand where they stood
    others_stay : (s id : ℕ) → s ≢ slot → times_among s (slots_under lists' id) ≡ times_among s (under id)
    others_stay s id other =
        elim (cases_eq (times_among id (atom_ids lists' slot)) 0) [
          | inl none ↦ ap (times_among s) (apart_from id none)
          | inr some ↦
              let more : slots_under lists' id ≡ under id ++ slot ∷ [] = joined id (omega arith) in
              omega (
                arith,
                ap (times_among s) more,
                places_push s slot (under id),
                one_if_other s slot (λ e. other (sym e)),
              )
        ]

    pub rested_hung : ((s : ℕ) → 0 < times_among s order → s ≢ slot)
        → AreRested slots (slots_under lists') (atom_ids lists') order settled last idle results
    rested_hung differs = record {
      known = λ s id among. elim (cases_eq s slot) [
        | inl same ↦
            elim (cases_eq (times_among id (atom_ids lists' slot)) 0) [
              | inl none ↦
                  let vacant : times_among slot (slots_under lists' id) ≡ 0 =
                  ap (times_among slot) (apart_from id none) ∙ vacant_under slot was id in
                  let here : 0 < times_among slot (slots_under lists' id) =
                  subst (λ (k : ℕ). 0 < times_among k (slots_under lists' id)) same among in
                  absurd (omega arith)
              | inr some ↦
                  subst (λ (k : ℕ). 0 < times_among id (atom_ids lists' k)) (sym same) (omega arith)
            ]
        | inr other ↦
            subst (λ (xs : List ℕ). 0 < times_among id xs) (sym (hangs.others s other ∙ is_ids s))
            (ready.rested.known s id (omega (arith, others_stay s id other)))
      ];
      idle_are = ready.rested.idle_are;
      room = ready.rested.room;
      front = ready.rested.front;
      rest = λ s among apart.
          ready.rested.rest s among
          (sym (others_stay s last (differs s (omega (arith, front_less s settled order)))) ∙ apart);
    }

    module _ (children_live : (s c : ℕ) → 0 < times_among c (children_of (matcher_at slots s))
        → matcher_at slots c ≢ None)
        (children : (c : ℕ) → 0 < times_among c (children_of (Some shared)) → matcher_at slots c ≢ None) where
      -- the lists are enough once the matcher stands in its slot
      pub enough_hung : (slots' : List (Option SharedMatcher)) → matcher_at slots' slot ≡ Some shared
          → ((k : ℕ) → k ≢ slot → matcher_at slots' k ≡ matcher_at slots k)
          → (atom : Atom) → IsEnough slots' atom (slots_under lists' atom.id)
      enough_hung slots' here others atom =
          elim (cases_eq (times_among atom.id (atom_ids lists' slot)) 0) [
            | inr some ↦
                subst (λ (xs : List ℕ). IsEnough slots' atom xs) (sym (joined atom.id (omega arith)))
                (enough_joined slots slots' atom (under atom.id) (ready.enough atom) children_live slot shared was here
                others children)
            | inl none ↦
                subst (λ (xs : List ℕ). IsEnough slots' atom xs) (sym (apart_from atom.id none))
                (enough_apart slots slots' atom (under atom.id) (ready.enough atom) children_live slot shared was here
                others children (not_of_atom none) (no_child none))
          ]
        where
          not_of_atom : times_among atom.id (atom_ids lists' slot) ≡ 0
              → (matcher : SimpleMatcher) → shared ≡ Simple matcher → has_id_of atom matcher ≢ true
          not_of_atom none matcher is has_id =
              let same : atom.id ≡ number_set matcher.atom_id = grind (arith, nat_tests, has_id) in
              let own : 0 < times_among (number_set matcher.atom_id) (atom_ids lists' slot) = hangs.own matcher is in
              let here : 0 < times_among atom.id (atom_ids lists' slot) =
              subst (λ (k : ℕ). 0 < times_among k (atom_ids lists' slot)) (sym same) own in
              omega arith

          no_child : times_among atom.id (atom_ids lists' slot) ≡ 0
              → (c : ℕ) → 0 < times_among c (children_of (Some shared)) → times_among c (under atom.id) ≡ 0
          no_child none c named = elim (cases_eq (times_among c (under atom.id)) 0) [
            | inl apart ↦ apart
            | inr among ↦
                let its : 0 < times_among atom.id (ids c) = ready.rested.known c atom.id (omega arith) in
                let has : 0 < times_among atom.id (atom_ids lists' slot) =
                hangs.children c atom.id named
                (subst (λ (xs : List ℕ). 0 < times_among atom.id xs) (sym (is_ids c)) its) in
                absurd (omega arith)
          ]

-- a new slot
module _ {slots slots' : List (Option SharedMatcher)} {under ids : ℕ → List ℕ}
    {order outside uses order' outside' uses' : List ℕ}
    {settled last : ℕ} {idle results results' : List Bool}
    (rested : AreRested slots under ids order settled last idle results)
    (held : AreSlotsHeld slots order outside uses results) (held' : AreSlotsHeld slots' order' outside' uses' results')
    (slot : ℕ) (shared : SharedMatcher) (was : matcher_at slots slot ≡ None)
    (here : matcher_at slots' slot ≡ Some shared)
    (others : (k : ℕ) → k ≢ slot → matcher_at slots' k ≡ matcher_at slots k) where
  same_before : (s : ℕ) → matcher_at slots s ≢ None → matcher_at slots s ≡ matcher_at slots' s
  same_before s live = sym (others s (λ e. live (ap (matcher_at slots) e ∙ was)))

  tree_same : (s : ℕ) → matcher_at slots s ≢ None → slot_tree slots s ≡ slot_tree slots' s
  tree_same s live = tree_kept held' held same_before s live

  now_live : matcher_at slots' slot ≢ None
  now_live gone = let both : Some shared ≡ None = sym here ∙ gone in cc

  module _ (b : Bool) (is_b : b ≡ idle_with (λ y. get_or idle y false) (Some shared)) (room : slot < length idle)
      (children : (c : ℕ) → 0 < times_among c (children_of (Some shared)) → matcher_at slots c ≢ None) where
    looks_down : (o : Option SharedMatcher) (f g : ℕ → Bool)
        → ((y : ℕ) → 0 < times_among y (children_of o) → f y ≡ g y) → idle_with f o ≡ idle_with g o
    looks_down None f g same = refl
    looks_down (Some (Simple matcher)) f g same = refl
    looks_down (Some (Combination op children)) f g same = ap (combined_truth op) (map_along f g children same)

    own_truth_idle : b ≡ idle_truth (slot_tree slots' slot)
    own_truth_idle =
        is_b
        ∙ looks_down (Some shared) (λ y. get_or idle y false) (λ y. idle_truth (slot_tree slots' y))
        (λ y named. rested.idle_are y (children y named) ∙ ap idle_truth (tree_same y (children y named)))
        ∙ sym (idle-tree_from (slot_tree slots') (Some shared))
        ∙ sym (ap (λ o. idle_truth (tree_from (slot_tree slots') o)) here)
        ∙ sym (ap idle_truth (trees_meet_their_step held' slot now_live))

    pub ready_made : ((atom : Atom) → IsEnough slots' atom (under atom.id))
        → AreReady slots' under ids (order ++ slot ∷ []) settled last (set idle slot b) (set results slot false)
    ready_made enough = record {
      enough = enough;
      rested = record {
        known = rested.known;
        idle_are = λ s live. elim (cases_eq s slot) [
          | inl same ↦ ap (λ (k : ℕ). get_or (set idle slot b) k false) same ∙ get_or-set_same idle slot b false room
              ∙ own_truth_idle ∙ sym (ap (λ (k : ℕ). idle_truth (slot_tree slots' k)) same)
          | inr other ↦
              let live_before : matcher_at slots s ≢ None = λ gone. live (others s other ∙ gone) in
              get_or-set_other idle slot s b false other ∙ rested.idle_are s live_before
              ∙ ap idle_truth (tree_same s live_before)
        ];
        room = λ s live. elim (cases_eq s slot) [
          | inl same ↦ omega (arith, length-set idle slot b)
          | inr other ↦
              omega (arith, length-set idle slot b, rested.room s (λ gone. live (others s other ∙ gone)))
        ];
        front = omega (arith, rested.front, length_push order slot);
        rest = λ s among apart.
            let same_front : take settled (order ++ slot ∷ []) ≡ take settled order =
            take-append-le settled order (slot ∷ []) rested.front in
            let before : 0 < times_among s (take settled order) =
            subst (λ (xs : List ℕ). 0 < times_among s xs) same_front among in
            let live : matcher_at slots s ≢ None =
            listed_live held s (omega (arith, front_less s settled order)) in
            let other : s ≢ slot = λ e. live (ap (matcher_at slots) e ∙ was) in
            get_or-set_other results slot s false false other ∙ rested.rest s before apart
            ∙ sym (get_or-set_other idle slot s b false other);
      };
    }

-- a slot that is gone
module _ {slots slots' : List (Option SharedMatcher)} {order outside uses outside' uses' : List ℕ}
    {settled last : ℕ} {idle results : List Bool} (lists lists' : AtomSlots)
    (ready : AreReady slots (slots_under lists) (atom_ids lists) order settled last idle results)
    (held : AreSlotsHeld slots order outside uses results) (at x settled' : ℕ)
    (held' : AreSlotsHeld slots' (remove order at) outside' uses' results) (within : at < length order)
    (gone : matcher_at slots' x ≡ None) (others : (k : ℕ) → k ≢ x → matcher_at slots' k ≡ matcher_at slots k)
    (unused : child_uses slots x ≡ 0) (unhangs : UnhangsFrom lists x lists')
    (above : at < settled → settled' + 1 ≡ settled) (below : settled ≤ at → settled' ≡ settled) where
  other_than : (s : ℕ) → matcher_at slots' s ≢ None → s ≢ x
  other_than s live e = live (ap (matcher_at slots') e ∙ gone)

  live_before_it : (s : ℕ) → matcher_at slots' s ≢ None → matcher_at slots s ≢ None
  live_before_it s live none = live (others s (other_than s live) ∙ none)

  unnamed : (s : ℕ) → times_among x (children_of (matcher_at slots s)) ≡ 0
  unnamed s = elim (cases_eq (times_among x (children_of (matcher_at slots s))) 0) [
    | inl none ↦ none
    | inr some ↦
        let used : 0 < child_uses slots x = named_used slots s x (omega arith) in
        absurd (omega arith)
  ]

  -- a list of an id that the slot doesn't have doesn't have the slot
  not_there : (id : ℕ) → times_among id (atom_ids lists x) ≡ 0 → times_among x (slots_under lists id) ≡ 0
  not_there id none = elim (cases_eq (times_among x (slots_under lists id)) 0) [
    | inl apart ↦ apart
    | inr some ↦
        let has : 0 < times_among id (atom_ids lists x) = ready.rested.known x id (omega arith) in
        absurd (omega arith)
  ]

  -- either it wasn't there, or it was taken out of one place
  left_list : (id : ℕ) → LeavesList x (slots_under lists id) (slots_under lists' id)
  left_list id = elim (cases_eq (times_among id (atom_ids lists x)) 0) [
    | inl none ↦ inl (not_there id none, unhangs.apart id none)
    | inr some ↦ unhangs.left id (omega arith)
  ]

  others_stay_under : (s id : ℕ) → s ≢ x → times_among s (slots_under lists' id) ≡ times_among s (slots_under lists id)
  others_stay_under s id other = elim (left_list id) [
    | inl apart ↦ ap (times_among s) apart.1
    | inr taken ↦
        omega (
          arith,
          ap (times_among s) taken.3,
          places-remove s (slots_under lists id) taken.0 taken.1,
          one_if_other s (get_or (slots_under lists id) taken.0 0) (λ e. other (sym e ∙ taken.2)),
        )
  ]

  nowhere : (id : ℕ) → times_among x (slots_under lists' id) ≡ 0
  nowhere id = has_left x (slots_under lists id) (slots_under lists' id) (at_most_once ready x id) (left_list id)

  enough_freed : (atom : Atom) → IsEnough slots' atom (slots_under lists' atom.id)
  enough_freed atom =
      let group = slots_under lists atom.id in
      elim (left_list atom.id) [
        | inl apart ↦
            subst (λ (xs : List ℕ). IsEnough slots' atom xs) (sym apart.1)
            (enough_without slots slots' atom group (ready.enough atom) (named_live held) x gone others unnamed apart.0)
        | inr taken ↦
            subst (λ (xs : List ℕ). IsEnough slots' atom xs) (sym taken.3)
            (enough_taken slots slots' atom group (ready.enough atom) (named_live held) x gone others unnamed taken.0
            taken.1 (sym taken.2))
      ]

  front_before : (s : ℕ) → 0 < times_among s (take settled' (remove order at)) → 0 < times_among s (take settled order)
  front_before s among = elim (cases_lt at settled) [
    | inr lower ↦
        let same : take settled' (remove order at) ≡ take settled order =
        ap (λ (n : ℕ). take n (remove order at)) (below lower) ∙ take_remove_below order at settled within lower in
        subst (λ (xs : List ℕ). 0 < times_among s xs) same among
    | inl upper ↦
        let more : settled' + 1 ≡ settled = above upper in
        let shorter : length (remove order at) + 1 ≡ length order = length-remove order at within in
        let same : take settled' (remove order at) ≡ remove (take settled order) at =
        take_remove_above order at settled' (omega arith) (omega (arith, ready.rested.front))
        ∙ ap (λ (n : ℕ). remove (take n order) at) more in
        omega (
          arith,
          ap (times_among s) same,
          places-remove s (take settled order) at (omega (arith, length-take-le settled order ready.rested.front)),
        )
  ]

  pub ready_freed : AreReady slots' (slots_under lists') (atom_ids lists') (remove order at) settled' last idle results
  ready_freed = record {
    enough = enough_freed;
    rested = record {
      known = λ s id among. elim (cases_eq s x) [
        | inl same ↦
            let none : times_among s (slots_under lists' id) ≡ 0 =
            ap (λ (k : ℕ). times_among k (slots_under lists' id)) same ∙ nowhere id in
            absurd (omega arith)
        | inr other ↦
            subst (λ (xs : List ℕ). 0 < times_among id xs) (sym (unhangs.others s other))
            (ready.rested.known s id (omega (arith, others_stay_under s id other)))
      ];
      idle_are = λ s live. ready.rested.idle_are s (live_before_it s live)
          ∙ sym (ap idle_truth (tree_kept held held' (λ k alive. others k (other_than k alive)) s live));
      room = λ s live. ready.rested.room s (live_before_it s live);
      front = elim (cases_lt at settled) [
        | inl upper ↦ omega (arith, above upper, length-remove order at within, ready.rested.front)
        | inr lower ↦ omega (arith, below lower, length-remove order at within)
      ];
      rest = λ s among apart.
          let live : matcher_at slots' s ≢ None =
          listed_live held' s (omega (arith, front_less s settled' (remove order at))) in
          ready.rested.rest s (front_before s among)
          (sym (others_stay_under s last (other_than s live)) ∙ apart);
    };
  }

-- an atom
module _ (says : SimpleMatcher → Atom → Bool) (atom : Atom) {slots : List (Option SharedMatcher)}
    {under ids : ℕ → List ℕ} {order outside uses : List ℕ} {settled last : ℕ} {idle results : List Bool}
    (ready : AreReady slots under ids order settled last idle results)
    (held : AreSlotsHeld slots order outside uses results) where
  -- what doesn't hang on the atom's id has its idle truth
  pub idle_apart : (s : ℕ) → matcher_at slots s ≢ None → times_among s (under atom.id) ≡ 0
      → get_or idle s false ≡ tree_truth says atom (slot_tree slots s)
  idle_apart s live apart =
      ready.rested.idle_are s live ∙ sym (idle_outside says atom held (under atom.id) (ready.enough atom) s live apart)

  pub ready_evaluated : (results' : List Bool)
      → ((s : ℕ) → matcher_at slots s ≢ None → get_or results' s false ≡ tree_truth says atom (slot_tree slots s))
      → AreReady slots under ids order (length order) atom.id idle results'
  ready_evaluated results' are = record {
    enough = ready.enough;
    rested = record {
      known = ready.rested.known;
      idle_are = ready.rested.idle_are;
      room = ready.rested.room;
      front = omega arith;
      rest = λ s among apart.
          let live : matcher_at slots s ≢ None =
          listed_live held s (omega (arith, front_less s (length order) order)) in
          are s live ∙ sym (idle_apart s live apart);
    };
  }

  -- the slots under the last id are put back, unless the next atom has it too, and the new ones
  pub all_put_back : (left : List ℕ) (after : List Bool)
      → (last ≢ atom.id → left ≡ under last)
      → ((s : ℕ) → (0 < times_among s left) ⊎ (times_among s (take settled order) < times_among s order)
      → get_or after s false ≡ get_or idle s false)
      → ((s : ℕ) → (get_or after s false ≡ get_or results s false) ⊎ (get_or after s false ≡ get_or idle s false))
      → (s : ℕ) → matcher_at slots s ≢ None → times_among s (under atom.id) ≡ 0
      → get_or after s false ≡ get_or idle s false
  all_put_back left after others put either s live outside =
      elim (cases_eq (times_among s (take settled order)) 0) [
        | inl new ↦ put s (inr (omega (arith, live_listed held s live)))
        | inr old ↦
            elim (cases_eq (times_among s (under last)) 0) [
              | inr among ↦
                  elim (cases_eq last atom.id) [
                    | inl same ↦ absurd (among (ap (λ (id : ℕ). times_among s (under id)) same ∙ outside))
                    | inr other ↦
                        put s (inl (subst (λ (xs : List ℕ). 0 < times_among s xs) (sym (others other)) (omega arith)))
                  ]
              | inl apart ↦
                  elim (either s) [
                    | inr back ↦ back
                    | inl same ↦ same ∙ ready.rested.rest s (omega arith) apart
                  ]
            ]
      ]
