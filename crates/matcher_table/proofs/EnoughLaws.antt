-- A list that is enough for an atom stays enough where slots are made and freed: for an evaluation that goes over the
-- slots of one atom's id alone.
use Rattle.std.proofs.Common.{◌≡◌, ◌≢◌, ℕ, ◌+◌, ◌<◌, ◌≤◌, true, List, [], ◌∷◌, ◌++◌, length, get_or, take, Option, Some, None, refl, sym, ap, subst, ◌∙◌, arith, inl, inr}
use Rattle.std.specs.List.{remove}
use Rattle.std.proofs.lemmas.Bool.{cases_eq, cases_lt}
use Rattle.std.proofs.lemmas.List.{take-append-le, take_all, length_push, get_or_append_left, length-take-le, get_or-take}
use Rattle.std.proofs.lemmas.List.Edits.{length-remove, get_or-remove_below, get_or-remove_above}
use Rattle.atom_record.specs.declared.atom.Atom.{Atom}
use Rattle.config_types.specs.declared.matcher.SimpleMatcher.{SimpleMatcher}
use Rattle.matcher_table.specs.declared.shared.SharedMatcher.{SharedMatcher}
use Rattle.matcher_table.specs.declared.shared.SharedMatcher.TheVariants.{Simple}
use Rattle.matcher_table.specs.Slots.{matcher_at, children_of, times_among, live_count}
use Rattle.matcher_table.specs.Trees.{ChildrenAreLive}
use Rattle.matcher_table.specs.Truths.{has_id_of, IsEnough}
use Rattle.matcher_table.proofs.Counting.{one_if, one_if_same, one_if_other, places_push, places-remove, counted_at, take_remove_below, take_remove_above}
use Rattle.matcher_table.proofs.HeldLaws.{counted_live, live_is_one, vacant_is_none}

module _ (slots slots' : List (Option SharedMatcher)) (atom : Atom) (group : List ℕ)
    (enough : IsEnough slots atom group)
    (named_live : ChildrenAreLive slots) where
  in_group_live : (s : ℕ) → 0 < times_among s group → matcher_at slots s ≢ None
  in_group_live s among = counted_live (matcher_at slots s) (omega (arith, enough.once s))

  -- a new slot
  module _ (slot : ℕ) (shared : SharedMatcher) (was : matcher_at slots slot ≡ None)
      (here : matcher_at slots' slot ≡ Some shared)
      (others : (k : ℕ) → k ≢ slot → matcher_at slots' k ≡ matcher_at slots k)
      (children : (c : ℕ) → 0 < times_among c (children_of (Some shared)) → matcher_at slots c ≢ None) where
    -- what is named now was live before
    named_before : (s c : ℕ) → 0 < times_among c (children_of (matcher_at slots' s)) → c ≢ slot
    named_before s c named e =
        elim (cases_eq s slot) [
          | inl same ↦
              children c (subst (λ (o : Option SharedMatcher). 0 < times_among c (children_of o))
              (ap (matcher_at slots') same ∙ here) named) (ap (matcher_at slots) e ∙ was)
          | inr other ↦
              named_live s c (subst (λ (o : Option SharedMatcher). 0 < times_among c (children_of o))
              (others s other) named)
              (ap (matcher_at slots) e ∙ was)
        ]

    apart_from : (s : ℕ) → 0 < times_among s group → s ≢ slot
    apart_from s among e = in_group_live s among (ap (matcher_at slots) e ∙ was)

    in_old : (c : ℕ) → c ≢ slot → 0 < times_among c (group ++ slot ∷ []) → 0 < times_among c group
    in_old c other among =
        omega (arith, places_push c slot group, one_if_other c slot (λ e. other (sym e)))

    in_new : (c : ℕ) → 0 < times_among c group → 0 < times_among c (group ++ slot ∷ [])
    in_new c among = omega (arith, places_push c slot group)

    joined : 0 < times_among slot (group ++ slot ∷ [])
    joined = omega (arith, places_push slot slot group, one_if_same slot slot refl)

    child_old : (s c : ℕ) → s ≢ slot → 0 < times_among c (children_of (matcher_at slots' s))
        → 0 < times_among c (children_of (matcher_at slots s))
    child_old s c other named =
        subst (λ (o : Option SharedMatcher). 0 < times_among c (children_of o)) (others s other) named

    once_joined : (s : ℕ) → times_among s (group ++ slot ∷ []) ≤ live_count (matcher_at slots' s)
    once_joined s =
        elim (cases_eq s slot) [
          | inl same ↦
              let one : one_if s slot ≡ 1 = one_if_same s slot (sym same) in
              let gone : live_count (matcher_at slots s) ≡ 0 =
              vacant_is_none (matcher_at slots s) (ap (matcher_at slots) same ∙ was) in
              let now : live_count (matcher_at slots' s) ≡ 1 = ap (λ (k : ℕ). live_count (matcher_at slots' k)) same
              ∙ ap live_count here in
              omega (arith, places_push s slot group, enough.once s)
          | inr other ↦
              let none : one_if s slot ≡ 0 = one_if_other s slot (λ e. other (sym e)) in
              let now : live_count (matcher_at slots' s) ≡ live_count (matcher_at slots s) =
              ap live_count (others s other) in
              omega (arith, places_push s slot group, enough.once s)
        ]

    after_joined : (i c : ℕ) → i < length (group ++ slot ∷ [])
        → 0 < times_among c (children_of (matcher_at slots' (get_or (group ++ slot ∷ []) i 0)))
        → 0 < times_among c (group ++ slot ∷ []) → 0 < times_among c (take i (group ++ slot ∷ []))
    after_joined i c h named among =
        let old : 0 < times_among c group = in_old c (named_before (get_or (group ++ slot ∷ []) i 0) c named) among in
        let front : take i (group ++ slot ∷ []) ≡ take i group =
        take-append-le i group (slot ∷ []) (omega (arith, length_push group slot)) in
        elim (cases_lt i (length group)) [
          | inl lower ↦
              let at : get_or (group ++ slot ∷ []) i 0 ≡ get_or group i 0 =
              get_or_append_left group (slot ∷ []) 0 i lower in
              let other : get_or (group ++ slot ∷ []) i 0 ≢ slot =
              λ e. apart_from (get_or group i 0) (counted_at group i lower) (sym at ∙ e) in
              let before : 0 < times_among c (children_of (matcher_at slots (get_or group i 0))) =
              subst (λ (k : ℕ). 0 < times_among c (children_of (matcher_at slots k))) at
              (child_old (get_or (group ++ slot ∷ []) i 0) c other named) in
              subst (λ (xs : List ℕ). 0 < times_among c xs) (sym front) (enough.after i c lower before old)
          | inr last ↦
              subst (λ (xs : List ℕ). 0 < times_among c xs) (sym (front ∙ take_all i group last)) old
        ]

    -- it may join any list
    pub enough_joined : IsEnough slots' atom (group ++ slot ∷ [])
    enough_joined = record {
      simple = λ s matcher is has_id. elim (cases_eq s slot) [
        | inl same ↦ subst (λ (k : ℕ). 0 < times_among k (group ++ slot ∷ [])) (sym same) joined
        | inr other ↦ in_new s (enough.simple s matcher (sym (others s other) ∙ is) has_id)
      ];
      above = λ s c named among. elim (cases_eq s slot) [
        | inl same ↦ subst (λ (k : ℕ). 0 < times_among k (group ++ slot ∷ [])) (sym same) joined
        | inr other ↦
            in_new s (enough.above s c (child_old s c other named) (in_old c (named_before s c named) among))
      ];
      once = once_joined;
      after = after_joined;
    }

    -- it may stay out of a list that has none of its children, unless it is simple and of the atom's id
    module _ (not_simple : (matcher : SimpleMatcher) → shared ≡ Simple matcher → has_id_of atom matcher ≢ true)
        (no_child : (c : ℕ) → 0 < times_among c (children_of (Some shared)) → times_among c group ≡ 0) where
      pub enough_apart : IsEnough slots' atom group
      enough_apart = record {
        simple = λ s matcher is has_id. elim (cases_eq s slot) [
          | inl same ↦
              let both : Some shared ≡ Some (Simple matcher) = sym here ∙ sym (ap (matcher_at slots') same) ∙ is in
              let is_simple : shared ≡ Simple matcher = cc in
              absurd (not_simple matcher is_simple has_id)
          | inr other ↦ enough.simple s matcher (sym (others s other) ∙ is) has_id
        ];
        above = λ s c named among. elim (cases_eq s slot) [
          | inl same ↦
              let child : 0 < times_among c (children_of (Some shared)) =
              subst (λ (o : Option SharedMatcher). 0 < times_among c (children_of o)) (ap
              (matcher_at slots') same ∙ here) named in
              let none : times_among c group ≡ 0 = no_child c child in
              absurd (omega arith)
          | inr other ↦ enough.above s c (child_old s c other named) among
        ];
        once = λ s. elim (cases_eq s slot) [
          | inl same ↦
              let gone : live_count (matcher_at slots s) ≡ 0 =
              vacant_is_none (matcher_at slots s) (ap (matcher_at slots) same ∙ was) in
              omega (arith, enough.once s)
          | inr other ↦
              let now : live_count (matcher_at slots' s) ≡ live_count (matcher_at slots s) =
              ap live_count (others s other) in
              omega (arith, enough.once s)
        ];
        after = λ i c lower named among.
            enough.after i c lower (child_old (get_or group i 0) c (apart_from (get_or group i 0)
            (counted_at group i lower)) named) among;
      }

  -- a slot that is gone, and that nothing names
  module _ (x : ℕ) (gone : matcher_at slots' x ≡ None)
      (stays : (k : ℕ) → k ≢ x → matcher_at slots' k ≡ matcher_at slots k)
      (unnamed : (s : ℕ) → times_among x (children_of (matcher_at slots s)) ≡ 0) where
    live_apart : (s : ℕ) → matcher_at slots' s ≢ None → s ≢ x
    live_apart s live e = live (ap (matcher_at slots') e ∙ gone)

    child_before : (s c : ℕ) → 0 < times_among c (children_of (matcher_at slots' s))
        → (0 < times_among c (children_of (matcher_at slots s))) × (c ≢ x)
    child_before s c named =
        let other : s ≢ x = λ e.
        let none : times_among c (children_of (matcher_at slots' s)) ≡ 0 =
        ap (λ (k : ℕ). times_among c (children_of (matcher_at slots' k))) e
        ∙ ap (λ (o : Option SharedMatcher). times_among c (children_of o)) gone in
        omega arith in
        let before : 0 < times_among c (children_of (matcher_at slots s)) =
        subst (λ (o : Option SharedMatcher). 0 < times_among c (children_of o)) (stays s other) named in (
          before,
          λ e.
              let none : times_among c (children_of (matcher_at slots s)) ≡ 0 =
              ap (λ (k : ℕ). times_among k (children_of (matcher_at slots s))) e ∙ unnamed s in
              omega arith,
        )

    -- a list that doesn't have it stays as it is
    pub enough_without : times_among x group ≡ 0 → IsEnough slots' atom group
    enough_without apart = record {
      simple = λ s matcher is has_id.
          let other : s ≢ x = λ e.
          let none : Some (Simple matcher) ≡ None = sym is ∙ ap (matcher_at slots') e ∙ gone in
          cc in
          enough.simple s matcher (sym (stays s other) ∙ is) has_id;
      above = λ s c named among. enough.above s c (child_before s c named).0 among;
      once = λ s. elim (cases_eq s x) [
        | inl same ↦
            let none : times_among s group ≡ 0 = ap (λ (k : ℕ). times_among k group) same ∙ apart in
            omega arith
        | inr other ↦
            let now : live_count (matcher_at slots' s) ≡ live_count (matcher_at slots s) =
            ap live_count (stays s other) in
            omega (arith, enough.once s)
      ];
      after = λ i c lower named among. enough.after i c lower (child_before (get_or group i 0) c named).0 among;
    }

    -- it is taken out of each list that has it
    module _ (at : ℕ) (within : at < length group) (is_x : x ≡ get_or group at 0) where
      without : (s : ℕ) → s ≢ x → times_among s (remove group at) ≡ times_among s group
      without s other =
          omega (
            arith,
            places-remove s group at within,
            one_if_other s (get_or group at 0) (λ e. other (sym e ∙ sym is_x)),
          )

      after_taken : (i c : ℕ) → i < length (remove group at)
          → 0 < times_among c (children_of (matcher_at slots' (get_or (remove group at) i 0)))
          → 0 < times_among c (remove group at) → 0 < times_among c (take i (remove group at))
      after_taken i c h named among =
          let shorter : length (remove group at) + 1 ≡ length group = length-remove group at within in
          let before = child_before (get_or (remove group at) i 0) c named in
          let old : 0 < times_among c group = omega (arith, without c before.1) in
          elim (cases_lt i at) [
            | inl lower ↦
                let at_i : 0 < times_among c (children_of (matcher_at slots (get_or group i 0))) =
                subst (λ (k : ℕ). 0 < times_among c (children_of (matcher_at slots k)))
                (get_or-remove_below group at 0 i lower within) before.0 in
                subst (λ (xs : List ℕ). 0 < times_among c xs) (sym (take_remove_below group at i within (omega arith)))
                (enough.after i c (omega arith) at_i old)
            | inr upper ↦
                let at_i : 0 < times_among c (children_of (matcher_at slots (get_or group (i + 1) 0))) =
                subst (λ (k : ℕ). 0 < times_among c (children_of (matcher_at slots k)))
                (get_or-remove_above group at 0 i upper within) before.0 in
                let stands : 0 < times_among c (take (i + 1) group) = enough.after (i + 1) c (omega arith) at_i old in
                let long : length (take (i + 1) group) ≡ i + 1 = length-take-le (i + 1) group (omega arith) in
                let is_at : get_or (take (i + 1) group) at 0 ≡ x =
                get_or-take (i + 1) group at 0 (omega arith) ∙ sym is_x in
                let none : one_if c (get_or (take (i + 1) group) at 0) ≡ 0 =
                one_if_other c (get_or (take (i + 1) group) at 0) (λ e. before.1 (sym e ∙ is_at)) in
                subst (λ (xs : List ℕ). 0 < times_among c xs) (sym (take_remove_above group at i upper (omega arith)))
                (omega (arith, places-remove c (take (i + 1) group) at (omega arith)))
          ]

      pub enough_taken : IsEnough slots' atom (remove group at)
      enough_taken = record {
        simple = λ s matcher is has_id.
            let other : s ≢ x = λ e.
            let none : Some (Simple matcher) ≡ None = sym is ∙ ap (matcher_at slots') e ∙ gone in
            cc in
            omega (arith, without s other, enough.simple s matcher (sym (stays s other) ∙ is) has_id);
        above = λ s c named among.
            let before = child_before s c named in
            let other : s ≢ x = λ e.
            let none : times_among c (children_of (matcher_at slots' s)) ≡ 0 =
            ap (λ (k : ℕ). times_among c (children_of (matcher_at slots' k))) e
            ∙ ap (λ (o : Option SharedMatcher). times_among c (children_of o)) gone in
            omega arith in
            omega (arith, without s other, enough.above s c before.0 (omega (arith, without c before.1)));
        once = λ s. elim (cases_eq s x) [
          | inl same ↦
              let one : one_if s (get_or group at 0) ≡ 1 = one_if_same s (get_or group at 0) (sym is_x ∙ sym same) in
              let most : live_count (matcher_at slots s) ≡ 1 =
              live_is_one (matcher_at slots s) (in_group_live s (subst (λ (k : ℕ). 0 < times_among k group)
              (sym (same ∙ is_x)) (counted_at group at within))) in
              omega (arith, places-remove s group at within, enough.once s)
          | inr other ↦
              let now : live_count (matcher_at slots' s) ≡ live_count (matcher_at slots s) =
              ap live_count (stays s other) in
              omega (arith, without s other, enough.once s)
        ];
        after = after_taken;
      }
