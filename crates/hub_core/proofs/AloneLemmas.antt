-- A client's part of the hub of all, and its private run.
use Rattle.std.proofs.Common.{◌≡◌, ◌≢◌, ℕ, suc, ◌<◌, ℤ, Bool, true, false, cond, List, [], ◌∷◌, length, map, get_or, Option, Some, None, refl, sym, ap, subst, ◌∙◌, arith, inl, inr}
use Rattle.std.specs.Ordering.{int_eq}
use Rattle.std.specs.Cmp.{signed_Decides}
use Rattle.std.proofs.lemmas.Bool.{cases_eq}
use Rattle.atom_record.specs.declared.atom.Atom.{Atom}
use Rattle.config_types.specs.declared.matcher.SimpleMatcher.{SimpleMatcher}
use Rattle.config_links.specs.declared.linked.LMatcher.{LMatcher}
use Rattle.config_links.specs.declared.linked.Linked.{Linked}
use Rattle.session_frames.specs.declared.frame.Frame.{Frame}
use Rattle.hub_meaning.specs.SessionLog.{own}
use Rattle.hub_meaning.specs.Acceptance.{LiveConfig}
use Rattle.hub_meaning.specs.LiveConfigs.{config_at, live, history_of}
use Rattle.hub_meaning.proofs.ClientIsolationLemmas.{own-own}
use Rattle.matcher_table.specs.Slots.{matcher_at, times_among}
use Rattle.matcher_table.specs.Tables.{SlotTable, result_at}
use Rattle.matcher_table.specs.Trees.{slot_tree}
use Rattle.matcher_table.specs.Truths.{Evaluates, tree_truth}
use Rattle.matcher_table.specs.declared.shared.SharedMatcher.{SharedMatcher}
use Rattle.matcher_table.proofs.Counting.{place_of, counted_at}
use Rattle.held_slots.specs.Holdings.{matcher_tree}
use Rattle.held_slots.proofs.HoldingLaws.{held_live, held_tree}
use Rattle.held_slots.proofs.TruthLaws.{table_sound}
use Rattle.hub_core.specs.declared.live_instance.LiveInstance.{LiveInstance}
use Rattle.hub_core.specs.declared.hub.Hub.{Hub}
use Rattle.hub_core.specs.HubStands.{SlotStandsFor, HubStandsFor}
use Rattle.hub_core.specs.SharedTable.{IsHeldIn, slots_of}
use Rattle.hub_core.specs.Slots.{live_id}
use Rattle.hub_core.specs.Sleeping.{StandsAsleep}
use Rattle.hub_core.specs.Alone.{live_at, hub_table, last_moment, HoldsSlot, IsSameLive, RunsAsAlone}
use Rattle.hub_core.proofs.LogLemmas.{found_held}
use Rattle.hub_core.proofs.OneSlotLemmas.{one_slot}

-- a list that has at each place what a function makes of the other's
made_along : (f : ℕ → ℕ) (xs ys : List ℕ) → length ys ≡ length xs
    → ((i : ℕ) → i < length xs → f (get_or xs i 0) ≡ get_or ys i 0) → ys ≡ map f xs
made_along f [] [] long each = refl
made_along f [] (y ∷ ys) long each = absurd (omega (arith, long))
made_along f (x ∷ xs) [] long each = absurd (omega (arith, long))
made_along f (x ∷ xs) (y ∷ ys) long each =
    let here : f x ≡ y = each 0 (omega arith) in
    let later : ys ≡ map f xs =
    made_along f xs ys (omega (arith, long)) (λ i h. each (suc i) (omega arith)) in
    cc

-- A configuration of a client that is live in two hubs.
record Both {J : Type 0} (client : ℤ) (frames : List Frame) (shared alone : Hub J) (id : ℤ) : Type 0 where
  a : LiveInstance
  b : LiveInstance
  is_a : live_at client id shared ≡ Some a
  config : LiveConfig
  is_config : config_at id (live frames) ≡ Some config
  held : IsHeldIn (hub_table shared) a
  held_alone : IsHeldIn (hub_table alone) b
  same : b.carried.instance.matchers ≡ a.carried.instance.matchers

module _ {J : Type 0} (client : ℤ) (frames : List Frame) (shared alone : Hub J) (id : ℤ)
    (both : Both client frames shared alone id) where
  as_long : length both.b.slots ≡ length both.a.slots
  as_long =
      both.held_alone.slots.each ∙ ap (λ (ms : List LMatcher). length ms) both.same ∙ sym both.held.slots.each

  live_shared : (i : ℕ) → i < length both.a.slots
      → matcher_at (hub_table shared).slots (get_or both.a.slots i 0) ≢ None
  live_shared i h =
      held_live (hub_table shared) both.a.slots both.a.carried.instance.matchers both.held.slots i
      (omega (arith, h, both.held.slots.each))

  live_alone : (i : ℕ) → i < length both.a.slots
      → matcher_at (hub_table alone).slots (get_or both.b.slots i 0) ≢ None
  live_alone i h =
      held_live (hub_table alone) both.b.slots both.b.carried.instance.matchers both.held_alone.slots i
      (omega (arith, h, as_long, both.held_alone.slots.each))

  -- at each place of their lists the slots have one tree
  one_tree : (i : ℕ) → i < length both.a.slots → slot_tree (hub_table alone).slots (get_or both.b.slots i 0)
      ≡ slot_tree (hub_table shared).slots (get_or both.a.slots i 0)
  one_tree i h =
      held_tree both.b.carried.instance.matchers both.held_alone.in_range both.held_alone.no_cycle
      (hub_table alone) both.b.slots
      (table_sound alone.lives.table) both.held_alone.slots i (omega (arith, h, as_long, both.held_alone.slots.each))
      ∙ ap (λ (ms : List LMatcher). matcher_tree ms i) both.same
      ∙ sym (held_tree both.a.carried.instance.matchers both.held.in_range both.held.no_cycle (hub_table shared)
      both.a.slots (table_sound shared.lives.table) both.held.slots i (omega (arith, h, both.held.slots.each)))

-- a slot of the private table stands for what one of the shared table stands for
record Meets {J : Type 0} (shared alone : Hub J) (s t : ℕ) : Type 0 where
  is_live : matcher_at (hub_table shared).slots s ≢ None
  is_live_alone : matcher_at (hub_table alone).slots t ≢ None
  tree : slot_tree (hub_table alone).slots t ≡ slot_tree (hub_table shared).slots s

-- a slot of the private table for one of the shared table, if one of these configurations holds that
record Pick {J : Type 0} (client : ℤ) (shared alone : Hub J) (s : ℕ) (configs : List LiveConfig) : Type 0 where
  value : ℕ
  is : (id : ℤ) (config : LiveConfig) → config_at id configs ≡ Some config
      → 0 < times_among s (slots_of (live_at client id shared)) → Meets shared alone s value

module _ (says : SimpleMatcher → Atom → Bool) {J : Type 0} (client : ℤ) (all_frames : List Frame)
    (shared alone : Hub J) (h : HubStandsFor says shared all_frames)
    (k : HubStandsFor says alone (own client all_frames)) where
  abbrev frames : List Frame
  frames = own client all_frames

  alone_stands : (id : ℤ)
      → SlotStandsFor says (last_moment alone) client frames (live_at client id alone) (config_at id (live frames))
  alone_stands id =
      subst (λ (fs : List Frame). SlotStandsFor says (last_moment alone) client fs (live_at client id alone)
      (config_at id (live fs)))
      (own-own client all_frames) (k.lives.slots client id)

  both_of : (id : ℤ) (a b : LiveInstance) (config : LiveConfig) → live_at client id shared ≡ Some a
      → live_at client id alone ≡ Some b → config_at id (live frames) ≡ Some config
      → StandsAsleep (last_moment shared) a.carried.instance (history_of says client frames config)
      → StandsAsleep (last_moment alone) b.carried.instance (history_of says client frames config)
      → Both client frames shared alone id
  both_of id a b config is_a is_b is_config stands stands_alone = record {
    a = a;
    b = b;
    is_a = is_a;
    config = config;
    is_config = is_config;
    held = found_held (hub_table shared) (live_id client id) a shared.lives.slots.entries h.table.all is_a;
    held_alone = found_held (hub_table alone) (live_id client id) b alone.lives.slots.entries k.table.all is_b;
    same = ap (λ (l : Linked). l.matchers) (stands_alone.stands.linked ∙ sym stands.stands.linked);
  }

  both_at : (s : ℕ) (id : ℤ) (a b : Option LiveInstance) (config : Option LiveConfig)
      → live_at client id shared ≡ a → live_at client id alone ≡ b → config_at id (live frames) ≡ config
      → SlotStandsFor says (last_moment shared) client frames a config
      → SlotStandsFor says (last_moment alone) client frames b config
      → 0 < times_among s (slots_of a) → Both client frames shared alone id
  both_at s id None b config is_a is_b is_config at at_alone some = absurd (omega (arith, some))
  both_at s id (Some a) b None is_a is_b is_config at at_alone some = absurd at
  both_at s id (Some a) None (Some config) is_a is_b is_config at at_alone some = absurd at_alone
  both_at s id (Some a) (Some b) (Some config) is_a is_b is_config at at_alone some =
      both_of id a b config is_a is_b is_config at.instance at_alone.instance

  -- what holds a slot is live in both
  both : (s : ℕ) (id : ℤ) → 0 < times_among s (slots_of (live_at client id shared))
      → Both client frames shared alone id
  both s id some =
      both_at s id (live_at client id shared) (live_at client id alone) (config_at id (live frames)) refl refl refl
      (h.lives.slots client id) (alone_stands id) some

  meet : (s : ℕ) (id : ℤ) → 0 < times_among s (slots_of (live_at client id shared))
      → (t : ℕ) × Meets shared alone s t
  meet s id some =
      let b = both s id some in
      let counted : 0 < times_among s b.a.slots =
      subst (λ (o : Option LiveInstance). 0 < times_among s (slots_of o)) b.is_a some in
      let at = place_of s b.a.slots counted in (
        get_or b.b.slots at.0 0,
        record {
          is_live = subst (λ (x : ℕ). matcher_at (hub_table shared).slots x ≢ None) at.2
              (live_shared client frames shared alone id b at.0 at.1);
          is_live_alone = live_alone client frames shared alone id b at.0 at.1;
          tree = one_tree client frames shared alone id b at.0 at.1 ∙ ap (slot_tree (hub_table shared).slots) at.2;
        },
      )

  pick : (s : ℕ) (configs : List LiveConfig) → Pick client shared alone s configs
  pick s [] = record { value = 0; is = λ id config e some. absurd (cc) }
  pick s (first ∷ others) =
      let later = pick s others in
      elim (cases_eq (times_among s (slots_of (live_at client first.id shared))) 0) [
        | inl none ↦
            record {
              value = later.value;
              is = λ id config. by_case later none id config (int_eq first.id id) refl;
            }
        | inr here ↦
            let met = meet s first.id (omega (arith, here)) in
            record { value = met.0; is = λ id config e some. met.1 }
      ] where
        by_case : (later : Pick client shared alone s others)
            → times_among s (slots_of (live_at client first.id shared)) ≡ 0 → (id : ℤ) (config : LiveConfig)
            (same : Bool) → int_eq first.id id ≡ same → cond same (Some first) (config_at id others) ≡ Some config
            → 0 < times_among s (slots_of (live_at client id shared)) → Meets shared alone s later.value
        by_case later none id config true is e some =
            let it : first.id ≡ id = (signed_Decides first.id id).0 is in
            absurd (omega (
              arith,
              some,
              none,
              ap (λ (n : ℤ). times_among s (slots_of (live_at client n shared))) it,
            ))
        by_case later none id config false is e some = later.is id config e some

  -- the new name of a slot
  abbrev new_name : ℕ → ℕ
  new_name s = (pick s (live frames)).value

  named : (s : ℕ) → HoldsSlot client shared s → Meets shared alone s (new_name s)
  named s holds =
      let b = both s holds.0 holds.1 in
      (pick s (live frames)).is holds.0 b.config b.is_config holds.1

  same_live : (id : ℤ) (a b : Option LiveInstance) (config : Option LiveConfig) → live_at client id shared ≡ a
      → live_at client id alone ≡ b → config_at id (live frames) ≡ config
      → SlotStandsFor says (last_moment shared) client frames a config
      → SlotStandsFor says (last_moment alone) client frames b config
      → IsSameLive new_name (last_moment shared) (last_moment alone) a b
  unfolding both_of
  same_live id None None config is_a is_b is_config at at_alone = tt
  same_live id None (Some b) None is_a is_b is_config at at_alone = absurd at_alone
  same_live id None (Some b) (Some config) is_a is_b is_config at at_alone = absurd at
  same_live id (Some a) b None is_a is_b is_config at at_alone = absurd at
  same_live id (Some a) None (Some config) is_a is_b is_config at at_alone = absurd at_alone
  same_live id (Some a) (Some b) (Some config) is_a is_b is_config at at_alone =
      let pair = both_of id a b config is_a is_b is_config at.instance at_alone.instance in
      record {
        history = history_of says client frames config;
        stands = at.instance;
        stands_alone = at_alone.instance;
        slots = made_along new_name a.slots b.slots (as_long client frames shared alone id pair) (λ i in_a.
            let counted : 0 < times_among (get_or a.slots i 0) (slots_of (live_at client id shared)) =
            subst (λ (o : Option LiveInstance). 0 < times_among (get_or a.slots i 0) (slots_of o)) (sym is_a)
            (counted_at a.slots i in_a) in
            let met = named (get_or a.slots i 0) (id, counted) in
            one_slot (hub_table alone) (table_sound alone.lives.table) (new_name (get_or a.slots i 0))
            (get_or b.slots i 0) met.is_live_alone (live_alone client frames shared alone id pair i in_a)
            (met.tree ∙ sym (one_tree client frames shared alone id pair i in_a)));
      }

  -- an evaluation gives it the same result
  same_truth : (s : ℕ) → HoldsSlot client shared s → (judged : SimpleMatcher → Atom → Bool) (atom : Atom)
      (next next_alone : SlotTable) → Evaluates judged atom (hub_table shared) next
      → Evaluates judged atom (hub_table alone) next_alone → result_at next_alone (new_name s) ≡ result_at next s
  same_truth s holds judged atom next next_alone e e' =
      let met = named s holds in
      let is_live : matcher_at next.slots s ≢ None =
      subst (λ (slots : List (Option SharedMatcher)). matcher_at slots s ≢ None) (sym e.slots) met.is_live in
      let is_live_alone : matcher_at next_alone.slots (new_name s) ≢ None =
      subst (λ (slots : List (Option SharedMatcher)). matcher_at slots (new_name s) ≢ None) (sym e'.slots)
      met.is_live_alone in
      e'.results (new_name s) is_live_alone
      ∙ ap (λ (slots : List (Option SharedMatcher)). tree_truth judged atom (slot_tree slots (new_name s))) e'.slots
      ∙ ap (tree_truth judged atom) met.tree
      ∙ sym (e.results s is_live
      ∙ ap (λ (slots : List (Option SharedMatcher)). tree_truth judged atom (slot_tree slots s)) e.slots)

  pub as_alone : RunsAsAlone client shared alone
  as_alone = record {
    renamed = new_name;
    live = λ id. same_live id (live_at client id shared) (live_at client id alone)
        (config_at id (live frames)) refl refl
        refl (h.lives.slots client id) (alone_stands id);
    apart = λ s t in_s in_t same.
        let met = named s in_s in
        let met' = named t in_t in
        one_slot (hub_table shared) (table_sound shared.lives.table) s t met.is_live met'.is_live
        (sym met.tree ∙ ap (slot_tree (hub_table alone).slots) same ∙ met'.tree);
    trees = λ s holds. (named s holds).tree;
    truths = same_truth;
  }
