-- The steps of a walk: past children that are done, down, and back.
use Rattle.std.proofs.Common.{◌≡◌, ◌≢◌, ℕ, ◌+◌, ◌-◌, ◌<◌, ◌≤◌, ◌⊎◌, Bool, false, cond, List, [], ◌∷◌, ◌++◌, length, get_or, set, take, refl, sym, ap, subst, inl, inr, arith, ◌∙◌}
use Rattle.std.specs.List.{Contains, count_by}
use Rattle.std.proofs.lemmas.Bool.{cases_eq, cases_lt}
use Rattle.std.proofs.lemmas.List.{get_or_default, get_or-take, length-take, get_or-set_same, get_or-set_other, length-set, length_push, get_or_push, get_or_append_left, take_all, take_at, take-append-le, take_more}
use Rattle.std.proofs.lemmas.List.Elements.{All-push, All-take, All-weaker, Contains-push, Contains-push_cases, Contains-append_left}
use Rattle.std.proofs.lemmas.List.Quantifiers.{all_pairs_push}
use Rattle.std.proofs.lemmas.List.Sums.{sum_by-set}
use Rattle.link_graph.specs.Reaches.{Reaches}
use Rattle.link_graph.specs.Links.{children_at, Refers, AreInRange, HasCycle}
use Rattle.link_graph.specs.declared.walk.Mark.{Mark}
use Rattle.link_graph.specs.declared.walk.Mark.TheVariants.{New, Open, Done}
use Rattle.link_graph.specs.Descent.{is_new, mark_at, child_at, IsWalk}
use Rattle.link_graph.proofs.ReachesLaws.{reaches_once, reaches_last}

new-done : New ≡ Done → ⊥
new-done e = cc

pub new-open : New ≡ Open → ⊥
new-open e = cc

open-done : Open ≡ Done → ⊥
open-done e = cc

-- what a mark becomes at a place where another is written
pub mark_cases : (marks : List Mark) (p x : ℕ) (mark : Mark) → p < length marks
    → ((x ≡ p) × (mark_at (set marks p mark) x ≡ mark)) ⊎
    ((x ≡ p → ⊥) × (mark_at (set marks p mark) x ≡ mark_at marks x))
mark_cases marks p x mark here =
    elim (cases_eq x p) [
      | inl same ↦ inl (
        same,
        ap (λ (i : ℕ). get_or (set marks p mark) i New) same
            ∙ get_or-set_same marks p mark New here,
      )
      | inr other ↦ inr (other, get_or-set_other marks p x mark New other)
    ]

-- how many places are new, where one gets a mark
pub new_after : (marks : List Mark) (p : ℕ) (mark : Mark) → p < length marks
    → count_by is_new (set marks p mark) + cond (is_new (mark_at marks p)) 1 0 ≡ count_by is_new marks + cond
    (is_new mark) 1 0
new_after marks p mark here = sum_by-set (λ m. cond (is_new m) 1 0) marks p mark New here

pub not_new : (mark : Mark) → mark ≢ New → is_new mark ≡ false
not_new New h = absurd (h refl)
not_new Open h = refl
not_new Done h = refl

-- a way is what leads to its last place, and that place
way_parts : (way : List ℕ) → 0 < length way → way ≡ take (length way - 1) way ++ get_or way (length way - 1) 0 ∷ []
way_parts way some =
    let before : length way - 1 < length way = omega arith in
    let whole : (length way - 1) + 1 ≡ length way = omega arith in
    sym (take_all (length way) way (omega arith)) ∙ ap (λ (n : ℕ). take n way) (sym whole)
    ∙ take_more way (length way - 1) 0 before

-- what is neither done nor open is new
pub still_new : (mark : Mark) → mark ≢ Done → mark ≢ Open → mark ≡ New
still_new New not_done not_open = refl
still_new Open not_done not_open = absurd (not_open refl)
still_new Done not_done not_open = absurd (not_done refl)

module _ (links : List (List ℕ)) (marks : List Mark) (next way order : List ℕ)
    (walk : IsWalk links marks next way order) where
  -- past children that are done
  pub walk_past : (p to : ℕ) → p < length links
      → ((k : ℕ) → get_or next p 0 ≤ k → k < to → mark_at marks (child_at links p k) ≡ Done)
      → IsWalk links marks (set next p to) way order
  walk_past p to here done = record {
    marked = walk.marked;
    counted = length-set next p to ∙ walk.counted;
    on_way = walk.on_way;
    came = walk.came;
    in_order = walk.in_order;
    done = walk.done;
    still_open = walk.still_open;
    after = walk.after;
    line = walk.line;
    all = walk.all;
    passed = λ x k lower named. elim (cases_eq x p) [
      | inl same ↦
          let at_p : get_or (set next p to) x 0 ≡ to =
          ap (λ (i : ℕ). get_or (set next p to) i 0) same ∙ get_or-set_same next p to 0 (omega (arith, walk.counted)) in
          let is_done : mark_at marks (child_at links p k) ≡ Done =
          elim (cases_lt k (get_or next p 0)) [
            | inl old ↦ walk.passed p k old (subst (λ (i : ℕ). k < length (children_at links i)) same named)
            | inr fresh ↦ done k fresh (omega arith)
          ] in
          subst (λ (i : ℕ). mark_at marks (child_at links i k) ≡ Done) (sym same) is_done
      | inr other ↦
          walk.passed x k (subst (λ (n : ℕ). k < n) (get_or-set_other next p x to 0 other) lower) named
    ];
  }

  -- the last place of the way
  abbrev last : ℕ
  last = get_or way (length way - 1) 0

  pub last_here : 0 < length way → last < length links
  last_here some = walk.on_way (length way - 1) 0 (omega arith)

  -- each place of the way reaches what its last place names
  pub way_reaches : 0 < length way → (c : ℕ) → Refers links last c → (k d : ℕ) → k < length way
      → Reaches (Refers links) (get_or way k d) c
  way_reaches some c r k d inside =
      elim (cases_lt k (length way - 1)) [
        | inl above ↦
            let down : Reaches (Refers links) (get_or way k 0) last =
            walk.line k (length way - 1) 0 above (omega arith) in
            subst (λ (x : ℕ). Reaches (Refers links) x c) (get_or_default way k 0 d inside)
            (reaches_last (Refers links) (get_or way k 0) last c down r)
        | inr at ↦
            let same : get_or way (length way - 1) 0 ≡ get_or way k d =
            ap (λ (i : ℕ). get_or way i 0) (let e : length way - 1 ≡ k = omega arith in e)
            ∙ get_or_default way k 0 d inside in
            subst (λ (x : ℕ). Reaches (Refers links) x c) same (reaches_once (Refers links) last c r)
      ]

  -- a child that is open is above, so it reaches itself
  pub walk_round : AreInRange links → 0 < length way → (c : ℕ) → Refers links last c → mark_at marks c ≡ Open
      → HasCycle links
  walk_round in_range some c r is_open =
      let above = walk.still_open c (in_range last c r) is_open in
      let down : Reaches (Refers links) (get_or way above.0 c) c = way_reaches some c r above.0 c above.1 in
      (c, subst (λ (x : ℕ). Reaches (Refers links) x c) above.2 down)

  -- down to a place that is new
  pub walk_down : (c : ℕ) → c < length links → mark_at marks c ≡ New
      → ((k d : ℕ) → k < length way → Reaches (Refers links) (get_or way k d) c)
      → IsWalk links (set marks c Open) next (way ++ c ∷ []) order
  walk_down c here is_new_c reaches =
      let inside : c < length marks = omega (arith, walk.marked) in
      record {
        marked = length-set marks c Open ∙ walk.marked;
        counted = walk.counted;
        on_way = All-push (λ x. x < length links) way c walk.on_way here;
        came = All-push (λ x. mark_at (set marks c Open) x ≢ New) way c
            (All-weaker (λ x. mark_at marks x ≢ New) (λ x. mark_at (set marks c Open) x ≢ New)
            (λ x old e. elim (mark_cases marks c x Open inside) [
              | inl at ↦ new-open (sym e ∙ at.1)
              | inr off ↦ old (sym off.1 ∙ e)
            ]) way walk.came)
            (λ e. new-open (sym e ∙ get_or-set_same marks c Open New inside));
        in_order = walk.in_order;
        done = λ x below e. elim (mark_cases marks c x Open inside) [
          | inl at ↦ absurd (open-done (sym at.1 ∙ e))
          | inr off ↦ walk.done x below (sym off.1 ∙ e)
        ];
        still_open = λ x below e. elim (mark_cases marks c x Open inside) [
          | inl at ↦ subst (λ (y : ℕ). Contains (way ++ c ∷ []) y) (sym at.0) (Contains-push way c)
          | inr off ↦ Contains-append_left way (c ∷ []) x (walk.still_open x below (sym off.1 ∙ e))
        ];
        after = walk.after;
        line = all_pairs_push (Reaches (Refers links)) way c walk.line reaches;
        passed = λ x k lower named.
            let old : mark_at marks (child_at links x k) ≡ Done = walk.passed x k lower named in
            elim (mark_cases marks c (child_at links x k) Open inside) [
              | inl at ↦ absurd (new-done (sym is_new_c ∙ sym (ap (mark_at marks) at.0) ∙ old))
              | inr off ↦ off.1 ∙ old
            ];
        all = omega (
          arith,
          walk.all,
          new_after marks c Open inside,
          ap {B = ℕ}
              (λ (m : Mark). cond (is_new m) 1 0) is_new_c,
          length_push way c,
        );
      }

  -- back from the last place of the way, whose children are all done
  pub walk_back : AreInRange links → 0 < length way
      → ((k : ℕ) → k < length (children_at links last) → mark_at marks (child_at links last k) ≡ Done)
      → IsWalk links (set marks last Done) next (take (length way - 1) way) (order ++ last ∷ [])
  walk_back in_range some all_done =
      let here : last < length links = last_here some in
      let inside : last < length marks = omega (arith, walk.marked) in
      let before = length way - 1 in
      let was : is_new (mark_at marks last) ≡ false = not_new (mark_at marks last) (walk.came before 0 (omega arith)) in
      record {
        marked = length-set marks last Done ∙ walk.marked;
        counted = walk.counted;
        on_way = All-take (λ x. x < length links) before way walk.on_way;
        came = All-weaker (λ x. mark_at marks x ≢ New) (λ x. mark_at (set marks last Done) x ≢ New)
            (λ x old e. elim (mark_cases marks last x Done inside) [
              | inl at ↦ new-done (sym e ∙ at.1)
              | inr off ↦ old (sym off.1 ∙ e)
            ]) (take before way) (All-take (λ x. mark_at marks x ≢ New) before way walk.came);
        in_order = All-push (λ x. x < length links) order last walk.in_order here;
        done = λ x below e. elim (mark_cases marks last x Done inside) [
          | inl at ↦ subst (λ (y : ℕ). Contains (order ++ last ∷ []) y) (sym at.0) (Contains-push order last)
          | inr off ↦ Contains-append_left order (last ∷ []) x (walk.done x below (sym off.1 ∙ e))
        ];
        still_open = λ x below e. elim (mark_cases marks last x Done inside) [
          | inl at ↦ absurd (open-done (sym e ∙ at.1))
          | inr off ↦
              let was_on : Contains (take before way ++ last ∷ []) x =
              subst (λ (xs : List ℕ). Contains xs x) (way_parts way some) (walk.still_open x below (sym off.1 ∙ e)) in
              elim (Contains-push_cases (take before way) last x was_on) [
                | inl on ↦ on
                | inr is_last ↦ absurd (off.0 (sym is_last))
              ]
        ];
        after = λ i y lower r. elim (cases_lt i (length order)) [
          | inl old ↦
              let same_place : get_or (order ++ last ∷ []) i 0 ≡ get_or order i 0 =
              get_or_append_left order (last ∷ []) 0 i old in
              let same_front : take i (order ++ last ∷ []) ≡ take i order =
              take-append-le i order (last ∷ []) (omega arith) in
              subst (λ (xs : List ℕ). Contains xs y) (sym same_front)
              (walk.after i y old (subst (λ (x : ℕ). Refers links x y) same_place r))
          | inr fresh ↦
              let at_end : length order ≡ i = omega (arith, length_push order last) in
              let is_last : get_or (order ++ last ∷ []) i 0 ≡ last = get_or_push order last 0 i at_end in
              let front : take i (order ++ last ∷ []) ≡ order = take_at order (last ∷ []) i at_end in
              let named : Refers links last y = subst (λ (x : ℕ). Refers links x y) is_last r in
              let is_child : child_at links last named.0 ≡ y =
              get_or_default (children_at links last) named.0 0 y named.1 ∙ named.2 in
              let is_done : mark_at marks y ≡ Done =
              subst (λ (x : ℕ). mark_at marks x ≡ Done) is_child (all_done named.0 named.1) in
              subst (λ (xs : List ℕ). Contains xs y) (sym front) (walk.done y (in_range last y named) is_done)
        ];
        line = λ i j d lower within.
            let in_way : j < before = omega (arith, length-take before way) in
            let pair = walk.line i j d lower (omega arith) in
            subst (λ (x : ℕ). Reaches (Refers links) x (get_or (take before way) j d))
            (sym (get_or-take before way i d (omega arith)))
            (subst (λ (y : ℕ). Reaches (Refers links) (get_or way i d) y)
            (sym (get_or-take before way j d in_way)) pair);
        passed = λ x k lower named.
            let old : mark_at marks (child_at links x k) ≡ Done = walk.passed x k lower named in
            elim (mark_cases marks last (child_at links x k) Done inside) [ inl at ↦ at.1 | inr off ↦ off.1 ∙ old ];
        all = omega (
          arith,
          walk.all,
          new_after marks last Done inside,
          ap {B = ℕ}
              (λ (b : Bool). cond b 1 0) was,
          length_push order last,
          length-take before way,
        );
      }
