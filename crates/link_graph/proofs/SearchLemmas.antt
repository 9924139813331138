-- The steps of a search.
use Rattle.std.proofs.Common.{◌≡◌, ℕ, zero, suc, ◌+◌, ◌<◌, ◌≤◌, ◌⊎◌, Bool, true, false, not, cond, List, [], ◌∷◌, ◌++◌, length, get_or, set, sym, ap, subst, inl, inr, arith, ◌∙◌}
use Rattle.std.specs.List.{Contains}
use Rattle.std.proofs.lemmas.Bool.{cases_eq, cases_lt, false≢true}
use Rattle.std.proofs.lemmas.List.{get_or-set_same, get_or-set_other, length-set, length_push, append_assoc, get_or_append_left, get_or_default, get_or_past, length-replicate}
use Rattle.std.proofs.lemmas.List.Elements.{Contains-push, Contains-push_cases, Contains-append_left, Contains-append_right, Contains-append_cases, Contains-get_or}
use Rattle.std.proofs.lemmas.List.Sums.{sum_by-set}
use Rattle.std.proofs.Math.ListN.{replicate}
use Rattle.std.proofs.Math.Nat.{mul-one}
use Rattle.std.proofs.lemmas.List.Folds.{sum_by-replicate}
use Rattle.link_graph.specs.Reaches.{Leads}
use Rattle.link_graph.specs.Links.{children_at, Refers, MarksReached}
use Rattle.link_graph.specs.Search.{mark_of, unmarked_count, MarksOne, MarksAll, IsSearch}
use Rattle.link_graph.proofs.ReachesLaws.{reaches_once, reaches_last}

module _ (children : List ℕ) (marks : List Bool) (found : List ℕ) (marks' : List Bool) (found' : List ℕ)
    (so_far : MarksAll children marks found marks' found') (c : ℕ) where
  -- one more that has its mark
  pub marks_old : mark_of marks' c ≡ true → MarksAll (children ++ c ∷ []) marks found marks' found'
  marks_old marked = record {
    added = so_far.added;
    front = so_far.front;
    named = λ y on. Contains-append_left children (c ∷ []) y (so_far.named y on);
    same = so_far.same;
    kept = so_far.kept;
    fresh = so_far.fresh;
    now = so_far.now;
    all = λ y on. elim (Contains-push_cases children c y on) [
      | inl before ↦ so_far.all y before
      | inr last ↦ subst (λ (x : ℕ). mark_of marks' x ≡ true) last marked
    ];
    count = so_far.count;
  }

  -- one more that gets its mark
  pub marks_new : c < length marks' → mark_of marks' c ≡ false
      → MarksAll (children ++ c ∷ []) marks found (set marks' c true) (found' ++ c ∷ [])
  marks_new here unmarked_c =
      let at_c : mark_of (set marks' c true) c ≡ true = get_or-set_same marks' c true false here in
      let stays : (y : ℕ) → mark_of marks' y ≡ true → mark_of (set marks' c true) y ≡ true =
      λ y e. elim (cases_eq y c) [
        | inl same ↦ subst (λ (x : ℕ). mark_of (set marks' c true) x ≡ true) (sym same) at_c
        | inr other ↦ get_or-set_other marks' c y true false other ∙ e
      ] in
      record {
        added = so_far.added ++ c ∷ [];
        front = ap (λ (xs : List ℕ). xs ++ c ∷ []) so_far.front ∙ append_assoc found so_far.added (c ∷ []);
        named = λ y on. elim (Contains-push_cases so_far.added c y on) [
          | inl before ↦ Contains-append_left children (c ∷ []) y (so_far.named y before)
          | inr last ↦ subst (λ (x : ℕ). Contains (children ++ c ∷ []) x) last (Contains-push children c)
        ];
        same = length-set marks' c true ∙ so_far.same;
        kept = λ y e. stays y (so_far.kept y e);
        fresh = λ y e. elim (cases_eq y c) [
          | inl same ↦ inr (subst (λ (x : ℕ). Contains (so_far.added ++ c ∷ []) x) (sym same)
              (Contains-push so_far.added c))
          | inr other ↦
              let was = so_far.fresh y (sym (get_or-set_other marks' c y true false other) ∙ e) in
              elim was [ inl old ↦ inl old | inr on ↦ inr (Contains-append_left so_far.added (c ∷ []) y on) ]
        ];
        now = λ y on. elim (Contains-push_cases so_far.added c y on) [
          | inl before ↦ stays y (so_far.now y before)
          | inr last ↦ subst (λ (x : ℕ). mark_of (set marks' c true) x ≡ true) last at_c
        ];
        all = λ y on. elim (Contains-push_cases children c y on) [
          | inl before ↦ stays y (so_far.all y before)
          | inr last ↦ subst (λ (x : ℕ). mark_of (set marks' c true) x ≡ true) last at_c
        ];
        count = omega (
          arith,
          so_far.count,
          length_push found' c,
          sum_by-set
              (λ b. cond (not b) 1 0) marks' c true false here,
          ap {B = ℕ} (λ (b : Bool). cond (not b) 1 0) unmarked_c,
        );
      }

  -- one more, either way
  pub marks_more : (marks'' : List Bool) (found'' : List ℕ) → c < length marks'
      → MarksOne c marks' found' marks'' found'' → MarksAll (children ++ c ∷ []) marks found marks'' found''
  marks_more marks'' found'' here one = elim one [
    | inl old ↦ rw (old.1, old.2) (marks_old old.0)
    | inr new ↦ rw (new.1, new.2) (marks_new here new.0)
  ]

none_marked : (n y : ℕ) → mark_of (replicate n false) y ≡ true → ⊥
none_marked zero y e = false≢true e
none_marked (suc n) zero e = false≢true e
none_marked (suc n) (suc y) e = none_marked n y e

all_unmarked : (n : ℕ) → unmarked_count (replicate n false) ≡ n
all_unmarked n = sum_by-replicate (λ b. cond (not b) 1 0) n false ∙ mul-one n

-- a mark stands within the marks
pub marked_below : (marks : List Bool) (y : ℕ) → mark_of marks y ≡ true → y < length marks
marked_below marks y e =
    elim (cases_lt y (length marks)) [
      | inl below ↦ below
      | inr past ↦ absurd (false≢true (sym (get_or_past marks y false past) ∙ e))
    ]

module _ (links : List (List ℕ)) (from : ℕ) where
  -- with the children of the place itself the search begins
  pub search_begins : (marks : List Bool) (found : List ℕ)
      → MarksAll (children_at links from) (replicate (length links) false) [] marks found
      → IsSearch links from marks found 0
  search_begins marks found first =
      let found_is : found ≡ first.added = first.front in
      record {
        marked = first.same ∙ length-replicate (length links) false;
        listed = λ y e. elim (first.fresh y e) [
          | inl old ↦ absurd (none_marked (length links) y old)
          | inr on ↦ subst (λ (xs : List ℕ). Contains xs y) (sym found_is) on
        ];
        now = λ y on. first.now y (subst (λ (xs : List ℕ). Contains xs y) found_is on);
        reached = λ y on. reaches_once (Refers links) from y
            (first.named y (subst (λ (xs : List ℕ). Contains xs y) found_is on));
        start = first.all;
        below = λ k y none. absurd (omega arith);
        count = omega (arith, first.count, all_unmarked (length links));
      }

  module _ (marks : List Bool) (found : List ℕ) (at : ℕ) (search : IsSearch links from marks found at) where
    -- and it goes on with the children of the next place that was found
    pub search_goes_on : (marks' : List Bool) (found' : List ℕ) → at < length found
        → MarksAll (children_at links (get_or found at 0)) marks found marks' found'
        → IsSearch links from marks' found' (at + 1)
    search_goes_on marks' found' inside next =
        let place = get_or found at 0 in
        let split : (y : ℕ) → Contains found' y → Contains found y ⊎ Contains next.added y =
        λ y on. Contains-append_cases found next.added y (subst (λ (xs : List ℕ). Contains xs y) next.front on) in
        let front : (k : ℕ) → k < length found → get_or found' k 0 ≡ get_or found k 0 =
        λ k h. ap (λ (xs : List ℕ). get_or xs k 0) next.front ∙ get_or_append_left found next.added 0 k h in
        record {
          marked = next.same ∙ search.marked;
          listed = λ y e. elim (next.fresh y e) [
            | inl old ↦ subst (λ (xs : List ℕ). Contains xs y) (sym next.front)
                (Contains-append_left found next.added y (search.listed y old))
            | inr on ↦ subst (λ (xs : List ℕ). Contains xs y) (sym next.front)
                (Contains-append_right found next.added y on)
          ];
          now = λ y on. elim (split y on) [ inl old ↦ next.kept y (search.now y old) | inr added ↦ next.now y added ];
          reached = λ y on. elim (split y on) [
            | inl old ↦ search.reached y old
            | inr added ↦ reaches_last (Refers links) from place y
                (search.reached place (Contains-get_or found at 0 inside)) (next.named y added)
          ];
          start = λ y r. next.kept y (search.start y r);
          below = λ k y lower in_found r. elim (cases_lt k at) [
            | inl old ↦
                next.kept y (search.below k y old (omega arith)
                (subst (λ (x : ℕ). Refers links x y) (front k (omega arith)) r))
            | inr here ↦
                let same : k ≡ at = omega arith in
                let is_place : get_or found' k 0 ≡ place = ap (λ (i : ℕ). get_or found' i 0) same ∙ front at inside in
                next.all y (subst (λ (x : ℕ). Refers links x y) is_place r)
          ];
          count = omega (arith, next.count, search.count);
        }

    -- what is marked has marked children, once all that was found is passed
    closed : length found ≤ at → (x : ℕ) → mark_of marks x ≡ true → (y : ℕ) → Refers links x y → mark_of marks y ≡ true
    closed past x e y r =
        let on = search.listed x e in
        let is_x : get_or found on.0 0 ≡ x = get_or_default found on.0 0 x on.1 ∙ on.2 in
        search.below on.0 y (omega (arith, on.1)) on.1 (subst (λ (z : ℕ). Refers links z y) (sym is_x) r)

    along : length found ≤ at → (x : ℕ) (via : List ℕ) (y : ℕ) → mark_of marks x ≡ true
        → Leads (Refers links) x via y → mark_of marks y ≡ true
    along past x [] y e r = closed past x e y r
    along past x (next ∷ via) y e r = along past next via y (closed past x e next r.0) r.1

    from_start : length found ≤ at → (via : List ℕ) (y : ℕ) → Leads (Refers links) from via y → mark_of marks y ≡ true
    from_start past [] y r = search.start y r
    from_start past (next ∷ via) y r = along past next via y (search.start next r.0) r.1

    -- at the end the marks say which places are reached
    pub search_ends : length found ≤ at → MarksReached links from marks
    search_ends past = record {
      each = search.marked;
      reached = λ y here. (λ e. search.reached y (search.listed y e), λ w. from_start past w.0 y w.1);
    }
