-- One step of a walk, over the lists that it holds.
use Rattle.std.proofs.Common.{◌≡◌, ℕ, ◌+◌, ◌-◌, ◌*◌, ◌<◌, ◌≤◌, cond, List, [], ◌∷◌, ◌++◌, length, get_or, set, take, sym, ap, subst, arith, ◌∙◌}
use Rattle.std.specs.List.{Contains, All, count_by}
use Rattle.std.proofs.lemmas.List.{length_push, length-take, get_or-set_same}
use Rattle.std.proofs.lemmas.List.Elements.{Contains-get_or}
use Rattle.link_graph.specs.Links.{children_at, Refers, AreInRange, HasCycle}
use Rattle.link_graph.specs.declared.walk.Mark.{Mark}
use Rattle.link_graph.specs.declared.walk.Mark.TheVariants.{New, Open, Done}
use Rattle.link_graph.specs.Descent.{is_new, mark_at, IsWalk}
use Rattle.link_graph.proofs.DescentLemmas.{walk_past, walk_down, walk_back, walk_round, way_reaches, last_here, new_after}

-- what a list of children names is there
pub children_below : (links : List (List ℕ)) (x : ℕ) (children : List ℕ) (n : ℕ) → AreInRange links
    → n ≡ length links → children ≡ children_at links x → All (λ y. y < n) children
children_below links x children n in_range many same k d inside =
    let named : Refers links x (get_or children k d) =
    subst (λ (xs : List ℕ). Contains xs (get_or children k d)) same (Contains-get_or children k d inside) in
    omega (arith, in_range x (get_or children k d) named)

module _ (links : List (List ℕ)) (marks : List Mark) (next way order : List ℕ)
    (walk : IsWalk links marks next way order) (in_range : AreInRange links) (some : 0 < length way) (p : ℕ)
    (is_last : p ≡ get_or way (length way - 1) 0) (children : List ℕ) (are_children : children ≡ children_at links p)
    (passed : ℕ) (done : (k : ℕ) → get_or next p 0 ≤ k → k < passed → mark_at marks (get_or children k 0) ≡ Done) where
  pub here : p < length links
  here = subst (λ (x : ℕ). x < length links) (sym is_last) (last_here links marks next way order walk some)

  pub past : IsWalk links marks (set next p passed) way order
  past = walk_past links marks next way order walk p passed here
      (λ k from to. subst (λ (xs : List ℕ). mark_at marks (get_or xs k 0) ≡ Done) are_children (done k from to))

  named : (k : ℕ) → k < length children → Refers links (get_or way (length way - 1) 0) (get_or children k 0)
  named k inside =
      let by_p : Refers links p (get_or children k 0) =
      subst (λ (xs : List ℕ). Contains xs (get_or children k 0)) are_children (Contains-get_or children k 0 inside) in
      subst (λ (x : ℕ). Refers links x (get_or children k 0)) is_last by_p

  -- where all children are done, back
  pub step_back : passed ≡ length children
      → IsWalk links (set marks p Done) (set next p passed) (take (length way - 1) way) (order ++ p ∷ [])
  step_back all =
      let last = get_or way (length way - 1) 0 in
      let same_children : children ≡ children_at links last = are_children ∙ ap (children_at links) is_last in
      let all_done : (k : ℕ) → k < length (children_at links last)
      → mark_at marks (get_or (children_at links last) k 0) ≡ Done =
      λ k inside. past.passed last k
      (subst (λ (x : ℕ). k < get_or (set next p passed) x 0) is_last
      (subst (λ (n : ℕ). k < n) (sym (get_or-set_same next p passed 0 (omega (arith, walk.counted, here))))
      (omega (arith, ap length same_children))))
      inside in
      subst (λ (x : ℕ). IsWalk links (set marks x Done) (set next p passed) (take (length way - 1) way)
      (order ++ x ∷ [])) (sym is_last)
      (walk_back links marks (set next p passed) way order past in_range some all_done)

  -- a child that is open is above
  pub step_round : passed < length children → mark_at marks (get_or children passed 0) ≡ Open → HasCycle links
  step_round inside is_open =
      walk_round links marks next way order walk in_range some (get_or children passed 0) (named passed inside) is_open

  -- down to a child that is neither done nor open
  pub step_down : passed < length children → mark_at marks (get_or children passed 0) ≡ New
      → IsWalk links (set marks (get_or children passed 0) Open) (set next p passed)
      (way ++ get_or children passed 0 ∷ []) order
  step_down inside is_new_child =
      let child = get_or children passed 0 in
      walk_down links marks (set next p passed) way order past child
      (in_range (get_or way (length way - 1) 0) child (named passed inside)) is_new_child
      (way_reaches links marks next way order walk some child (named passed inside))

-- what is left falls with a step down
pub less_down : (marks : List Mark) (way : List ℕ) (c : ℕ) → c < length marks → mark_at marks c ≡ New
    → 2 * count_by is_new (set marks c Open) + length (way ++ c ∷ []) < 2 * count_by is_new marks + length way
less_down marks way c here is_new_c =
    omega (
      arith,
      new_after marks c Open here,
      ap {B = ℕ}
          (λ (m : Mark). cond (is_new m) 1 0) is_new_c,
      length_push way c,
    )

-- and with a step back
pub less_back : (marks : List Mark) (way : List ℕ) (p : ℕ) → p < length marks → 0 < length way
    → 2 * count_by is_new (set marks p Done) + length
    (take (length way - 1) way) < 2 * count_by is_new marks + length way
less_back marks way p here some =
    omega (arith, new_after marks p Done here, length-take (length way - 1) way)

-- a walk over equal lists
pub same_walk : (links : List (List ℕ)) (marks marks' : List Mark) (next next' way way' order order' : List ℕ)
    → marks' ≡ marks → next' ≡ next → way' ≡ way → order' ≡ order → IsWalk links marks next way order
    → IsWalk links marks' next' way' order'
same_walk links marks marks' next next' way way' order order' m n w o walk = rw (m, n, w, o) walk
