-- A whole walk leaves an order.
use Rattle.std.proofs.Common.{◌≡◌, ◌≢◌, ℕ, suc, ◌<◌, Bool, false, cond, List, [], ◌∷◌, length, set, inl, inr, refl, sym, ap, subst, arith, ◌∙◌}
use Rattle.std.specs.List.{Contains, count_by}
use Rattle.std.proofs.lemmas.List.{get_or-set_same}
use Rattle.std.proofs.lemmas.List.Sums.{sum_by-cons}
use Rattle.link_graph.specs.Links.{IsOrder}
use Rattle.link_graph.specs.declared.walk.Mark.{Mark}
use Rattle.link_graph.specs.declared.walk.Mark.TheVariants.{New, Open, Done}
use Rattle.link_graph.specs.Descent.{is_new, mark_at, IsWalk}
use Rattle.link_graph.proofs.DescentLemmas.{mark_cases, not_new, new-open}

-- where no mark says new, none is counted
none_new : (marks : List Mark) → ((k : ℕ) → k < length marks → mark_at marks k ≢ New) → count_by is_new marks ≡ 0
none_new [] none = refl
none_new (mark ∷ marks) none =
    let rest : count_by is_new marks ≡ 0 = none_new marks (λ k h. none (suc k) (omega arith)) in
    let here : is_new mark ≡ false = not_new mark (none 0 (omega arith)) in
    omega (arith, sum_by-cons (λ m. cond (is_new m) 1 0) mark marks, rest, ap {B = ℕ} (λ (b : Bool). cond b 1 0) here)

module _ (links : List (List ℕ)) (marks : List Mark) (next way order : List ℕ)
    (walk : IsWalk links marks next way order) where
  listed : way ≡ [] → (x : ℕ) → x < length links → (mark : Mark) → mark_at marks x ≡ mark → mark ≢ New
      → Contains order x
  listed back x here New e not_new = absurd (not_new refl)
  listed back x here Open e not_new =
      let on : Contains [] x = subst (λ (w : List ℕ). Contains w x) back (walk.still_open x here e) in
      absurd (omega (arith, on.1))
  listed back x here Done e not_new = walk.done x here e

  -- a walk that came to each place and is back leaves an order
  pub order_from_walk : way ≡ [] → ((x : ℕ) → x < length links → mark_at marks x ≢ New) → IsOrder links order
  order_from_walk back came = record {
    in_range = walk.in_order;
    each = λ x here. listed back x here (mark_at marks x) refl (came x here);
    once = omega (arith, walk.all, none_new marks (λ k h. came k (omega (arith, h, walk.marked))), ap length back);
    after = walk.after;
  }

-- a place that is open isn't new, and no other place became new
pub opened : (marks : List Mark) (c : ℕ) → c < length marks → mark_at (set marks c Open) c ≢ New
opened marks c here e = new-open (sym e ∙ get_or-set_same marks c Open New here)

pub opened_others : (marks : List Mark) (c x : ℕ) → c < length marks → mark_at (set marks c Open) x ≡ New
    → mark_at marks x ≡ New
opened_others marks c x here e =
    elim (mark_cases marks c x Open here) [ inl at ↦ absurd (new-open (sym e ∙ at.1)) | inr off ↦ sym off.1 ∙ e ]
