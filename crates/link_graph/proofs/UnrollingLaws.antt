-- Where each list of references ends, a function that follows them satisfies its equation.
use Rattle.std.proofs.Common.{◌≡◌, ℕ, zero, suc, ◌≤◌, List, arith}
use Rattle.link_graph.specs.Unrolling.{unroll, LooksDown}
use Rattle.link_graph.specs.Depth.{EndsWithin}

module _ {V : Type 0} (links : List (List ℕ)) (step : (ℕ → V) → ℕ → V) (deeper : V) (down : LooksDown links step) where
  -- deep enough is as good as deeper
  pub settled : (n x a b : ℕ) → EndsWithin links n x → n ≤ a → n ≤ b
      → unroll step deeper a x ≡ unroll step deeper b x
  settled zero x a b ends in_a in_b = absurd ends
  settled (suc n) x zero b ends in_a in_b = absurd (omega arith)
  settled (suc n) x (suc a) zero ends in_a in_b = absurd (omega arith)
  settled (suc n) x (suc a) (suc b) ends in_a in_b =
      down (unroll step deeper a) (unroll step deeper b) x
      (λ y r. settled n y a b (ends y r) (omega arith) (omega arith))

  -- the value at a place is that of the step, over the values themselves
  pub equation : (n x a : ℕ) → EndsWithin links n x → n ≤ a → unroll step deeper a x ≡ step (unroll step deeper a) x
  equation n x a ends in_a = settled n x a (suc a) ends in_a (omega arith)
