use Rattle.std.proofs.Common.{◌≡◌, ◌<◌, ◌⊎◌, ℕ, get_or, take, length, false}
use Rattle.matcher_table.specs.Slots.{times_among}
use Rattle.matcher_table.proofs.evaluation.put_back.Given as goal

abbrev pub invariant-loop-at : goal.invariant-loop-at
invariant-loop-at l = record {
  done : (s : ℕ) → times_among s (take l.from l.slots) < times_among s (take l.at l.slots)
      → get_or l.results s false ≡ get_or l.idle s false;
  either : (s : ℕ) → (get_or l.results s false ≡ get_or l.fn.results s false)
      ⊎ (get_or l.results s false ≡ get_or l.idle s false);
  same : length l.results ≡ length l.fn.results;
}
