use Rattle.std.proofs.Common.{◌≡◌, ◌+◌, ◌<◌, ℕ, length, get_or, take, Some}
use Rattle.std.specs.List.{slice_get}
use Rattle.config_links.specs.declared.linked.LMatcher.{LMatcher}
use Rattle.matcher_table.specs.Slots.{matcher_at, times_among}
use Rattle.matcher_table.specs.Tables.{outside_uses}
use Rattle.matcher_table.specs.Contents.{contents_of}
use Rattle.held_slots.specs.Holdings.{in_slots}
use Rattle.held_slots.specs.HoldingSteps.{KeepsLive}
use Rattle.held_slots.proofs.HoldSteps.{uses_along}
use Rattle.held_slots.proofs.held.numbers_along.Given as goal

abbrev pub invariant-loop-place : goal.invariant-loop-place
invariant-loop-place l = record {
  long : length l.numbers.items ≡ length l.matchers;
  held : (p : ℕ) (m : LMatcher) → 0 < times_among p (take l.place-index l.order) → slice_get l.matchers p ≡ Some m
      → matcher_at (contents_of l.table).slots (get_or l.numbers.items p 0) ≡ Some (in_slots l.numbers.items m);
  uses : (s : ℕ) → outside_uses (contents_of l.table) s
      ≡ outside_uses (contents_of l.fn.table) s + uses_along l.numbers.items s (take l.place-index l.order);
  others : KeepsLive (contents_of l.fn.table) (contents_of l.table);
}
