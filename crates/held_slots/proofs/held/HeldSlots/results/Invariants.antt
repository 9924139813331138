-- There is a truth for each slot, and the slots before this place have given theirs.
use Rattle.std.proofs.Common.{◌≡◌, length, map, take}
use Rattle.matcher_table.specs.Tables.{result_at}
use Rattle.matcher_table.specs.Contents.{contents_of}
use Rattle.held_slots.proofs.held.HeldSlots.results.Given as goal

abbrev pub invariant-loop-place : goal.invariant-loop-place
invariant-loop-place l = record {
  long : length l.truths.items ≡ length l.self;
  given : take l.place l.truths.items ≡ map (result_at (contents_of l.table)) (take l.place l.self);
}
