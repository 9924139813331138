use Rattle.std.proofs.Common.{◌≤◌, length}
use Rattle.matcher_table.specs.StoreParts.{StoreStands, Frees}
use Rattle.matcher_table.proofs.store.Store.sweep.Given as goal

abbrev pub invariant-loop-at : goal.invariant-loop-at
invariant-loop-at l = record {
  within : l.at ≤ length l.self.order.items;
  stands : StoreStands l.self l.at;
  frees : Frees l.fn.self l.self;
}

abbrev pub decreases-loop-at : goal.decreases-loop-at
decreases-loop-at l = l.at
