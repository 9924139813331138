-- A key without a position is new; where there is no room it counts as dropped.
use Rattle.std.proofs.Common.{refl}
use Rattle.dim_table.proofs.KeyLemmas.{missing}
use Rattle.dim_table.proofs.table.Guarded.append_copy.Goals as goal

pub returns-then-is_full-clause-answer : goal.returns-then-is_full-clause-answer
returns-then-is_full-clause-answer g c = record {
  absent = missing _ g.met.K.Exact.exact _ _ c.requires;
  full = c.if-is_full.ensures.0 refl;
  added = c.turn_away.ensures;
}
