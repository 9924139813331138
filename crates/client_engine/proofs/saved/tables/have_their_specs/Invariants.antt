-- The tables so far are kept as their predicates say.
use Rattle.std.proofs.Common.{take}
use Rattle.known_conditions.specs.KeptPredicates.{HaveTheirSpecs}
use Rattle.client_engine.proofs.saved.tables.have_their_specs.Given as goal

abbrev pub invariant-loop-place : goal.invariant-loop-place
invariant-loop-place l = HaveTheirSpecs (take l.place l.predicates) (take l.place l.tables)
