-- The drops so far, before those of the predicates that are left.
use Rattle.std.proofs.Common.{◌≡◌, ◌++◌, drop}
use Rattle.known_conditions.specs.Known.{drops_in}
use Rattle.known_conditions.proofs.tables.drops_of.Given as goal

abbrev pub invariant-loop-place : goal.invariant-loop-place
invariant-loop-place l =
    l.drops ++ drops_in (drop l.place l.predicates) (drop l.place l.tables) ≡ drops_in l.predicates l.tables
