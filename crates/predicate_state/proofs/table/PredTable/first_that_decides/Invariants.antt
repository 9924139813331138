use Rattle.std.proofs.Common.{◌≡◌, drop}
use Rattle.predicate_state.specs.PredicateTruths.{truth_of_entries}
use Rattle.predicate_state.proofs.table.PredTable.first_that_decides.Given as goal

-- the entries from here on give the answer
abbrev pub invariant-loop-place : goal.invariant-loop-place
invariant-loop-place l = let rows = l.self-inside.counts.rows in
    truth_of_entries l.is_one l.self-inside.unknown l.binds (drop l.place rows)
    ≡ truth_of_entries l.is_one l.self-inside.unknown l.binds rows
