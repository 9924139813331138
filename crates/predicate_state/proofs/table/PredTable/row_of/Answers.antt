-- A listed key has the count of its row.
use Rattle.std.proofs.Common.{sym}
use Rattle.predicate_state.specs.PredicateTable.{same_leaves}
use Rattle.predicate_state.proofs.KeyCountLemmas.{value_at_position, lookup_absent, no_key}
use Rattle.predicate_state.proofs.table.PredTable.row_of.Goals as goal

-- a key without a place isn't found
pub returns-in_err-place-clause-count : goal.returns-in_err-place-clause-count
returns-in_err-place-clause-count c =
    rw (c.from_residual.ensures, ← c.self.view_is)
    (sym (lookup_absent (same_leaves c.args.key.now) c.self.inside.counts.rows (sym c.in_err-place.ensures.value)))

-- where a key stands, a row stands
pub returns-in_err-_key-clause-count : goal.returns-in_err-_key-clause-count
returns-in_err-_key-clause-count c =
    absurd (no_key c.self.inside.counts.rows c.in_ok-place.place c.args.key.now (sym c.in_err-_key.ensures)
    c.in_ok-place.ensures.there)

pub returns-in_err-_key-clause-absent : goal.returns-in_err-_key-clause-absent
returns-in_err-_key-clause-absent c =
    absurd (no_key c.self.inside.counts.rows c.in_ok-place.place c.args.key.now (sym c.in_err-_key.ensures)
    c.in_ok-place.ensures.there)

-- what stands at a key's place is what a look-up finds
pub returns-clause-count : goal.returns-clause-count
returns-clause-count c =
    rw (← c.self.view_is)
    (value_at_position (same_leaves c.args.key.now) c.self.inside.counts.rows c.in_ok-place.place
    (c.in_ok-_key._key.now, c.in_ok-_key.count.now) (sym c.in_ok-place.ensures.value) (sym c.in_ok-_key.ensures))
