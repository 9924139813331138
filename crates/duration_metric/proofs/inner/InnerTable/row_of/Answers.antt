-- A listed key has the count of its row.
use Rattle.std.proofs.Common.{map, position, sym, ap, ◌∙◌}
use Rattle.std.specs.Option.{option_map}
use Rattle.std.proofs.lemmas.Option.{slice_get-map}
use Rattle.predicate_state.specs.PredicateTable.{same_leaves}
use Rattle.predicate_state.proofs.KeyCountLemmas.{value_at_position, lookup_absent, no_key}
use Rattle.duration_metric.specs.InnerStands.{row_count}
use Rattle.duration_metric.proofs.InnerLemmas.{keys_of-counts}
use Rattle.duration_metric.proofs.inner.InnerTable.row_of.Goals as goal

-- a key without a place isn't found
pub returns-in_err-place-clause-count : goal.returns-in_err-place-clause-count
returns-in_err-place-clause-count c =
    let rows = c.args.self.now.keys.rows in
    rw c.from_residual.ensures
    (sym (lookup_absent (same_leaves c.args.key.now) (map row_count rows)
    (ap (position (same_leaves c.args.key.now)) (keys_of-counts rows) ∙ sym c.in_err-place.ensures.value)))

-- where a key stands, a row stands
pub returns-in_err-_key-clause-count : goal.returns-in_err-_key-clause-count
returns-in_err-_key-clause-count c =
    absurd (no_key c.args.self.now.keys.rows c.in_ok-place.place c.args.key.now (sym c.in_err-_key.ensures)
    c.in_ok-place.ensures.there)

pub returns-in_err-_key-clause-absent : goal.returns-in_err-_key-clause-absent
returns-in_err-_key-clause-absent c =
    absurd (no_key c.args.self.now.keys.rows c.in_ok-place.place c.args.key.now (sym c.in_err-_key.ensures)
    c.in_ok-place.ensures.there)

-- what stands at a key's place is what a look-up finds
pub returns-clause-count : goal.returns-clause-count
returns-clause-count c =
    let rows = c.args.self.now.keys.rows in
    value_at_position (same_leaves c.args.key.now) (map row_count rows) c.in_ok-place.place
    (row_count (c.in_ok-_key._key.now, c.in_ok-_key.inner.now))
    (ap (position (same_leaves c.args.key.now)) (keys_of-counts rows) ∙ sym c.in_ok-place.ensures.value)
    (slice_get-map row_count rows c.in_ok-place.place ∙ ap (option_map row_count) (sym c.in_ok-_key.ensures))

pub returns-clause-place : goal.returns-clause-place
returns-clause-place c =
    ap (position (same_leaves c.args.key.now)) (keys_of-counts c.args.self.now.keys.rows)
    ∙ sym c.in_ok-place.ensures.value
