-- A listed key has the count after one more start.
use Rattle.std.proofs.Common.{ℕ, List, sym, ap, ◌∙◌}
use Rattle.std.proofs.lemmas.Map.Steps.{set_value_same}
use Rattle.std.proofs.lemmas.Result.{on_ok_weaker}
use Rattle.predicate_state.specs.PredicateTable.{LeafKey, PredicateTable, same_leaves}
use Rattle.predicate_state.proofs.KeyCountLemmas.{set_at_position}
use Rattle.predicate_state.proofs.PredicateStateLemmas.{started}
use Rattle.duration_metric.specs.InnerStands.{kept_spec, state_in}
use Rattle.duration_metric.proofs.InnerLemmas.{changes_by, stays_as}
use Rattle.duration_metric.proofs.inner.InnerTable.start.Goals as goal

-- the count that it has is written, which changes nothing
pub returns-then-more-count : goal.returns-then-more-count
returns-then-more-count c =
    let it = c.args.self.now in
    let counts = (state_in it).counts in
    let place = c.in-Some.place in
    let count = c.in-Some.count in
    let table : PredicateTable = record { spec = kept_spec it; state = state_in it } in
    let same = set_at_position (same_leaves c.args.key.now) counts place count c.in-Some.ensures.place
    ∙ set_value_same (same_leaves c.args.key.now) counts count (sym c.in-Some.ensures.count) in
    stays_as it _
    (ap (λ (l : List (LeafKey × ℕ)). record (state_in it) { counts = l }) (sym same)
    ∙ ap (λ (t : PredicateTable). t.state)
    (started table c.args.key.now place count c.in-Some.ensures.count c.in-Some.ensures.place count
    (sym c.if-more-count.true ∙ c.add_start-more.ensures)))

pub returns-else-more-count : goal.returns-else-more-count
returns-else-more-count c =
    let table : PredicateTable = record { spec = kept_spec c.args.self.now; state = state_in c.args.self.now } in
    on_ok_weaker c.set_count.result (changes_by c.args.self.now c.set_count.new.self _ _
    (ap (λ (t : PredicateTable). t.state)
    (started table c.args.key.now c.in-Some.place c.in-Some.count c.in-Some.ensures.count c.in-Some.ensures.place
    c.add_start-more.result c.add_start-more.ensures)))
    c.set_count.ensures
