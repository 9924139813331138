-- The walk over the listed keys gives the answer.
use Rattle.std.proofs.Common.{◌≡◌, ℕ, Bool, true, false, ◌&&◌, ◌||◌, nat_lt, sym, ap, ◌∙◌}
use Rattle.predicate_state.specs.PredicateTable.{LeafKey}
use Rattle.predicate_state.specs.PredicateTruths.{agrees, truth_of_entries}
use Rattle.predicate_state.proofs.BindLemmas.{walk_on, walk_ends}
use Rattle.predicate_state.proofs.table.PredTable.first_that_decides.Goals as goal

pub returns-then-decides : goal.returns-then-decides
returns-then-decides c =
    let is_one = c.binds_every_leaf-is_one.result in
    let rows = c.self.inside.counts.rows in
    let binds = c.args.binds.now in
    let row : LeafKey × ℕ = (c.in-Some.key.now, c.in-Some.count.now) in
    let decides : (agrees binds row.0 && (is_one || nat_lt 0 row.1)) ≡ true =
    sym c.decides.ensures ∙ c.if-decides.true in
    rw (← c.self.view_is)
    (c.truth_of.ensures
    ∙ walk_ends is_one c.self.inside.unknown binds rows c.loop-place.place c.loop-place.invariant row
    (sym c.in-Some.ensures) decides
    ∙ ap (λ (b : Bool). truth_of_entries b c.self.inside.unknown binds rows) c.binds_every_leaf-is_one.ensures)

pub loop-place-preserved : goal.loop-place-preserved
loop-place-preserved c =
    let is_one = c.binds_every_leaf-is_one.result in
    let binds = c.args.binds.now in
    let row : LeafKey × ℕ = (c.in-Some.key.now, c.in-Some.count.now) in
    let passes : (agrees binds row.0 && (is_one || nat_lt 0 row.1)) ≡ false =
    sym c.decides.ensures ∙ c.if-decides.false in
    walk_on is_one c.self.inside.unknown binds c.self.inside.counts.rows c.loop-place.place c.loop-place.invariant row
    (sym c.in-Some.ensures) passes
