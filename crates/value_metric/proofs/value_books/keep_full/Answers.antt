-- The buckets come one after the other, and those that find no room all at once.
use Rattle.std.proofs.Common.{◌≡◌, ◌+◌, ◌<◌, sym, subst, arith, ◌∙◌}
use Rattle.std.specs.List.{flat_map}
use Rattle.bucket_meaning.specs.Limits.{time_limit}
use Rattle.kept_rows.specs.KeptRows.{AddsRows}
use Rattle.value_metric.specs.Totals.{total_rows, row_weighs}
use Rattle.value_metric.proofs.RowsKept.{AreAlong, same_count, first_end, along_first, along_next, along_fits, along_end, along_empty, along_full}
use Rattle.value_metric.proofs.value_books.keep_full.Goals as goal

-- no bucket has a row
pub returns-then-rows-eq0 : goal.returns-then-rows-eq0
returns-then-rows-eq0 c = λ fits.
    let buckets = c.args.buckets in
    let totals = c.args.table.now.rows in
    let end_is = first_end buckets.start buckets.size buckets.number c.saturating_add.result c.requires.some fits
    c.saturating_add.ensures in
    along_empty buckets.hides_zeros totals buckets.size buckets.start buckets.number c.args.kept.now
    c.in_ok-rows.rows c.keep_copies.new.kept 1 (buckets.start + buckets.size)
    (λ first last. c.in_ok-rows.ensures.1
    ∙ same_count buckets.hides_zeros totals buckets.start c.saturating_add.result first last)
    c.if-rows-eq0.true
    (along_first buckets.hides_zeros totals buckets.size buckets.start buckets.number c.args.kept.now
    c.in_ok-rows.rows c.keep_copies.new.kept c.requires.some
    (subst (λ end. AddsRows row_weighs c.args.kept.now c.keep_copies.new.kept
    (flat_map (total_rows buckets.hides_zeros buckets.start end) totals)) end_is c.in_ok-rows.ensures.0))

-- the first bucket's rows were kept or counted
pub loop-turn-init : goal.loop-turn-init
loop-turn-init c =
    let buckets = c.args.buckets in
    let totals = c.args.table.now.rows in (
      λ fits.
          let end_is = first_end buckets.start buckets.size buckets.number c.saturating_add.result c.requires.some
          fits c.saturating_add.ensures in
          subst (λ end. AreAlong buckets.hides_zeros totals buckets.size buckets.start buckets.number c.args.kept.now
          c.in_ok-rows.rows c.keep_copies.new.kept 1 end) (sym end_is)
          (along_first buckets.hides_zeros totals buckets.size buckets.start buckets.number c.args.kept.now
          c.in_ok-rows.rows c.keep_copies.new.kept c.requires.some
          (subst (λ end. AddsRows row_weighs c.args.kept.now c.keep_copies.new.kept
          (flat_map (total_rows buckets.hides_zeros buckets.start end) totals)) end_is c.in_ok-rows.ensures.0)),
      λ first last. c.in_ok-rows.ensures.1
          ∙ same_count buckets.hides_zeros totals buckets.start c.saturating_add.result first last,
    )

-- no row finds room any more
pub returns-then-is_full : goal.returns-then-is_full
returns-then-is_full c = λ fits.
    let buckets = c.args.buckets in
    along_full buckets.hides_zeros c.args.table.now.rows buckets.size buckets.start buckets.number c.args.kept.now
    c.in_ok-rows.rows c.loop-turn.kept c.pass.new.self c.loop-turn.turn c.loop-turn.end c.saturating_mul.result
    c.loop-turn.invariant.1 (c.loop-turn.invariant.0 fits) c.saturating_mul.ensures c.pass.ensures

-- one bucket more
pub loop-turn-preserved : goal.loop-turn-preserved
loop-turn-preserved c =
    let buckets = c.args.buckets in
    let totals = c.args.table.now.rows in
    let next = c.keep_copies-in-loop-turn.new.kept in
    let from = c.loop-turn.end in (
      λ fits.
          let along = c.loop-turn.invariant.0 fits in
          let next_fits : from + buckets.size < time_limit =
          along_fits buckets.hides_zeros totals buckets.size buckets.start buckets.number c.args.kept.now
          c.in_ok-rows.rows c.loop-turn.kept c.loop-turn.turn from c.loop-turn-test.true along fits in
          let end_is : c.saturating_add-in-loop-turn.result ≡ from + buckets.size =
          omega (arith, next_fits, c.saturating_add-in-loop-turn.ensures) in
          subst (λ end. AreAlong buckets.hides_zeros totals buckets.size buckets.start buckets.number c.args.kept.now
          c.in_ok-rows.rows next (c.loop-turn.turn + 1) end) (sym end_is)
          (along_next buckets.hides_zeros totals buckets.size buckets.start buckets.number c.args.kept.now
          c.in_ok-rows.rows c.loop-turn.kept next c.loop-turn.turn from c.loop-turn-test.true along
          (subst (λ end. AddsRows row_weighs c.loop-turn.kept next
          (flat_map (total_rows buckets.hides_zeros from end) totals)) end_is c.in_ok-keep_copies.ensures.0)),
      c.loop-turn.invariant.1,
    )

-- the last bucket's were kept or counted
pub returns : goal.returns
returns c = λ fits.
    let buckets = c.args.buckets in
    along_end buckets.hides_zeros c.args.table.now.rows buckets.size buckets.start buckets.number c.args.kept.now
    c.in_ok-rows.rows c.loop-turn.kept c.loop-turn.turn c.loop-turn.end c.loop-turn-test.false
    (c.loop-turn.invariant.0 fits)
